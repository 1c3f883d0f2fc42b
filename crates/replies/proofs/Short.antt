-- NO ANSWER IS LONG (`answer-short`): whatever the line, on a good shelf its answer has at most `longest_answer` bytes. A call returns few values, and what it
-- is lent stays as long as it was; the longest is a carry with 512 items lent, of 66 bytes each. By cases on the console's word.
use Prim.Native.Nat.{ℕ, ◌+◌, ◌≤◌, ◌<◌}
use native.Mathlib.Omega.{arith}
use mathlib.Core.Bool.{Bool}
use mathlib.Core.List.{List}
use lib.IntN.{ℤ}
use lib.ListN.{length, get_or, length-append, length-replicate}
use borrow.Author.Tests.{ltb-false}
use Rattle.std.specs.Prelude.{Option, Some, None, IfSome}
use Rattle.lines.specs.Ascii.{ascii}
use Rattle.lines.proofs.Text.{cond_cases, bytes-short}
use Rattle.notices.specs.Sentence.{notice, refusal_text}
use Rattle.notices.proofs.Room.{refusal-short}
use Rattle.conditions.specs.Conditions.{above}
use Rattle.recipes.specs.Codes.{recipe_by}
use Rattle.places.specs.declared.Shelf.{Shelf}
use Rattle.places.specs.Shelf.{Good}
use Rattle.shelf.specs.Run.{Call, operate, recipe, run}
use Rattle.shelf.proofs.Returns.{report-few, write-length, sentence-length, carry-length, rest-length}
use Rattle.answers.proofs.Lengths.{report-short, two-short, items-short, place_short}
use Rattle.requests.specs.declared.commands.Command.{Command}
use Rattle.requests.specs.declared.commands.Command.TheVariants.{Load, Write, Length, Drop, Operation, Recipe, Build, Minor, Carry, Reversals}
use Rattle.requests.specs.declared.commands.Command.TheVariants.{Add, Multiply, Divide, Rest, Sentence, Show}
use Rattle.requests.specs.declared.commands.Kind.{Kind}
use Rattle.requests.specs.declared.commands.Mode.{Mode}
use Rattle.requests.specs.declared.commands.Mode.TheVariants.{Direct, Foretold}
use Rattle.requests.specs.Requests.{Asked, request_of}
use Rattle.requests.proofs.Tails.{request-bytes}
use Rattle.replies.specs.Calls.{lent_count, lent_bytes, lent_items, task_of, show_text}
use Rattle.answers.specs.Answers.{two_texts}
use Rattle.replies.specs.Replies.{Reply, reply, told, told_worked, told_performed, told_bytes, told_items, operation_reply, recipe_reply, reply_by}
use Rattle.replies.specs.Replies.{reply_to, overlong, answer_to, reply_to_line, longest_answer}
use Rattle.replies.proofs.Lent.{length-items}

-- there is room for the end of the line
Short : Reply → Type 0
Short r = length r.text < longest_answer

module _ (s : Shelf) (c : Call) where
  told-short : (word : List ℕ) → length word ≤ 9 → Short (told word (run s c))
  unfolding Short
  told-short word h = omega (arith, report-short word (run s c).report, report-few s c)

  told-two : (word : List ℕ) (k : ℕ) (other : List ℕ) → length word + length other ≤ 18
      → Short (reply (run s c).shelf (two_texts word k other (run s c).report))
  unfolding Short
  told-two word k other h = omega (arith, two-short word k other (run s c).report, report-few s c)

  told-worked : Short (told_worked (run s c))
  told-worked = told-two (ascii "number") 2 (ascii " rest") (omega arith)

  told-performed : Short (told_performed (run s c))
  told-performed = told-two (ascii "bound") 1 (ascii " steps") (omega arith)

  told-bytes : (word : List ℕ) → length word ≤ 9 → length (run s c).bytes ≤ 2048 → Short (told_bytes word (run s c))
  unfolding Short
  told-bytes word h few =
      simp length-append (omega (arith, report-short word (run s c).report, report-few s c, bytes-short (run s c).bytes))

  told-items : (word : List ℕ) → length word ≤ 9 → length (run s c).items ≤ 1536 → Short (told_items word (run s c))
  unfolding Short
  told-items word h few =
      simp length-append (omega (arith, report-short word (run s c).report, report-few s c, items-short (run s c).items))

lent-bytes : (n : ℕ) → length (lent_bytes (lent_count n)) ≤ 512
lent-bytes n = simp length-replicate (omega arith)

lent-items : (n : ℕ) → length (lent_items (lent_count n)) ≤ 1536
lent-items n = omega (arith, length-items (lent_count n))

show-short : (s : Shelf) → Good s → (p : ℕ) → length (show_text s p) ≤ 6300
unfolding show_text
show-short s g p =
    cond_cases (λ t. length t ≤ 6300) (above p) {a = refusal_text 1 0} (λ e. omega (arith, refusal-short 1 0))
    (λ e. place_short s p (g.held p (omega (arith, ltb-false 7 p e))).few)

operation-short : (s : Shelf) (mode : Mode) (kind : Kind) (v : List ℕ) → Short (operation_reply s mode kind v)
operation-short s Direct kind v = told-performed s (operate (task_of kind v) (get_or v 3 0))
operation-short s Foretold kind v = told-short s _ (ascii "steps") (omega arith)

recipe-short : (s : Shelf) (mode : Mode) (v codes : List ℕ) → Short (recipe_reply s mode v codes)
recipe-short s Direct v codes = told-performed s (recipe (recipe_by codes) (get_or v 3 0))
recipe-short s Foretold v codes = told-short s _ (ascii "steps") (omega arith)

-- THE CONSOLE'S WORDS
by-short : (s : Shelf) → Good s → (c : Command) (v bytes : List ℕ) (items : List ℤ) (wholes : List ℕ) → length bytes ≤ 2048
    → Short (reply_by s c v bytes items wholes)
unfolding reply_by Short
by-short s g Load v bytes items wholes h = told-short s _ (ascii "loaded") (omega arith)
by-short s g Write v bytes items wholes h =
    told-bytes s _ (ascii "wrote") (omega arith)
    (omega (arith, write-length s (get_or v 0 0) (lent_bytes (lent_count (get_or v 1 0))), lent-bytes (get_or v 1 0)))
by-short s g Length v bytes items wholes h = told-short s _ (ascii "length") (omega arith)
by-short s g Drop v bytes items wholes h = told-short s _ (ascii "dropped") (omega arith)
by-short s g (Operation mode kind) v bytes items wholes h = operation-short s mode kind v
by-short s g (Recipe mode) v bytes items wholes h = recipe-short s mode v wholes
by-short s g Build v bytes items wholes h = told-short s _ (ascii "bound") (omega arith)
by-short s g Minor v bytes items wholes h = told-short s _ (ascii "number") (omega arith)
by-short s g Carry v bytes items wholes h =
    told-items s _ (ascii "carried") (omega arith)
    (omega (arith, carry-length s (get_or v 0 0) items (lent_items (lent_count (get_or v 1 0))), lent-items (get_or v 1 0)))
by-short s g Reversals v bytes items wholes h = told-short s _ (ascii "reversals") (omega arith)
by-short s g Add v bytes items wholes h = told-worked s _
by-short s g Multiply v bytes items wholes h = told-worked s _
by-short s g Divide v bytes items wholes h = told-worked s _
by-short s g Rest v bytes items wholes h = told-bytes s _ (ascii "rest") (omega arith) (omega (arith, rest-length s bytes))
by-short s g Sentence v bytes items wholes h =
    told-bytes s _ (ascii "wrote") (omega arith)
    (omega (arith, sentence-length s (notice (get_or v 1 0) (get_or v 2 0) wholes) (lent_bytes (lent_count (get_or v 0 0))), lent-bytes (get_or v 0 0)))
by-short s g Show v bytes items wholes h = omega (arith, show-short s g (get_or v 0 0))

asked-short : (s : Shelf) → Good s → (o : Option Asked) → IfSome o (λ a. length a.bytes ≤ 2048) → Short (reply_to s o)
unfolding Short reply_to
asked-short s g (Some a) h = by-short s g a.command a.values a.bytes a.items a.wholes h
asked-short s g None h = omega arith

-- THE ANSWER TO A LINE, its end counted
pub answer-short : (s : Shelf) → Good s → (long : Bool) (line : List ℕ) → length (reply_to_line s long line).text ≤ longest_answer
unfolding Short answer_to
answer-short s g long line =
    let l : Short (answer_to s long line) =
    cond_cases Short (overlong long line) (λ e. omega arith) (λ e. asked-short s g (request_of line) (request-bytes line)) in
    simp length-append (omega arith)
