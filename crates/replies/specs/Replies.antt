-- What the console does with a line (`reply_to_line`), by what it asks (`reply_to`): the shelf after it, and the text of its answer. A word of the console is
-- one row (`reply_by`): the call that it asks for, the word of the answer, and whether the bytes or items that the call left follow that.
use Rattle.std.specs.Prelude.{ℕ, ◌≡◌, Bool, cond, ◌||◌, List, ◌++◌, ltb, ℤ, length, get_or, Option, Some, None}
use Rattle.lines.specs.Ascii.{ascii}
use Rattle.lines.specs.Text.{Puts}
use Rattle.rests.specs.declared.Operator.TheVariants as Operator
use Rattle.recipes.specs.Codes.{recipe_by}
use Rattle.places.specs.declared.Shelf.{Shelf}
use Rattle.places.specs.Outcome.{Outcome}
use Rattle.notices.specs.Sentence.{notice}
use Rattle.shelf.specs.Run.{run, load, write, byte_length, drop, operate, forecast, recipe, forecast_recipe, build, minor, carry, reversals}
use Rattle.shelf.specs.Run.{arithmetic, rest, sentence}
use Rattle.answers.specs.Answers.{report_text, performed_text, worked_text, with_bytes, bad_text}
use Rattle.answers.specs.Items.{with_items}
use Rattle.replies.specs.declared.calls.Answered.{Answered}
use Rattle.requests.specs.declared.commands.Command.{Command}
use Rattle.requests.specs.declared.commands.Command.TheVariants.{Load, Write, Length, Drop, Operation, Recipe, Build, Minor, Carry, Reversals}
use Rattle.requests.specs.declared.commands.Command.TheVariants.{Add, Multiply, Divide, Rest, Sentence, Show}
use Rattle.requests.specs.declared.commands.Kind.{Kind}
use Rattle.requests.specs.declared.commands.Mode.{Mode}
use Rattle.requests.specs.declared.commands.Mode.TheVariants.{Direct, Foretold}
use Rattle.requests.specs.Requests.{Asked, request_of}
use Rattle.replies.specs.Calls.{lent_count, lent_bytes, lent_items, mask, task_of, show_text}

pub record Reply : Type 0 where
  pub shelf : Shelf
  pub text : List ℕ

-- a reply was given: its shelf is handed back, and its text was put at an index of `out`, which is `after` then
pub record Replied (reply : Reply) (out : List ℕ) (at : ℕ) (after : List ℕ) (r : Answered) : Type 0 where
  pub shelf : r.shelf ≡ reply.shelf
  pub text : Puts out at reply.text after r.at

-- the reply to a call, by what it did: the shelf, and the text of its report
abbrev pub told : (word : List ℕ) → Outcome → Reply
told word o = record { shelf = o.shelf; text = report_text word o.report }

-- the same for a result with its rest
abbrev pub told_worked : Outcome → Reply
told_worked o = record { shelf = o.shelf; text = worked_text o.report }

-- and for an operation, which has a bound and steps
abbrev pub told_performed : Outcome → Reply
told_performed o = record { shelf = o.shelf; text = performed_text o.report }

-- and behind that all the bytes, or items, as the call left them
abbrev pub told_bytes : (word : List ℕ) → Outcome → Reply
told_bytes word o = record { shelf = o.shelf; text = with_bytes (report_text word o.report) o.bytes }

abbrev pub told_items : (word : List ℕ) → Outcome → Reply
told_items word o = record { shelf = o.shelf; text = with_items (report_text word o.report) o.items }

-- the console's own answers leave the shelf as it is
abbrev pub reply : Shelf → List ℕ → Reply
reply s text = record { shelf = s; text = text }

-- AN OPERATION AS IT IS ASKED FOR, with its numbers v, of which the last is its target: worked, or foretold
abbrev pub operation_reply : Shelf → Mode → Kind → (v : List ℕ) → Reply
operation_reply s Direct kind v = told_performed (run s (operate (task_of kind v) (get_or v 3 0)))
operation_reply s Foretold kind v = told (ascii "steps") (run s (forecast (task_of kind v)))

-- A RECIPE likewise, with the codes of its steps
abbrev pub recipe_reply : Shelf → Mode → (v codes : List ℕ) → Reply
recipe_reply s Direct v codes = told_performed (run s (recipe (recipe_by codes) (get_or v 3 0)))
recipe_reply s Foretold v codes = told (ascii "steps") (run s (forecast_recipe (recipe_by codes)))

-- THE CONSOLE'S WORDS, each with its numbers v, bytes, items and whole numbers
unfoldable pub reply_by : Shelf → Command → (v bytes : List ℕ) → List ℤ → (wholes : List ℕ) → Reply
reply_by s Load v bytes items wholes = told (ascii "loaded") (run s (load (get_or v 0 0) bytes))
reply_by s Write v bytes items wholes = told_bytes (ascii "wrote") (run s (write (get_or v 0 0) (lent_bytes (lent_count (get_or v 1 0)))))
reply_by s Length v bytes items wholes = told (ascii "length") (run s (byte_length (get_or v 0 0)))
reply_by s Drop v bytes items wholes = told (ascii "dropped") (run s (drop (get_or v 0 0)))
reply_by s (Operation mode kind) v bytes items wholes = operation_reply s mode kind v
reply_by s (Recipe mode) v bytes items wholes = recipe_reply s mode v wholes
reply_by s Build v bytes items wholes = told (ascii "bound") (run s (build (get_or v 0 0) wholes))
reply_by s Minor v bytes items wholes = told (ascii "number") (run s (minor (get_or v 0 0) (mask (get_or v 1 0)) (mask (get_or v 2 0))))
reply_by s Carry v bytes items wholes = told_items (ascii "carried") (run s (carry (get_or v 0 0) items (lent_items (lent_count (get_or v 1 0)))))
reply_by s Reversals v bytes items wholes = told (ascii "reversals") (run s (reversals items))
reply_by s Add v bytes items wholes = told_worked (run s (arithmetic Operator.Add items))
reply_by s Multiply v bytes items wholes = told_worked (run s (arithmetic Operator.Multiply items))
reply_by s Divide v bytes items wholes = told_worked (run s (arithmetic Operator.Divide items))
reply_by s Rest v bytes items wholes = told_bytes (ascii "rest") (run s (rest bytes))
reply_by s Sentence v bytes items wholes =
    told_bytes (ascii "wrote") (run s (sentence (notice (get_or v 1 0) (get_or v 2 0) wholes) (lent_bytes (lent_count (get_or v 0 0)))))
reply_by s Show v bytes items wholes = reply s (show_text s (get_or v 0 0))

-- a request, or a line that is none
unfoldable pub reply_to : Shelf → Option Asked → Reply
reply_to s (Some a) = reply_by s a.command a.values a.bytes a.items a.wholes
reply_to s None = reply s bad_text

-- a line is too long that has more than 4096 bytes, or whose start was thrown away
abbrev pub overlong : (long : Bool) → List ℕ → Bool
overlong long line = long || ltb 4096 (length line)

-- a line, its end not counted: no request where it is too long
unfoldable pub answer_to : Shelf → (long : Bool) → List ℕ → Reply
answer_to s long line = cond (overlong long line) (reply s bad_text) (reply_to s (request_of line))

-- THE REPLY TO A LINE: the answer, and the end of its line
abbrev pub reply_to_line : Shelf → (long : Bool) → List ℕ → Reply
reply_to_line s long line = reply (answer_to s long line).shelf ((answer_to s long line).text ++ ascii "\n")

-- no answer has more bytes, its end counted
abbrev pub longest_answer : ℕ
longest_answer = 34000
