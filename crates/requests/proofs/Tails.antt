-- What stands behind a request's numbers: nothing (`nothing-more`, `nothing_left`), the last word as bytes (`last-more`, `last-read`), two items (`two-read`,
-- `two-other`); the request by its parts (`request-is`); and how many bytes it has at most (`request-bytes`).
use Prim.Native.Nat.{ℕ, ◌*◌, ◌/◌, ◌≤◌, ◌<◌}
use native.Mathlib.Nat.{zero-add, mul-one}
use native.Mathlib.Omega.{arith}
use mathlib.Core.Path.{◌≡◌, refl, sym, ap, ◌∙◌}
use mathlib.Core.Bool.{Bool, true, false, cond, not, ◌&&◌}
use mathlib.Core.List.{List, [], ◌∷◌}
use lib.Dec.{ltb}
use lib.IntN.{ℤ}
use lib.ListN.{length, take, length-take}
use lib.Seq.{sets}
use borrow.Author.Tests.{ltb-true, ltb-false, not-true}
use Rattle.std.specs.Prelude.{Option, Some, None, IfSome}
use Rattle.number.proofs.Tests.{both}
use Rattle.lines.specs.Words.{word_at, next_word}
use Rattle.lines.specs.Hexadecimal.{hexadecimal, spelled_bytes, bytes_read, bytes_into}
use Rattle.lines.proofs.Words.{word-past}
use Rattle.requests.specs.declared.commands.Command.{Command}
use Rattle.requests.specs.declared.commands.Form.{Form}
use Rattle.requests.specs.declared.commands.Mode.{Mode}
use Rattle.requests.specs.declared.commands.Mode.TheVariants.{Direct, Foretold}
use Rattle.requests.specs.declared.commands.Tail.{Tail}
use Rattle.requests.specs.declared.commands.Tail.TheVariants.{Bytes, Items, Two, Wholes}
use Rattle.requests.specs.declared.commands.Tail.TheVariants as tail
use Rattle.requests.specs.Words.{words_of, words_at, first_word, words_behind}
use Rattle.requests.specs.Commands.{mode_of, form_by}
use Rattle.requests.specs.Lists.{list_read}
use Rattle.requests.specs.Items.{spelled_items}
use Rattle.requests.specs.Wholes.{spelled_wholes}
use Rattle.requests.specs.Requests.{Asked, Values, asked_alone, asked_bytes, asked_items, asked_wholes, bad, letter_numbers, with_nothing, with_list}
use Rattle.requests.specs.Requests.{last_bytes, two_items, with_tail, form_request, own_words, start_of, request_by, request_of}
use Rattle.requests.proofs.Listed.{Counted, take-sets}
use Rattle.requests.proofs.Triples.{items-counted}
use Rattle.requests.proofs.Words.{words-at, words-past, words-all, first-word, words-behind}

module _ (command : Command) (values line : List ℕ) (at : ℕ) where
  pub nothing-more : at ≤ length line → bad ≡ with_nothing command values (words_at line at)
  nothing-more h = rw (words-at line at h)

  pub nothing_left : length line < at → Some (asked_alone command values) ≡ with_nothing command values (words_at line at)
  nothing_left h = rw (words-past line at h)

module _ (line : List ℕ) (at : ℕ) where
  more_by : (t : Bool) → ltb (length line) at ≡ t → next_word line at ≤ length line → None ≡ last_bytes (words_at line at)
  more_by true e h =
      let l = ltb-true (length line) at e in
      let m : at ≤ length line = rw e at h in
      absurd (omega arith)
  more_by false e h = rw (words-at line at (ltb-false _ _ e), words-at line (next_word line at) h)

  pub last-more : next_word line at ≤ length line → None ≡ last_bytes (words_at line at)
  last-more = more_by (ltb (length line) at) refl

-- a word as bytes
abbrev of_word : List ℕ → Option (List ℕ)
of_word w = cond (hexadecimal w && not (ltb 2048 (length w / 2))) (Some (spelled_bytes w)) None

module _ (line : List ℕ) (at : ℕ) (h : length line < next_word line at) where
  one-by : (t : Bool) → ltb (length line) at ≡ t → of_word (word_at line at) ≡ last_bytes (words_at line at)
  one-by true e = rw (e, word-past line at (ltb-true _ _ e))
  one-by false e = rw (words-at line at (ltb-false _ _ e), words-past line (next_word line at) h)

  one_word : of_word (word_at line at) ≡ last_bytes (words_at line at)
  one_word = one-by (ltb (length line) at) refl

length-bytes : (s : List ℕ) → length (spelled_bytes s) ≡ length s / 2
unfolding spelled_bytes
length-bytes [] = refl
length-bytes (a ∷ []) = refl
length-bytes (a ∷ b ∷ s) =
    let e = length-bytes s in
    omega arith

take-set : (v b : List ℕ) → length v ≤ length b → take (length v) (sets b 0 v) ≡ v
take-set v b h = rw zero-add at (take-sets b v 0 (omega arith))

small : (n : ℕ) (x : Bool) → x && not (ltb 2048 n) ≡ true → n ≤ 2048
small n x e = ltb-false _ _ (not-true (ltb 2048 n) (both x (not (ltb 2048 n)) e).1)

-- what was read of a word are its bytes
read_by : (v b : List ℕ) (n : ℕ) (t : Bool) → (t ≡ true → take n (sets b 0 v) ≡ v)
    → list_read 1 (cond t (sets b 0 v) b) (cond t (Some n) None) ≡ cond t (Some v) None
read_by v b n true f = rw (mul-one, f refl)
read_by v b n false f = refl

module _ (line : List ℕ) (at : ℕ) (h : length line < next_word line at) (b : List ℕ) (long : length b ≡ 2048) where
  pub last-read : list_read 1 (bytes_into (word_at line at) b) (bytes_read (word_at line at) b) ≡ last_bytes (words_at line at)
  last-read =
      let w : List ℕ = word_at line at in
      let f : hexadecimal w && not (ltb 2048 (length w / 2)) ≡ true → take (length w / 2) (sets b 0 (spelled_bytes w)) ≡ spelled_bytes w =
      λ t.
      let l : length (spelled_bytes w) ≤ length b = omega (arith, small (length w / 2) (hexadecimal w) t, length-bytes w) in
      rw (← length-bytes w) (take-set (spelled_bytes w) b l)
      in
      rw long (read_by (spelled_bytes w) b (length w / 2) (hexadecimal w && not (ltb 2048 (length w / 2))) f) ∙ one_word line at h

-- two items are six numbers
two-kept : (ws : List (List ℕ)) → length ws ≡ 2 → spelled_items 16 ws ≡ two_items ws
two-kept [] e = absurd (omega arith)
two-kept (w ∷ []) e = absurd (omega arith)
two-kept (w ∷ v ∷ []) e = refl
two-kept (w ∷ v ∷ u ∷ ws) e = absurd (omega arith)

-- two words are read where there are two
read-two : (list : List ℤ) (n : ℕ) (o : Option (List ℤ)) (m : ℕ) → 48 ≤ length list → Counted 3 m o → Some (take (n * 3) list) ≡ o
    → (n ≡ 2 → m ≡ 2) × (m ≡ 2 → n ≡ 2)
read-two list n None m room h e = cc
read-two list n (Some l) m room h e =
    let s : take (n * 3) list ≡ l = cc in
    (λ i. omega (arith, length-take (n * 3) list, ap length s), λ i. omega (arith, length-take (n * 3) list, ap length s))

two-none : (ws : List (List ℕ)) → (length ws ≡ 2 → ⊥) → None ≡ two_items ws
two-none [] f = refl
two-none (w ∷ []) f = refl
two-none (w ∷ v ∷ []) f = absurd (f refl)
two-none (w ∷ v ∷ u ∷ ws) f = refl

pub two-nothing : (ws : List (List ℕ)) → None ≡ spelled_items 16 ws → None ≡ two_items ws
two-nothing [] e = refl
two-nothing (w ∷ []) e = refl
two-nothing (w ∷ v ∷ []) e = e
two-nothing (w ∷ v ∷ u ∷ ws) e = refl

module _ (list : List ℤ) (room : 48 ≤ length list) (ws : List (List ℕ)) (n : ℕ) (read : Some (take (n * 3) list) ≡ spelled_items 16 ws) where
  pub two-read : n ≡ 2 → Some (take (n * 3) list) ≡ two_items ws
  two-read e = read ∙ two-kept ws ((read-two list n (spelled_items 16 ws) (length ws) room (items-counted 16 ws) read).0 e)

  pub two-other : (n ≡ 2 → ⊥) → None ≡ two_items ws
  two-other f = two-none ws (λ e. f ((read-two list n (spelled_items 16 ws) (length ws) room (items-counted 16 ws) read).1 e))

own-words : (mode : Mode) (line : List ℕ) → words_at line (start_of mode line) ≡ own_words mode (words_of line)
own-words Direct line = words-all line
own-words Foretold line = sym (words-behind line 0) ∙ ap words_behind (words-all line)

module _ (line : List ℕ) (mode : Mode) (form : Option Form) (start next : ℕ) where
  -- the request by the form that was found and the index behind its word
  pub request-is : mode ≡ mode_of (word_at line 0) → start ≡ start_of mode line → form ≡ form_by mode (word_at line start) → next ≡ next_word line start
      → form_request form (words_at line next) ≡ request_of line
  unfolding request_of
  request-is em es ef en =
      let first : first_word (words_of line) ≡ word_at line 0 = ap first_word (sym (words-all line)) ∙ first-word line 0 in
      let word : first_word (own_words mode (words_of line)) ≡ word_at line (start_of mode line)
      = ap first_word (sym (own-words mode line)) ∙ first-word line (start_of mode line) in
      let behind : words_behind (own_words mode (words_of line)) ≡ words_at line (next_word line (start_of mode line))
      = ap words_behind (sym (own-words mode line)) ∙ words-behind line (start_of mode line) in
      let same : form_request form (words_at line next) ≡ request_by mode (words_of line) = rw (en, ef, es, word, behind) in
      same ∙ ap (λ m. request_by m (words_of line)) (em ∙ ap mode_of (sym first))

-- only a word in hexadecimal gives a request bytes, and at most 2048
abbrev FewBytes : Option Asked → Type 0
FewBytes o = IfSome o (λ a. length a.bytes ≤ 2048)

list-few : {A : Type 0} (ask : List A → Asked) → ((l : List A) → length (ask l).bytes ≤ 2048) → (o : Option (List A)) → FewBytes (with_list ask o)
list-few ask h (Some l) = h l
list-few ask h None = tt

last-few : (command : Command) (values w : List ℕ) (t : Bool) → (t ≡ true → length w / 2 ≤ 2048)
    → FewBytes (with_list (asked_bytes command values) (cond t (Some (spelled_bytes w)) None))
last-few command values w true f = omega (arith, f refl, length-bytes w)
last-few command values w false f = tt

words-few : (command : Command) (t : Tail) (values : List ℕ) (ws : List (List ℕ))
    → FewBytes (with_tail command t (Some (record { values = values; left = ws })))
words-few command tail.None values [] = omega arith
words-few command tail.None values (w ∷ ws) = tt
words-few command Bytes values [] = tt
words-few command Bytes values (w ∷ []) =
    last-few command values w (hexadecimal w && not (ltb 2048 (length w / 2))) (small (length w / 2) (hexadecimal w))
words-few command Bytes values (w ∷ v ∷ ws) = tt
words-few command Items values ws = list-few (asked_items command values) (λ l. omega arith) (spelled_items 16 ws)
words-few command Two values ws = list-few (asked_items command values) (λ l. omega arith) (two_items ws)
words-few command (Wholes member) values ws = list-few (asked_wholes command values) (λ l. omega arith) (spelled_wholes member 16 ws)

tail-few : (command : Command) (t : Tail) (o : Option Values) → FewBytes (with_tail command t o)
tail-few command t None = tt
tail-few command t (Some v) = words-few command t v.values v.left

form-few : (form : Option Form) (ws : List (List ℕ)) → FewBytes (form_request form ws)
form-few None ws = tt
form-few (Some f) ws = tail-few f.command f.tail (letter_numbers f.letters ws)

pub request-bytes : (line : List ℕ) → IfSome (request_of line) (λ a. length a.bytes ≤ 2048)
unfolding request_of
request-bytes line =
    let mode = mode_of (first_word (words_of line)) in
    let ws = own_words mode (words_of line) in
    form-few (form_by mode (first_word ws)) (words_behind ws)
