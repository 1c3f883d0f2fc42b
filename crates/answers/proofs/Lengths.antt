-- HOW LONG ANSWERS ARE at most: a number has 21 bytes and a space before it, so a report has so many for each value (`report-short`, `two-short`), items
-- three times as many each (`items-short`), and what a place holds is a report for each of its factors (`place_short`).
use Prim.Native.Nat.{ℕ, zero, suc, ◌+◌, ◌-◌, ◌*◌, ◌≤◌}
use native.Mathlib.Omega.{arith}
use mathlib.Core.List.{List, [], ◌∷◌}
use lib.IntN.{ℤ, nat_abs}
use lib.ListN.{length, take, drop, length-append, length-take, length-drop}
use Rattle.number.specs.Integer.{is_negative}
use Rattle.words.specs.Word.{ascending}
use Rattle.lines.specs.Ascii.{ascii}
use Rattle.lines.proofs.Decimals.{signed-short}
use Rattle.lines.proofs.Text.{cond_cases, spaced-short}
use Rattle.verdict.specs.Report.{Report, accepted, refused}
use Rattle.notices.proofs.Room.{refusal-short}
use Rattle.conditions.specs.Conditions.{empty}
use Rattle.places.specs.declared.Shelf.{Shelf}
use Rattle.places.specs.Shelf.{rows_at}
use Rattle.shelf.specs.Calls.{rows_call, factor_call}
use Rattle.shelf.proofs.Returns.{values_of}
use Rattle.answers.specs.Answers.{integer_text, values_text, report_text, two_texts}
use Rattle.answers.specs.Items.{item_text, more_items, items_text}
use Rattle.answers.specs.Matrix.{factor_text, row_text, factors_text, place_text}

integer-short : (x : ℤ) → length (integer_text x) ≤ 21
unfolding integer_text
integer-short x = signed-short (is_negative x) (nat_abs x)

values-short : (values : List ℤ) → length (values_text values) ≤ 22 * length values
values-short = spaced-short integer_text 21 integer-short

-- with room for a refusal
pub report-short : (word : List ℕ) (r : Report) → length (report_text word r) ≤ length word + 22 * length (values_of r) + 52
report-short word (accepted values) = simp length-append (omega (arith, values-short values))
report-short word (refused number offset) = omega (arith, refusal-short number offset)

pub two-short : (word : List ℕ) (k : ℕ) (other : List ℕ) (r : Report)
    → length (two_texts word k other r) ≤ length word + length other + 22 * length (values_of r) + 52
two-short word k other (accepted values) =
    simp length-append (omega (arith, values-short (take k values), values-short (drop k values), length-take k values, length-drop k values))
two-short word k other (refused number offset) = omega (arith, refusal-short number offset)

-- ---- items
item-short : (s m e : ℤ) → length (item_text s m e) ≤ 65
unfolding item_text
item-short s m e = simp length-append (omega (arith, integer-short s, integer-short m, integer-short e))

more-short : (L : List ℤ) → length (more_items L) ≤ 22 * length L
unfolding more_items
more-short [] = omega arith
more-short (s ∷ []) = omega arith
more-short (s ∷ m ∷ []) = omega arith
more-short (s ∷ m ∷ e ∷ z) = simp length-append (omega (arith, item-short s m e, more-short z))

pub items-short : (L : List ℤ) → length (items_text L) ≤ 22 * length L + 1
unfolding items_text
items-short [] = omega arith
items-short (s ∷ []) = omega arith
items-short (s ∷ m ∷ []) = omega arith
items-short (s ∷ m ∷ e ∷ z) = simp length-append (omega (arith, item-short s m e, more-short z))

-- ---- a place
pub turns-short : (f : ℕ → List ℕ) (b : ℕ) → ((i : ℕ) → length (f i) ≤ b) → (a c : ℕ) → length (ascending a c f) ≤ b * c
unfolding ascending
turns-short f b h a zero = omega arith
turns-short f b h a (suc c) = simp length-append (omega (arith, h a, turns-short f b h (suc a) c))

module _ (s : Shelf) (p : ℕ) where
  factor-short : (i j : ℕ) → length (factor_text s p i j) ≤ 96
  unfolding factor_call
  factor-short i j = omega (arith, report-short [] (factor_call s p i j))

  factors-short : (n : ℕ) → n ≤ 8 → length (factors_text s p n) ≤ 6144
  unfolding factors_text row_text
  factors-short n few =
      let row : (i : ℕ) → length (row_text s p n i) ≤ 768 = λ i. omega (arith, turns-short (λ j. factor_text s p i j) 96 (factor-short i) 1 (suc n - 1)) in
      omega (arith, turns-short (λ i. row_text s p n i) 768 row 1 (suc n - 1))

  pub place_short : rows_at s p ≤ 8 → length (place_text s p) ≤ 6300
  unfolding place_text
  place_short few =
      cond_cases (λ t. length t ≤ 6300) (empty (rows_at s) p) {a = ascii "empty"} (λ e. omega arith)
      (λ e. simp length-append (omega (arith, report-short (ascii "matrix") (rows_call s p), factors-short (rows_at s p) few)))
