-- THE TEST OF A SHELF holds of no shelf but good ones (`tested-good`), and of every good one (`good-tested`): at each place it asks of the number in row i and
-- column j what the factor of row i and column j is to be (`asked_of`), where the pattern is kept from each factor of a line to the next.
use Prim.Native.Nat.{ℕ, suc, ◌+◌, ◌-◌, ◌*◌, ◌/◌, ◌%◌, ◌<◌, ◌≤◌}
use native.Mathlib.Nat.{div-add-mod', div-lt_iff_lt-mul, mod-lt}
use native.Mathlib.Decide.{ℕ_discrete, dec_lt}
use native.Mathlib.Omega.{arith}
use mathlib.Core.Path.{◌≡◌, refl, sym, ap, subst, ◌∙◌}
use mathlib.Core.Bool.{true, cond, ◌&&◌, and-eq-true_iff}
use mathlib.Core.List.{List}
use lib.Dec.{leb, eqb}
use lib.ListN.{length, get_or, drop, length-drop}
use lib.Seq.{length-take-le}
use borrow.Author.Tests.{leb-true, le-leb, eq-eqb, ne_eqb}
use Rattle.arrays.proofs.Below.{all-below, all-each}
use Rattle.arrays.proofs.Filled.{read-any}
use Rattle.number.specs.declared.Number.{Number}
use Rattle.number.specs.Number.{zero_number, Stored}
use Rattle.number.proofs.Tests.{quotient-of, remainder_of}
use Rattle.words.specs.Word.{Factors}
use Rattle.words.specs.RowSet.{In}
use Rattle.words.specs.Sources.{BandedNumbers}
use Rattle.words.proofs.Banded.{banded-next, banded-decided, below-zero, above_zero}
use Rattle.table.specs.Table.{absent, cell_of, factors_of, padded, table_of}
use Rattle.table.proofs.RowByRow.{row_below}
use Rattle.table.proofs.Table.{within-cases, table-list, factors-within}
use Rattle.places.specs.declared.Shelf.{Shelf}
use Rattle.places.specs.Shelf.{rows_at, table_at, factors_at, Fits, Good}
use Rattle.places.specs.Check.{is_stored, is_zero, back, continues, sound, few_rows, sound_at, sound_numbers, is_good}
use Rattle.places.proofs.Asked.{zero-tested, stored_is, stored-tested, continued-zero, continued-stored, continued-tested, asked, asked-within}
use Rattle.places.proofs.Asked.{asked-off, sound-asked, back_below, back_above}
use Rattle.places.proofs.Holding.{number_at}

-- THE NUMBERS OF A PLACE
pub sound-there : (s : Shelf) (p k : ℕ) → k < 64
    → sound_at s (p * 64 + k) ≡ sound (rows_at s p) k (get_or s.numbers (p * 64 + k - back k) absent) (get_or s.numbers (p * 64 + k) absent)
sound-there s p k h = rw (quotient-of 64 p k h, remainder_of 64 p k h)

module _ (s : Shelf) (all : length s.numbers ≡ 512) (p : ℕ) (place : p < 8) where
  abbrev n : ℕ
  n = rows_at s p

  abbrev b : Factors Number
  b = factors_at s p

  -- the number before that of row i and column j in its line
  abbrev before : ℕ → ℕ → Number
  before i j = get_or s.numbers (p * 64 + cell_of i j - back (cell_of i j)) absent

  table-long : length (table_at s p) ≡ 64
  unfolding table_at
  table-long = length-take-le 64 (drop (p * 64) s.numbers) (omega (arith, length-drop (p * 64) s.numbers))

  number_of : (i j : ℕ) → In 8 i → In 8 j → get_or s.numbers (p * 64 + cell_of i j) absent ≡ b i j
  unfolding factors_of
  number_of i j row column =
      read-any s.numbers (p * 64 + cell_of i j) absent zero_number (omega arith) ∙ sym (number_at s p (cell_of i j) (omega arith))

  before-below : (i j : ℕ) → In 8 i → In 8 j → j < i → before i j ≡ b (i - 1) j
  before-below i j row column h =
      let e : p * 64 + cell_of i j - back (cell_of i j) ≡ p * 64 + cell_of (i - 1) j = omega (arith, back_below i j row column h) in
      ap (λ (k : ℕ). get_or s.numbers k absent) e ∙ number_of (i - 1) j (omega arith, omega arith) column

  before_above : (i j : ℕ) → In 8 i → In 8 j → i < j → before i j ≡ b i (j - 1)
  before_above i j row column h =
      let e : p * 64 + cell_of i j - back (cell_of i j) ≡ p * 64 + cell_of i (j - 1) = omega (arith, back_above i j row column h) in
      ap (λ (k : ℕ). get_or s.numbers k absent) e ∙ number_of i (j - 1) row (omega arith, omega arith)

  asked_of : (i j : ℕ) → In 8 i → In 8 j → sound_at s (p * 64 + cell_of i j) ≡ asked n i j (before i j) (b i j)
  asked_of i j row column =
      sound-there s p (cell_of i j) (omega arith)
      ∙ sound-asked i j row column n (before i j) _
      ∙ ap (asked n i j (before i j)) (number_of i j row column)

  -- a place of a shelf that passes holds what fits
  module _ (tested : is_good s ≡ true) where
    parts : (few_rows s ≡ true) × (sound_numbers s ≡ true)
    unfolding is_good
    parts = (and-eq-true_iff (few_rows s) (sound_numbers s)).0 tested

    few-of : n ≤ 8
    unfolding few_rows
    few-of = leb-true n 8 (all-each (λ p. leb (rows_at s p) 8) 8 parts.0 p place)

    passed : (i j : ℕ) → In 8 i → In 8 j → asked n i j (before i j) (b i j) ≡ true
    unfolding sound_numbers
    passed i j row column =
        sym (asked_of i j row column) ∙ all-each (sound_at s) 512 parts.1 (p * 64 + cell_of i j) (omega arith)

    module _ (i j : ℕ) (row : In n i) (column : In n j) where
      passed-off : (i ≡ j → ⊥) → continues (before i j) (b i j) ≡ true
      passed-off e =
          sym (asked-off n i j (before i j) (b i j) row.1 column.1 e)
          ∙ passed i j (row.0, omega (arith, few-of)) (column.0, omega (arith, few-of))

      passed_on : i ≡ j → Stored (b i j)
      passed_on e =
          let c = passed i j (row.0, omega (arith, few-of)) (column.0, omega (arith, few-of)) in
          stored_is (b i j) (rw (le-leb i n row.1, le-leb j n column.1, eq-eqb i j e) at c)

      others-of : (b i j ≡ zero_number → ⊥) → Stored (b i j)
      others-of h =
          elim (ℕ_discrete i j) [
            | yes e ↦ passed_on e
            | no e ↦ continued-stored (before i j) (b i j) (passed-off e) h
          ]

    banded-of : BandedNumbers n b
    banded-of =
        banded-next Stored (λ a. a ≡ zero_number) n b (λ i x. passed_on i i x x refl) others-of
        (λ i j low less few z.
        let e : suc i - 1 ≡ i = omega arith in
        let row : In n (suc i) = (omega arith, few) in
        continued-zero _ _ (passed-off (suc i) j row (low, omega arith) (λ f. omega arith))
        (before-below (suc i) j (omega arith, omega (arith, few-of)) (low, omega (arith, few-of)) (omega arith) ∙ rw e z))
        (λ i j low less few z.
        let e : suc j - 1 ≡ j = omega arith in
        let column : In n (suc j) = (omega arith, few) in
        continued-zero _ _ (passed-off i (suc j) (low, omega arith) column (λ f. omega arith))
        (before_above i (suc j) (low, omega (arith, few-of)) (omega arith, omega (arith, few-of)) (omega arith) ∙ rw e z))

    rest-is : table_at s p ≡ table_of n b
    unfolding factors_of
    rest-is =
        table-list n b zero_number (table_at s p) table-long
        (λ i j h g.
        let x : suc i - 1 ≡ i = omega arith in
        let y : suc j - 1 ≡ j = omega arith in
        let e : b (suc i) (suc j) ≡ get_or (table_at s p) (i * 8 + j) zero_number = rw (x, y) in
        sym e
        ∙ asked-within (leb (suc i) n && leb (suc j) n) _ (b (suc i) (suc j)) (passed (suc i) (suc j) (omega arith, omega arith) (omega arith, omega arith)))

    fits-of : Fits n (table_at s p)
    fits-of = record { few = few-of; banded = banded-of; rest = rest-is }

  -- and what fits passes
  module _ (fits : Fits n (table_at s p)) (i j : ℕ) (row : In 8 i) (column : In 8 j) where
    held-there : b i j ≡ padded n b i j
    held-there = ap (λ (t : List Number). factors_of t i j) fits.rest ∙ factors-within n b i j row column

    line-passes : In n i → In n j → (i ≡ j → ⊥) → continues (before i j) (b i j) ≡ true
    line-passes x y e =
        continued-tested (before i j) (b i j) (banded-decided n b fits.banded i j x y)
        (λ z.
        elim (dec_lt j i) [
          | yes h ↦ below-zero n b fits.banded i j column.0 h x.1 (sym (before-below i j row column h) ∙ z)
          | no h ↦ above_zero n b fits.banded i j row.0 (omega arith) y.1 (sym (before_above i j row column (omega arith)) ∙ z)
        ])

    cell-passes : In n i → In n j → cond (eqb i j) (is_stored (b i j)) (continues (before i j) (b i j)) ≡ true
    cell-passes x y =
        elim (ℕ_discrete i j) [
          | yes e ↦
              ap (λ t. cond t (is_stored (b i j)) (continues (before i j) (b i j))) (eq-eqb i j e)
              ∙ stored-tested (b i j) (subst (λ k. Stored (b i k)) e (fits.banded.diagonal i x))
          | no e ↦ ap (λ t. cond t (is_stored (b i j)) (continues (before i j) (b i j))) (ne_eqb i j e) ∙ line-passes x y e
        ]

    sound-cell : sound_at s (p * 64 + cell_of i j) ≡ true
    sound-cell =
        asked_of i j row column
        ∙ within-cases n
        (λ t. b i j ≡ cond t (b i j) zero_number → cond t (cond (eqb i j) (is_stored (b i j)) (continues (before i j) (b i j))) (is_zero (b i j)) ≡ true) i j
        row.0 column.0 (λ x y e. cell-passes x y) (λ e. subst (λ a. is_zero a ≡ true) (sym e) zero-tested) held-there

-- THE SHELF
pub tested-good : (s : Shelf) → length s.sizes ≡ 8 → length s.numbers ≡ 512 → is_good s ≡ true → Good s
tested-good s eight all e = record { places = eight; numbers = all; held = λ p h. fits-of s all p h e }

pub good-tested : (s : Shelf) → Good s → is_good s ≡ true
unfolding is_good few_rows sound_numbers
good-tested s g =
    (and-eq-true_iff (few_rows s) (sound_numbers s)).1 (
      all-below (λ p. leb (rows_at s p) 8) 8 (λ p h. le-leb (rows_at s p) 8 (g.held p h).few),
      all-below (sound_at s) 512
          (λ k h.
          let p : k / 64 < 8 = (div-lt_iff_lt-mul {k = 64} {x = k} {y = 8} (omega arith)).1 (omega arith) in
          let r : k % 64 < 64 = mod-lt k (omega arith) in
          let i : k % 64 / 8 < 8 = row_below 8 (k % 64) r in
          let j : k % 64 % 8 < 8 = mod-lt (k % 64) (omega arith) in
          let e : k / 64 * 64 + cell_of (suc (k % 64 / 8)) (suc (k % 64 % 8)) ≡ k = omega (arith, div-add-mod' k 64, div-add-mod' (k % 64) 8) in
          subst (λ (x : ℕ). sound_at s x ≡ true) e
          (sound-cell s g.numbers (k / 64) p (g.held (k / 64) p) (suc (k % 64 / 8)) (suc (k % 64 % 8)) (omega arith, omega arith)
          (omega arith, omega arith))),
    )
