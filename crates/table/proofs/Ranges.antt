-- Exponents outside the stored range: what a search of a list comes to (`outside-none`, `outside-all`, `outside-some`), and since zeros are in range a table
-- has one outside where its factors have (`rows-ranged`, `ranged-rows`, `outside-table`).
use Prim.Native.Nat.{ℕ, zero, suc, ◌+◌, ◌-◌, ◌*◌, ◌/◌, ◌%◌, ◌<◌, ◌≤◌}
use native.Mathlib.Nat.{mod-lt}
use native.Mathlib.Omega.{arith}
use mathlib.Core.Path.{◌≡◌, refl, sym, ap, ◌∙◌}
use mathlib.Core.Bool.{true, false, not, cond, or-true}
use mathlib.Core.List.{List, [], ◌∷◌}
use lib.ListN.{length, get_or}
use borrow.Author.Tests.{not-false}
use Rattle.number.proofs.Tests.{neither, alike}
use Rattle.number.specs.declared.Number.{Number}
use Rattle.number.specs.Number.{zero_number, in_range}
use Rattle.words.specs.Word.{Factors}
use Rattle.words.specs.Operation.{row_by_row}
use Rattle.words.specs.RowSet.{In}
use Rattle.words.proofs.RowByRow.{row_by_row-length}
use Rattle.table.specs.Table.{factors_of, table_of, square_of, outside}
use Rattle.table.proofs.RowByRow.{index, some-rows, square-below, row_below, row-by-row-get}
use Rattle.table.proofs.Table.{table-length, table-cell, factors-table, within-cases}
use Rattle.table.proofs.Square.{square-factors}

zero-in-range : in_range zero_number ≡ true
unfolding in_range
zero-in-range = refl

module _ (z : Number) where
  -- none outside: each is in range
  pub outside-none : (L : List Number) → outside L ≡ false → (k : ℕ) → k < length L → in_range (get_or L k z) ≡ true
  unfolding outside
  outside-none [] e k h = absurd (omega arith)
  outside-none (a ∷ L) e zero h = not-false (in_range a) (neither (not (in_range a)) (outside L) e).0
  outside-none (a ∷ L) e (suc k) h = outside-none L (neither (not (in_range a)) (outside L) e).1 k (omega arith)

  pub outside-all : (L : List Number) → ((k : ℕ) → k < length L → in_range (get_or L k z) ≡ true) → outside L ≡ false
  unfolding outside
  outside-all [] h = refl
  outside-all (a ∷ L) h = rw (h 0 (omega arith), outside-all L (λ k g. h (suc k) (omega arith)))

  pub outside-some : (L : List Number) (k : ℕ) → k < length L → in_range (get_or L k z) ≡ false → outside L ≡ true
  unfolding outside
  outside-some [] k h e = absurd (omega arith)
  outside-some (a ∷ L) zero h e = rw e
  outside-some (a ∷ L) (suc k) h e = rw (outside-some L k (omega arith) e) (or-true (not (in_range a)))

-- FACTORS ROW BY ROW, all in range
pub ranged-rows : (n : ℕ) (b : Factors Number) → ((i j : ℕ) → In n i → In n j → in_range (b i j) ≡ true) → outside (row_by_row n b) ≡ false
ranged-rows n b r =
    outside-all zero_number (row_by_row n b)
    (λ x h.
    let l : x < n * n = omega (arith, row_by_row-length n b) in
    ap in_range (row-by-row-get zero_number n x l b)
    ∙ r (suc (x / n)) (suc (x % n)) (omega arith, row_below n x l) (omega arith, mod-lt x (some-rows n x l)))

-- TABLES
module _ (n : ℕ) (b : Factors Number) (few : n ≤ 8) where
  factors-ranged : outside (table_of n b) ≡ false → (i j : ℕ) → In n i → In n j → in_range (b i j) ≡ true
  unfolding factors_of
  factors-ranged e i j h g =
      ap in_range (sym (factors-table n b few i j h g))
      ∙ outside-none zero_number (table_of n b) e ((i - 1) * 8 + (j - 1)) (omega (arith, table-length n b))

  pub rows-ranged : outside (row_by_row n b) ≡ false → (i j : ℕ) → In n i → In n j → in_range (b i j) ≡ true
  unfolding square_of
  rows-ranged e i j h g =
      ap in_range (sym (square-factors n b i j h g))
      ∙ outside-none zero_number (row_by_row n b) e ((i - 1) * n + (j - 1))
      (omega (arith, row_by_row-length n b, square-below n (i - 1) (j - 1) (index n i h).1 (index n j g).1))

  pub outside-table : outside (table_of n b) ≡ outside (row_by_row n b)
  outside-table =
      alike (outside (table_of n b)) (outside (row_by_row n b))
      (λ e. ranged-rows n b (factors-ranged e))
      (λ e.
      outside-all zero_number (table_of n b)
      (λ x h.
      ap in_range (table-cell n b zero_number x (omega (arith, table-length n b)))
      ∙ within-cases n (λ t. in_range (cond t (b (x / 8 + 1) (x % 8 + 1)) zero_number) ≡ true) (x / 8 + 1) (x % 8 + 1) (omega arith) (omega arith)
      (rows-ranged e (x / 8 + 1) (x % 8 + 1)) zero-in-range))
