-- Laws of tables: what stands where (`table_at`, `factor-read`, `factors-table`), a table by its cells (`table-list`, `table_filled`) and by its factors
-- (`table_same`, `table-refactored`), that of no rows (`table_none`), and the exchange (`table-exchanged`).
use Prim.Native.Nat.{ℕ, suc, ◌+◌, ◌-◌, ◌*◌, ◌/◌, ◌%◌, ◌<◌, ◌≤◌}
use native.Mathlib.Nat.{mod-lt}
use native.Mathlib.Numerals.{add-one}
use native.Mathlib.Omega.{arith}
use mathlib.Core.Path.{◌≡◌, refl, sym, ap₂, ◌∙◌}
use mathlib.Core.Bool.{Bool, true, false, cond, ◌&&◌}
use mathlib.Core.List.{List}
use lib.Dec.{leb}
use lib.ListN.{length, get_or, replicate}
use lib.Seq.{ext_get_or}
use borrow.Author.Tests.{le-leb, lt-leb, leb-true}
use Rattle.arrays.proofs.Filled.{read-any, Filled, filled-all}
use Rattle.number.specs.declared.Number.{Number}
use Rattle.number.specs.Number.{zero_number}
use Rattle.words.specs.Word.{Factors, exchanged, ascending}
use Rattle.words.specs.Operation.{row_by_row}
use Rattle.words.specs.RowSet.{In}
use Rattle.words.proofs.RowByRow.{row_by_row-length}
use Rattle.table.specs.Table.{absent, factors_of, padded, cell_at, table_of}
use Rattle.table.proofs.RowByRow.{index, row_below, row-by-row-at, row-by-row-get, row-by-row-list, row-by-row-same}

-- NUMBERS READ
pub read-default : (t : List Number) (p : ℕ) → p < length t → get_or t p absent ≡ get_or t p zero_number
read-default t p h = read-any t p absent zero_number h

-- the factor of row i + 1 and column j + 1, as the code reads it
pub factor-read : (t : List Number) → length t ≡ 64 → (i j : ℕ) → i < 8 → j < 8 → get_or t (i * 8 + j) absent ≡ factors_of t (i + 1) (j + 1)
unfolding factors_of
factor-read t long i j h g =
    let r : i + 1 - 1 ≡ i = omega arith in
    let c : j + 1 - 1 ≡ j = omega arith in
    read-default t (i * 8 + j) (omega arith) ∙ rw (r, c)

-- PAST THE ROWS
-- no rows, no factor
pub padded-none : (b : Factors Number) (i j : ℕ) → 0 < i → padded 0 b i j ≡ zero_number
padded-none b i j h = rw (lt-leb i 0 h)

pub table_none : (b : Factors Number) → table_of 0 b ≡ replicate 64 zero_number
unfolding table_of row_by_row ascending
table_none b = refl

module _ (n : ℕ) where
  pub padded-in : (b : Factors Number) (i j : ℕ) → i ≤ n → j ≤ n → padded n b i j ≡ b i j
  padded-in b i j h g = rw (le-leb i n h, le-leb j n g)

  -- within the n rows and columns, or past them
  pub within-cases : (P : Bool → Type 0) (i j : ℕ) → 1 ≤ i → 1 ≤ j → (In n i → In n j → P true) → P false → P (leb i n && leb j n)
  within-cases P i j h g inside past = by (leb i n) (leb j n) refl refl
    where
      by : (t u : Bool) → leb i n ≡ t → leb j n ≡ u → P (t && u)
      by true true p q = inside (h, leb-true i n p) (g, leb-true j n q)
      by true false p q = past
      by false u p q = past

  -- WHAT STANDS WHERE
  module _ (b : Factors Number) where
    pub table-length : length (table_of n b) ≡ 64
    unfolding table_of
    table-length = row_by_row-length 8 (padded n b)

    pub table_at : (z : Number) (i j : ℕ) → i < 8 → j < 8 → get_or (table_of n b) (i * 8 + j) z ≡ padded n b (suc i) (suc j)
    unfolding table_of
    table_at z i j h g = row-by-row-at z 8 (padded n b) i j h g

    pub table-cell : (z : Number) (k : ℕ) → k < 64 → get_or (table_of n b) k z ≡ cell_at n b k
    unfolding table_of
    table-cell z k h = row-by-row-get z 8 k h (padded n b) ∙ ap₂ (padded n b) (sym (add-one (k / 8))) (sym (add-one (k % 8)))

    pub factors-within : (i j : ℕ) → In 8 i → In 8 j → factors_of (table_of n b) i j ≡ padded n b i j
    unfolding factors_of
    factors-within i j h g =
        table_at zero_number (i - 1) (j - 1) (index 8 i h).1 (index 8 j g).1 ∙ rw ((index 8 i h).0, (index 8 j g).0)

    pub factors-table : n ≤ 8 → (i j : ℕ) → In n i → In n j → factors_of (table_of n b) i j ≡ b i j
    factors-table few i j h g =
        factors-within i j (omega arith, omega arith) (omega arith, omega arith) ∙ padded-in b i j h.1 g.1

  -- a table is given by its cells
  pub table-list : (b : Factors Number) (z : Number) (t : List Number) → length t ≡ 64
      → ((i j : ℕ) → i < 8 → j < 8 → get_or t (i * 8 + j) z ≡ padded n b (suc i) (suc j)) → t ≡ table_of n b
  unfolding table_of
  table-list b z t l h = row-by-row-list z 8 (padded n b) t l h

  pub table-cells : (b : Factors Number) (z : Number) (t : List Number) → length t ≡ 64 → ((k : ℕ) → k < 64 → get_or t k z ≡ cell_at n b k) → t ≡ table_of n b
  table-cells b z t l h =
      ext_get_or z t (table_of n b) (l ∙ sym (table-length b)) (λ k q. let few : k < 64 = omega (arith, l) in h k few ∙ sym (table-cell b z k few))

  pub table_filled : (b : Factors Number) {k : ℕ} {t : List Number} → Filled zero_number (cell_at n b) 64 k t → 64 ≤ k → t ≡ table_of n b
  table_filled b w h = filled-all zero_number (cell_at n b) 64 w h (table_of n b) (table-length b) (table-cell b zero_number)

  -- and by its factors
  pub table_same : (b c : Factors Number) → ((i j : ℕ) → In n i → In n j → b i j ≡ c i j) → table_of n b ≡ table_of n c
  unfolding table_of
  table_same b c same =
      row-by-row-same zero_number 8 (padded n b) (padded n c)
      (λ i j h g. within-cases (λ t. cond t (b i j) zero_number ≡ cond t (c i j) zero_number) i j h.0 g.0 (same i j) refl)

  pub table-refactored : (b : Factors Number) → n ≤ 8 → table_of n (factors_of (table_of n b)) ≡ table_of n b
  table-refactored b few = table_same (factors_of (table_of n b)) b (factors-table b few)

-- THE EXCHANGE of all 64 is that of the factors
module _ (n : ℕ) (b : Factors Number) where
  and-swapped : (t u : Bool) (a : Number) → cond (t && u) a zero_number ≡ cond (u && t) a zero_number
  and-swapped true true a = refl
  and-swapped true false a = refl
  and-swapped false true a = refl
  and-swapped false false a = refl

  pub table-exchanged : table_of 8 (exchanged (factors_of (table_of n b))) ≡ table_of n (exchanged b)
  table-exchanged =
      let f = exchanged (factors_of (table_of n b)) in
      table-list n (exchanged b) zero_number (table_of 8 f) (table-length 8 f)
      (λ i j h g.
      table_at 8 f zero_number i j h g
      ∙ padded-in 8 f (suc i) (suc j) (omega arith) (omega arith)
      ∙ factors-within n b (suc j) (suc i) (omega arith, omega arith) (omega arith, omega arith)
      ∙ and-swapped (leb (suc j) n) (leb (suc i) n) (b (suc j) (suc i)))

-- a cell of the exchange
pub exchanged-cell : (t : List Number) (k : ℕ) → length t ≡ 64 → k < 64
    → get_or t (k % 8 * 8 + k / 8) absent ≡ cell_at 8 (exchanged (factors_of t)) k
exchanged-cell t k long h =
    let i : k / 8 < 8 = row_below 8 k h in
    let j : k % 8 < 8 = mod-lt k (omega arith) in
    factor-read t long (k % 8) (k / 8) j i
    ∙ sym (padded-in 8 (exchanged (factors_of t)) (k / 8 + 1) (k % 8 + 1) (omega arith) (omega arith))
