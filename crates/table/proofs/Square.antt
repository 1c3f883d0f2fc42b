-- The factors of a matrix of n rows one behind the other, beside its table: out of a table (`packed_more`, `packed_all`, `packed-front`), into one
-- (`square-cell`), which of them is number k (`square-number`), and the two ways undone (`square-list`, `square-factors`).
use Prim.Native.Nat.{ℕ, suc, ◌+◌, ◌-◌, ◌*◌, ◌/◌, ◌%◌, ◌<◌, ◌≤◌}
use native.Mathlib.Nat.{mul-le-mul, mod-lt, div-add-mod'}
use native.Mathlib.Numerals.{add-one}
use native.Mathlib.Omega.{arith}
use mathlib.Core.Path.{◌≡◌, sym, ap, ap₂, ◌∙◌}
use mathlib.Core.List.{List}
use lib.ListN.{length, get_or, take, set, replicate}
use lib.Seq.{sets, take_all}
use borrow.Author.Tests.{le-leb}
use Rattle.arrays.proofs.Runs.{sets-next, take-sets-front}
use Rattle.number.specs.declared.Number.{Number}
use Rattle.number.specs.Number.{zero_number}
use Rattle.words.specs.Word.{Factors}
use Rattle.words.specs.Operation.{row_by_row}
use Rattle.words.specs.RowSet.{In}
use Rattle.words.proofs.RowByRow.{row_by_row-length}
use Rattle.table.specs.Table.{absent, factors_of, cell_at, square_of, packed_of}
use Rattle.table.proofs.RowByRow.{index, some-rows, square-below, row_below, row-by-row-at, row-by-row-get, row-by-row-list}
use Rattle.table.proofs.Table.{read-default, factor-read}

-- OUT OF A TABLE
-- with the first k factors put
abbrev pub packed_to : ℕ → List Number → ℕ → List Number
packed_to n t k = sets (replicate 64 zero_number) 0 (take k (row_by_row n (factors_of t)))

module _ (n : ℕ) (t : List Number) (few : n ≤ 8) where
  module _ (k : ℕ) (h : k < n * n) where
    pub packed-below : (k < 64) × (k / n < 8) × (k % n < 8)
    packed-below =
        let m : k % n < n = mod-lt k (some-rows n k h) in
        (omega (arith, mul-le-mul few few), omega (arith, row_below n k h), omega arith)

    -- one factor more
    pub packed_more : length t ≡ 64 → (r : List Number) → r ≡ packed_to n t k → set r k (get_or t (k / n * 8 + k % n) absent) ≡ packed_to n t (k + 1)
    packed_more long r e =
        let i : 0 + k ≡ k = omega arith in
        let l : k < length (row_by_row n (factors_of t)) = omega (arith, row_by_row-length n (factors_of t)) in
        let v : get_or t (k / n * 8 + k % n) absent ≡ get_or (row_by_row n (factors_of t)) k zero_number =
        factor-read t long (k / n) (k % n) packed-below.1 packed-below.2
        ∙ ap₂ (factors_of t) (add-one (k / n)) (add-one (k % n))
        ∙ sym (row-by-row-get zero_number n k h (factors_of t)) in
        let s : set (packed_to n t k) (0 + k) (get_or (row_by_row n (factors_of t)) k zero_number) ≡ packed_to n t (k + 1) =
        sets-next zero_number (replicate 64 zero_number) (row_by_row n (factors_of t)) 0 k l in
        rw (e, v) (rw i at s)

  pub packed_all : (k : ℕ) → n * n ≤ k → packed_to n t k ≡ packed_of n t
  unfolding packed_of
  packed_all k h = ap (sets (replicate 64 zero_number) 0) (take_all k (row_by_row n (factors_of t)) (omega (arith, row_by_row-length n (factors_of t))))

  -- the factors stand at the front
  pub packed-front : take (n * n) (packed_of n t) ≡ row_by_row n (factors_of t)
  unfolding packed_of
  packed-front =
      take-sets-front (n * n) (replicate 64 zero_number) (row_by_row n (factors_of t)) (row_by_row-length n (factors_of t)) (omega (arith, mul-le-mul few few))

-- INTO A TABLE
module _ (n : ℕ) (L : List Number) (k : ℕ) where
  module _ (few : n ≤ 8) (h : k / 8 < n) (g : k % 8 < n) where
    pub square-cell-below : k / 8 * n + k % 8 < 64
    square-cell-below = omega (arith, square-below n (k / 8) (k % 8) h g, mul-le-mul few few)

    pub square-cell : length L ≡ 64 → get_or L (k / 8 * n + k % 8) absent ≡ cell_at n (square_of n L) k
    unfolding square_of
    square-cell long =
        let r : k / 8 + 1 - 1 ≡ k / 8 = omega arith in
        let c : k % 8 + 1 - 1 ≡ k % 8 = omega arith in
        read-default L (k / 8 * n + k % 8) (omega (arith, square-cell-below))
        ∙ rw (le-leb (k / 8 + 1) n (omega arith), le-leb (k % 8 + 1) n (omega arith), r, c)

-- number k, counted from 0, by its row and column
pub square-number : (n : ℕ) (L : List Number) (k : ℕ) → square_of n L (suc (k / n)) (suc (k % n)) ≡ get_or L k zero_number
unfolding square_of
square-number n L k =
    let r : suc (k / n) - 1 ≡ k / n = omega arith in
    let c : suc (k % n) - 1 ≡ k % n = omega arith in
    rw (r, c, div-add-mod')

-- THE TWO WAYS UNDONE
pub square-list : (n : ℕ) (L : List Number) → length L ≡ n * n → row_by_row n (square_of n L) ≡ L
unfolding square_of
square-list n L e =
    sym (row-by-row-list zero_number n (square_of n L) L e (λ i j h g.
    let r : suc i - 1 ≡ i = omega arith in
    let c : suc j - 1 ≡ j = omega arith in
    rw (r, c)))

pub square-factors : (n : ℕ) (b : Factors Number) (i j : ℕ) → In n i → In n j → square_of n (row_by_row n b) i j ≡ b i j
unfolding square_of
square-factors n b i j h g =
    row-by-row-at zero_number n b (i - 1) (j - 1) (index n i h).1 (index n j g).1 ∙ rw ((index n i h).0, (index n j g).0)
