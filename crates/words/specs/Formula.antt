-- The formulas of the new factors (document 01, "The rounded rule"; with zeros, document 02, (e)), over any arithmetic and any minors M.
use Rattle.std.specs.Prelude.{◌≡◌, Bool, true, false, not, cond, ◌&&◌, ℕ, ◌+◌, ◌-◌, ◌≤◌, ◌<◌, eqb, ltb}
use Rattle.fraction.specs.Arithmetic.{Arithmetic}
use Rattle.words.specs.RowSet.{RowSet, put, count, all_before, rows}
use Rattle.words.specs.Latest.{latest}
use Rattle.words.specs.Word.{Factors}

-- The rows that a formula takes before row i for column j, j - 1 of them. Which these are may depend on the minors.
abbrev pub Chooser : Type 0 → Type 0
Chooser A = (RowSet → RowSet → A) → ℕ → ℕ → RowSet

-- of k rows the j - 1 rows just before row i: i - j + 1 .. i - 1
abbrev pub run_before : ℕ → ℕ → ℕ → RowSet
run_before k i j = rows k (i - j + 1) (i - 1)

-- document 01's choice: these, whatever the minors
abbrev pub just_before : {A : Type 0} → ℕ → Chooser A
just_before k M = run_before k

module _ (K : Arithmetic) (k : ℕ) where
  open K use {Num, zero, mul, div, is_zero}

  -- document 02's choice, R: the latest set of j - 1 rows, all before row i, whose minor with the columns 1 .. j - 1 is not zero
  unfoldable pub latest_before : Chooser Num
  latest_before M i j = latest k (λ S. all_before i S && (eqb (count S) (j - 1) && not (is_zero (M S (rows k 1 (j - 1))))))

  -- on the diagonal: M(1..i | 1..i) / M(1..i-1 | 1..i-1)
  unfoldable pub on_diagonal : (RowSet → RowSet → Num) → ℕ → Num
  on_diagonal M i = div (M (rows k 1 i) (rows k 1 i)) (M (rows k 1 (i - 1)) (rows k 1 (i - 1)))

  -- below it v(i,j) / v(i-1,j), where v(i,j) is M(C and i | 1..j) / M(C | 1..j-1) with C for the rows chosen before row i, in document 01's order of products
  -- and quotient. Where the rows just before it are chosen this is
  -- (M(i-j+1..i | 1..j) × M(i-j..i-2 | 1..j-1)) / (M(i-j+1..i-1 | 1..j-1) × M(i-j..i-1 | 1..j)).
  unfoldable pub below_diagonal : Chooser Num → (RowSet → RowSet → Num) → ℕ → ℕ → Num
  below_diagonal C M i j = div
      (mul (M (put i true (C M i j)) (rows k 1 j)) (M (C M (i - 1) j) (rows k 1 (j - 1))))
      (mul (M (C M i j) (rows k 1 (j - 1))) (M (put (i - 1) true (C M (i - 1) j)) (rows k 1 j)))

  -- with zeros: zero where v(i,j) is, that is where M(R and i | 1..j) is
  unfoldable pub banded_below : (RowSet → RowSet → Num) → ℕ → ℕ → Num
  banded_below M i j = cond (is_zero (M (put i true (latest_before M i j)) (rows k 1 j))) zero (below_diagonal latest_before M i j)

  -- above it: the lower formula with row sets and column sets exchanged
  abbrev pub factor_by : (on_it below : Bool) → ((RowSet → RowSet → Num) → ℕ → ℕ → Num) → (RowSet → RowSet → Num) → Factors Num
  factor_by true below F M i j = on_diagonal M i
  factor_by false true F M i j = F M i j
  factor_by false false F M i j = F (λ I J. M J I) j i

  unfoldable pub factors_by : ((RowSet → RowSet → Num) → ℕ → ℕ → Num) → (RowSet → RowSet → Num) → Factors Num
  factors_by F M i j = factor_by (eqb i j) (ltb j i) F M i j

  -- THE NEW FACTORS, and document 01's formulas, which are the same where no minor is zero (`old-factor`)
  abbrev pub new_factor : (RowSet → RowSet → Num) → Factors Num
  new_factor = factors_by banded_below

  abbrev pub old_factor : (RowSet → RowSet → Num) → Factors Num
  old_factor = factors_by (below_diagonal (just_before k))

  -- what is divided by is not zero: on the diagonal, and below it where the factor is not zero
  pub record Divisible (M : RowSet → RowSet → Num) : Type 0 where
    pub leading : (j : ℕ) → j ≤ k → is_zero (M (rows k 1 j) (rows k 1 j)) ≡ false
    pub run : (i j : ℕ) → 1 ≤ j → j < i → i ≤ k → is_zero (M (latest_before M i j) (rows k 1 (j - 1))) ≡ false
    pub before : (i j : ℕ) → 1 ≤ j → j < i → i ≤ k → is_zero (M (put i true (latest_before M i j)) (rows k 1 j)) ≡ false
        → is_zero (M (put (i - 1) true (latest_before M (i - 1) j)) (rows k 1 j)) ≡ false
