-- DOCUMENT 01's READING, before zeros were (`old_reading`): 6 for a zero wherever it stands, and no 16. Every reading stays as it was, refused ones included,
-- but for those that met a zero off the diagonal (`ReadAsBefore`, `read-before`). What was accepted has no zero (`OldRead`, `old-stored`).
use Rattle.std.specs.Prelude.{ℕ, zero, suc, ◌*◌, ◌≤◌, ◌≡◌, cond, List, [], ◌∷◌, ◌++◌, ltb, eqb, Ok, Err}
use Rattle.number.specs.declared.Number.{Number}
use Rattle.number.specs.Number.{Stored}
use Rattle.words.specs.Sources.{Each}
use Rattle.table.specs.Table.{square_of}
use Rattle.verdict.specs.declared.Reason.TheVariants as reason
use Rattle.reader.specs.Matrix.{Item, item_at, Factor, mantissa_at, CodeVerdict, judged_by, Reading, matrix, fault, wrong_size, on_factor}
use Rattle.reader.specs.Faults.{next_row, next_column, CodeAt}

-- 5 and 6 of an exponent code
abbrev pub old_judged : ℕ → CodeVerdict
old_judged code = cond (ltb 2001 code) (Err reason.FactorOutOfRange) (cond (eqb code 0) (Err reason.FactorZero) (Ok tt))

-- the factor whose first item, at offset p, is given
abbrev pub old_factor_by : List ℕ → ℕ → Item → Factor
old_factor_by s p (Ok i) = judged_by p (mantissa_at s i.next i.value) (old_judged i.value)
old_factor_by s p (Err w) = Err w

-- c more factors from offset p on
unfoldable pub old_factors_from : List ℕ → ℕ → List Number → ℕ → ℕ → Reading
old_factors_from s n before zero p = matrix n before p
old_factors_from s n before (suc c) p = on_factor (λ a q. old_factors_from s n (before ++ (a ∷ [])) c q) (old_factor_by s p (item_at s p))

-- 4: n is from 1 to 8
abbrev pub old_reading_by : List ℕ → Item → Reading
old_reading_by s (Ok i) = cond (ltb i.value 1) wrong_size (cond (ltb 8 i.value) wrong_size (old_factors_from s i.value [] (i.value * i.value) i.next))
old_reading_by s (Err w) = fault w.reason w.offset

unfoldable pub old_reading : List ℕ → Reading
old_reading s = old_reading_by s (item_at s 0)

-- the code of zero, off the diagonal
pub record ZeroOffDiagonal (s : List ℕ) (o : ℕ) : Type 0 where
  pub n : ℕ
  pub front : List Number
  pub at : CodeAt s n front o 0
  pub off : next_row n front ≡ next_column n front → ⊥

-- a reading of s and the old one: the same, matrix or fault; or the old one was 6, at a zero off the diagonal
pub data ReadAsBefore (s : List ℕ) (new old : Reading) : Type 0 where
  same : new ≡ old → ReadAsBefore s new old
  was-six : (o : ℕ) → old ≡ fault reason.FactorZero o → ZeroOffDiagonal s o → ReadAsBefore s new old

-- what document 01's reading took: up to eight rows, and no factor is zero
pub record OldRead (n : ℕ) (L : List Number) : Type 0 where
  pub few : n ≤ 8
  pub stored : Each Stored n (square_of n L)
