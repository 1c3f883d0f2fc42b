-- Reading a matrix (document 01, "Bytes" and "Turned down for the input"): `matrix_of`, what stands at the start of an input, and
-- `behind_of`, the bytes behind it. Items are read from the left. Offsets count from the start of the whole input.
use Rattle.std.specs.Prelude.{ℕ, zero, suc, ◌+◌, ◌-◌, ◌*◌, ◌/◌, ◌%◌, ◌^◌, ◌≤◌, ◌<◌, not, cond, ◌&&◌}
use Rattle.std.specs.Prelude.{List, [], ◌∷◌, ◌++◌, length, drop, replicate, ltb, eqb, Result, Ok, Err, ⊤}
use Rattle.std.proofs.lemmas.List.Edits.{sets}
use Rattle.verdict.specs.declared.Reason.{Reason}
use Rattle.verdict.specs.declared.Reason.TheVariants as reason
use Rattle.verdict.specs.declared.Refusal.{Refusal}
use Rattle.group.specs.declared.GroupFault.TheVariants.{Ended, Faulty}
use Rattle.group.specs.Group.{Found, group_of}
use Rattle.number.specs.declared.Number.{Number}
use Rattle.number.specs.Number.{zero_number}
use Rattle.words.specs.Word.{Factors}
use Rattle.table.specs.Table.{square_of}
use Rattle.reader.specs.declared.Parsed.{Parsed}
use Rattle.writer.specs.Encoding.{code_zero}

-- what was read of an input, and the offset behind it
pub record Read (A : Type 0) : Type 0 where
  pub value : A
  pub next : ℕ

-- the same of an answer, where the input is read up to q
abbrev pub read_to : {A : Type 0} → ℕ → Result A Refusal → Result (Read A) Refusal
read_to q (Ok a) = Ok (record { value = a; next = q })
read_to q (Err w) = Err w

-- a group number, or why there is none
abbrev pub Item : Type 0
Item = Result (Read ℕ) Refusal

abbrev pub item : ℕ → ℕ → Item
item v q = Ok (record { value = v; next = q })

-- a factor, or why there is none
abbrev pub Factor : Type 0
Factor = Result (Read Number) Refusal

abbrev pub factor : Number → ℕ → Factor
factor a q = Ok (record { value = a; next = q })

-- a reason at an offset
abbrev pub refusal : Reason → ℕ → Refusal
refusal r o = record { reason = r; offset = o }

-- the item at offset p: 2 at the input's length, 3 at the item's first byte
abbrev pub item_by_group : List ℕ → ℕ → Found → Item
item_by_group s p (Ok g) = item g.value (p + g.bytes)
item_by_group s p (Err Ended) = Err (refusal reason.BytesEndEarly (length s))
item_by_group s p (Err Faulty) = Err (refusal reason.MalformedGroup p)

-- the group number that stands at offset p
unfoldable pub item_at : List ℕ → ℕ → Item
item_at s p = item_by_group s p (group_of (drop p s))

-- the factor just before that of row i and column j in its line: below the diagonal, where lines are columns, the one above it; above the diagonal, where
-- lines are rows, the one left of it
abbrev pub before_in_line : Factors Number → ℕ → ℕ → Number
before_in_line b i j = cond (ltb j i) (b (i - 1) j) (b i (j - 1))

-- an exponent code is taken, or refused for a reason
abbrev pub CodeVerdict : Type 0
CodeVerdict = Result ⊤ Reason

-- 5, 6 and 16: the exponent code of the factor of row i and column j, behind those in b. 6 is for the diagonal, where every line begins. Off it a zero breaks
-- the pattern (document 02, (e)) where a nonzero factor stands behind it in its line: the first such one, which has a zero just before it, is 16
abbrev pub judged_at : Factors Number → (i j code : ℕ) → CodeVerdict
judged_at b i j code =
    cond (ltb 2001 code) (Err reason.FactorOutOfRange)
    (cond (eqb i j) (cond (eqb code 0) (Err reason.FactorZero) (Ok tt))
    (cond (not (eqb code 0) && eqb (before_in_line b i j).m 0) (Err reason.PatternBroken) (Ok tt)))

-- the same of the factor that follows those `before` it, row by row, in a matrix of n rows
unfoldable pub judged_code : ℕ → List Number → ℕ → CodeVerdict
judged_code n before code = judged_at (square_of n before) (suc (length before / n)) (suc (length before % n)) code

-- the number with the exponent code c and the rest m of a mantissa
abbrev pub decoded : ℕ → ℕ → Number
decoded c m = record { m = m + 2 ^ 31; x = c + code_zero }

-- 5: the rest of a mantissa, at offset p
abbrev pub mantissa_by : ℕ → ℕ → Item → Factor
mantissa_by p code (Ok i) = cond (ltb (2 ^ 31 - 1) i.value) (Err (refusal reason.FactorOutOfRange p)) (factor (decoded code i.value) i.next)
mantissa_by p code (Err w) = Err w

-- code 0 stands for zero and has no second
unfoldable pub mantissa_at : List ℕ → ℕ → ℕ → Factor
mantissa_at s p code = cond (eqb code 0) (factor zero_number p) (mantissa_by p code (item_at s p))

-- a factor, unless its exponent code at offset p is refused
abbrev pub judged_by : ℕ → Factor → CodeVerdict → Factor
judged_by p f (Ok u) = f
judged_by p f (Err r) = Err (refusal r p)

-- the factor whose first item, at offset p, is given: that item is its exponent code
abbrev pub factor_by_item : List ℕ → ℕ → List Number → ℕ → Item → Factor
factor_by_item s n before p (Ok i) = judged_by p (mantissa_at s i.next i.value) (judged_code n before i.value)
factor_by_item s n before p (Err w) = Err w

-- the factor at offset p, behind those before it: its exponent code is judged before its mantissa is read
unfoldable pub factor_at : List ℕ → ℕ → List Number → ℕ → Factor
factor_at s n before p = factor_by_item s n before p (item_at s p)

-- A matrix: its rows, its factors row by row, and the offset behind it. Or a fault: the reason, and the offset.
pub data Reading : Type 0 where
  matrix : ℕ → List Number → ℕ → Reading
  fault : Reason → ℕ → Reading

-- reading on behind a factor, or its fault
abbrev pub on_factor : (Number → ℕ → Reading) → Factor → Reading
on_factor f (Ok r) = f r.value r.next
on_factor f (Err w) = fault w.reason w.offset

-- c more factors from offset p on
unfoldable pub factors_from : List ℕ → ℕ → List Number → ℕ → ℕ → Reading
factors_from s n before zero p = matrix n before p
factors_from s n before (suc c) p = on_factor (λ a q. factors_from s n (before ++ (a ∷ [])) c q) (factor_at s n before p)

-- 4: n is from 1 to 8
abbrev pub wrong_size : Reading
wrong_size = fault reason.SizeOutOfRange 0

abbrev pub matrix_by : List ℕ → Item → Reading
matrix_by s (Ok i) = cond (ltb i.value 1) wrong_size (cond (ltb 8 i.value) wrong_size (factors_from s i.value [] (i.value * i.value) i.next))
matrix_by s (Err w) = fault w.reason w.offset

-- the matrix at the start of an input
unfoldable pub matrix_of : List ℕ → Reading
matrix_of s = matrix_by s (item_at s 0)

-- 64 numbers, all zero
abbrev pub zero_table : List Number
zero_table = replicate 64 zero_number

-- the answer of a reader: the factors stand at the start of 64 numbers
abbrev pub parsed : Reading → Result Parsed Refusal
parsed (matrix n L q) = Ok (record { rows = n; next = q; numbers = sets zero_table 0 L })
parsed (fault r o) = Err (refusal r o)

-- what stands behind a matrix that was read, or all of it
abbrev pub behind_by : List ℕ → Reading → List ℕ
behind_by s (matrix n L q) = drop q s
behind_by s (fault r o) = s

-- the bytes behind the first matrix of a bundle, or all of them where that matrix is faulty
abbrev pub behind_of : List ℕ → List ℕ
behind_of s = behind_by s (matrix_of s)

-- what was found among k bytes
abbrev pub OutcomeInside : ℕ → Result Parsed Refusal → Type 0
OutcomeInside k (Ok r) = (0 < r.rows) × (r.rows < 9) × (r.next ≤ k)
OutcomeInside k (Err w) = Unit {0}
