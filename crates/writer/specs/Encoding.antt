-- The bytes of a matrix (document 01, "Bytes"): `encoding`, and `encoded_length`, how many they are; and what writing them to lent bytes returns and leaves
-- (`writing_report`, `bytes_after_writing`); which matrices can be stored (`Storable`).
use Rattle.std.specs.Prelude.{ℕ, ◌-◌, ◌*◌, ◌^◌, ◌≤◌, ◌<◌, ◌≡◌, cond, List, [], ◌∷◌, ◌++◌, pos, length, take, ltb, eqb, Result}
use Rattle.std.proofs.lemmas.List.Edits.{sets}
use Rattle.verdict.specs.declared.Reason.TheVariants.{OutputTooShort}
use Rattle.verdict.specs.declared.Refusal.{Refusal}
use Rattle.verdict.specs.Verdict.{Verdict, when, after}
use Rattle.verdict.specs.Report.{Report, answer_report, report_of}
use Rattle.group.specs.Group.{bytes_of}
use Rattle.number.specs.declared.Number.{Number}
use Rattle.number.specs.Number.{bias}
use Rattle.words.specs.Sources.{BandedNumbers}
use Rattle.table.specs.Table.{square_of}

-- the exponent -1001: an exponent code counts from there
abbrev pub code_zero : ℕ
code_zero = bias - 1001

-- e + 1001
abbrev pub exponent_code : Number → ℕ
exponent_code a = a.x - code_zero

-- m - 2 ^ 31
abbrev pub part_of : Number → ℕ
part_of a = a.m - 2 ^ 31

-- a factor; code 0 stands for zero and has no second
unfoldable pub factor_bytes : Number → List ℕ
factor_bytes a = cond (eqb a.m 0) (bytes_of 0) (bytes_of (exponent_code a) ++ bytes_of (part_of a))

unfoldable pub factors_bytes : List Number → List ℕ
factors_bytes [] = []
factors_bytes (a ∷ L) = factor_bytes a ++ factors_bytes L

-- a matrix of n rows with the factors L, row by row
unfoldable pub encoding : ℕ → List Number → List ℕ
encoding n L = bytes_of n ++ factors_bytes L

abbrev pub encoded_length : ℕ → List Number → ℕ
encoded_length n L = length (encoding n L)

-- the factors among 64 numbers
abbrev pub square_factors : ℕ → List Number → List Number
square_factors n numbers = take (n * n) numbers

-- 10: the lent bytes are too few
abbrev pub room_test : (out bytes : List ℕ) → Verdict
room_test out bytes = when (ltb (length out) (length bytes)) OutputTooShort

-- what writing bytes to lent ones returns: how many they are
unfoldable pub writing_report : (out bytes : List ℕ) → Report
writing_report out bytes = report_of (room_test out bytes) (pos (length bytes) ∷ [])

-- the lent bytes then: none is changed where they are too few, and else none past the length
unfoldable pub bytes_after_writing : (out bytes : List ℕ) → List ℕ
bytes_after_writing out bytes = after (room_test out bytes) out (sets out 0 bytes)

-- what the writer's answers report
abbrev pub written_report : Result ℕ Refusal → Report
written_report r = answer_report (λ k. pos k ∷ []) r

-- a matrix that can be stored: n from 1 to 8, and n² factors, row by row, that are accepted
pub record Storable (n : ℕ) (L : List Number) : Type 0 where
  pub some : 0 < n
  pub few : n ≤ 8
  pub square : length L ≡ n * n
  pub banded : BandedNumbers n (square_of n L)
