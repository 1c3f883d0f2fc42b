-- Worked examples, as rows of three tables under one theorem (`examples`): bytes and what is read of them, factors and their bytes, bundles and what is behind
-- (`taken`); faults, by their number (`faults`); and what document 01 read (`old`).
use Prim.Native.Nat.{ℕ, zero, suc}
use mathlib.Core.Path.{◌≡◌, refl}
use mathlib.Core.List.{List, [], ◌∷◌}
use Rattle.group.specs.Group.{group_in, bytes_in}
use Rattle.verdict.specs.declared.Reason.TheVariants as reason
use Rattle.number.specs.declared.Number.{Number}
use Rattle.number.specs.Number.{zero_number, one_number}
use Rattle.table.specs.Table.{square_of}
use Rattle.writer.specs.Encoding.{factor_bytes, factors_bytes, encoding}
use Rattle.reader.specs.Matrix.{item_at, mantissa_at, judged_code, factor_at, Reading, matrix, fault, factors_from, matrix_of, behind_of}
use Rattle.reader.specs.Before.{old_factors_from, old_reading}

data Row : Type 0 where
  reads : List ℕ → Reading → Row
  writes : ℕ → List Number → List ℕ → Row
  leaves : List ℕ → List ℕ → Row
  was : List ℕ → Reading → Row

abbrev Holds : Row → Type 0
Holds (reads s w) = matrix_of s ≡ w
Holds (writes n L s) = encoding n L ≡ s
Holds (leaves s t) = behind_of s ≡ t
Holds (was s w) = old_reading s ≡ w

-- one, c times, in front of other bytes
ones : ℕ → List ℕ → List ℕ
ones zero s = s
ones (suc c) s = 0xCA ∷ 7 ∷ 0 ∷ ones c s

-- three rows, with zeros far from the diagonal
banded : List Number
banded = one_number ∷ one_number ∷ zero_number ∷ one_number ∷ one_number ∷ one_number ∷ zero_number ∷ one_number ∷ one_number ∷ []

taken : List Row
taken =
    writes 1 (one_number ∷ []) (1 ∷ 0xCA ∷ 7 ∷ 0 ∷ [])
    ∷ reads (1 ∷ 0xCA ∷ 7 ∷ 0 ∷ []) (matrix 1 (one_number ∷ []) 4)
    ∷ reads (2 ∷ ones 4 []) (matrix 2 (one_number ∷ one_number ∷ one_number ∷ one_number ∷ []) 13)
    ∷ leaves (1 ∷ 0xCA ∷ 7 ∷ 0 ∷ 9 ∷ 5 ∷ []) (9 ∷ 5 ∷ [])
    ∷ leaves (9 ∷ 5 ∷ []) (9 ∷ 5 ∷ [])
    -- a zero in the row of a factor below the diagonal, or in the column of one above it, is none in its line
    ∷ writes 3 banded (3 ∷ ones 2 (0 ∷ ones 3 (0 ∷ ones 2 [])))
    ∷ reads (3 ∷ ones 2 (0 ∷ ones 3 (0 ∷ ones 2 []))) (matrix 3 banded 24)
    ∷ []

faults : List Row
faults =
    -- 2: the end, in the first item, in a later one, and before a fifth byte
    reads [] (fault reason.BytesEndEarly 0)
    ∷ reads (2 ∷ 0xCA ∷ 7 ∷ 0 ∷ 0xCA ∷ []) (fault reason.BytesEndEarly 5)
    ∷ reads (0x80 ∷ 0x80 ∷ 0x80 ∷ 0x80 ∷ []) (fault reason.BytesEndEarly 4)
    -- 3: not shortest, a fifth byte with its top bit set, 2 ^ 32
    ∷ reads (0x80 ∷ 0 ∷ []) (fault reason.MalformedGroup 0)
    ∷ reads (0x80 ∷ 0x80 ∷ 0x80 ∷ 0x80 ∷ 0x80 ∷ []) (fault reason.MalformedGroup 0)
    ∷ reads (1 ∷ 0xCA ∷ 7 ∷ 0x80 ∷ 0x80 ∷ 0x80 ∷ 0x80 ∷ 0x10 ∷ []) (fault reason.MalformedGroup 3)
    -- 4: n is 0, 9, 300
    ∷ reads (0 ∷ []) (fault reason.SizeOutOfRange 0)
    ∷ reads (9 ∷ []) (fault reason.SizeOutOfRange 0)
    ∷ reads (0xAC ∷ 2 ∷ []) (fault reason.SizeOutOfRange 0)
    -- 5: exponent code 2002, whatever is behind it; the rest of a mantissa is 2 ^ 31
    ∷ reads (1 ∷ 0xD2 ∷ 0xF ∷ []) (fault reason.FactorOutOfRange 1)
    ∷ reads (1 ∷ 0xCA ∷ 7 ∷ 0x80 ∷ 0x80 ∷ 0x80 ∷ 0x80 ∷ 8 ∷ []) (fault reason.FactorOutOfRange 3)
    -- 6: a zero on the diagonal, the first factor and the last
    ∷ reads (2 ∷ 0 ∷ []) (fault reason.FactorZero 1)
    ∷ reads (2 ∷ ones 3 (0 ∷ [])) (fault reason.FactorZero 10)
    -- 16: behind a zero in a row above the diagonal, and in a column below it where the input ends behind the code; such a bundle is handed back whole
    ∷ reads (3 ∷ ones 1 (0 ∷ ones 7 [])) (fault reason.PatternBroken 5)
    ∷ reads (3 ∷ ones 3 (0 ∷ ones 2 (0xCA ∷ 7 ∷ []))) (fault reason.PatternBroken 17)
    ∷ leaves (3 ∷ ones 1 (0 ∷ ones 7 [])) (3 ∷ ones 1 (0 ∷ ones 7 []))
    -- 5 before 16
    ∷ reads (3 ∷ ones 1 (0 ∷ 0xD2 ∷ 0xF ∷ [])) (fault reason.FactorOutOfRange 5)
    ∷ []

old : List Row
old =
    -- ones, as they are read now
    was (2 ∷ ones 4 []) (matrix 2 (one_number ∷ one_number ∷ one_number ∷ one_number ∷ []) 13)
    -- a zero off the diagonal was 6, and is read now; on it it is 6 still
    ∷ was (2 ∷ ones 1 (0 ∷ ones 2 [])) (fault reason.FactorZero 4)
    ∷ reads (2 ∷ ones 1 (0 ∷ ones 2 [])) (matrix 2 (one_number ∷ zero_number ∷ one_number ∷ one_number ∷ []) 11)
    ∷ was (2 ∷ 0 ∷ []) (fault reason.FactorZero 1)
    -- such a zero comes before the code that is 16 now; a code that is 5 comes before such a zero
    ∷ was (3 ∷ ones 1 (0 ∷ ones 7 [])) (fault reason.FactorZero 4)
    ∷ was (2 ∷ 0xD2 ∷ 0xF ∷ 0 ∷ []) (fault reason.FactorOutOfRange 1)
    ∷ []

All : List Row → Type 0
All [] = Unit {0}
All (r ∷ rs) = Holds r × All rs

examples : All taken × All faults × All old
unfolding All taken faults old ones banded matrix_of factors_from old_reading old_factors_from factor_at mantissa_at judged_code square_of item_at group_in
    encoding factors_bytes factor_bytes bytes_in
examples = (
  (refl, (refl, (refl, (refl, (refl, (refl, (refl, tt))))))),
  (refl, (refl, (refl, (refl, (refl, (refl, (refl, (refl, (refl, (refl, (refl, (refl, (refl, (refl, (refl, (refl, (refl, tt))))))))))))))))),
  (refl, (refl, (refl, (refl, (refl, (refl, tt)))))),
)
