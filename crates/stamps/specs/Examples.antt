-- Worked examples of stamps, as rows of one table (`stamp_rows`): factors, and which stamps are turned down.
use Rattle.std.specs.Prelude.{true, false, List, [], ◌∷◌, ℕ, ◌+◌, ◌-◌, ◌*◌, ◌^◌}
use Rattle.number.specs.Examples.{Row, row, up, down}
use Rattle.words.specs.Operation.{row_by_row}
use Rattle.stamps.specs.Stamps.{mistimed, built_factors}

-- eight stamps, and with one more in front nine
abbrev eight : List ℕ
eight = 2 ∷ 3 ∷ 4 ∷ 5 ∷ 6 ∷ 7 ∷ 8 ∷ (2 ^ 32 - 1) ∷ []

-- a product whose last digit depends on the order: in descending k it is one more
abbrev far : List ℕ
far = 1 ∷ 2 ∷ 4 ∷ 1000002 ∷ []

unfoldable pub stamp_rows : List Row
stamp_rows =
    -- 1, 3, 7: the rows 1 1 1, 1 2 3 and 1 2 24
    row (row_by_row 3 (built_factors (1 ∷ 3 ∷ 7 ∷ [])))
    (down (2 ^ 31) 31 ∷ down (2 ^ 31) 31 ∷ down (2 ^ 31) 31 ∷ down (2 ^ 31) 31 ∷ down (2 ^ 31) 30 ∷ down (3 * 2 ^ 30) 30 ∷ down (2 ^ 31) 31
    ∷ down (2 ^ 31) 30 ∷ down (3 * 2 ^ 30) 27 ∷ [])
    ∷ row (built_factors far 4 4) (up 3725286573 28)
    ∷ row (built_factors far 4 3) (up 2604161459 6)
    ∷ row (mistimed far) false
    ∷ row (mistimed eight) false
    ∷ row (mistimed (1 ∷ eight)) true  -- nine
    ∷ row (mistimed []) true
    ∷ row (mistimed (0 ∷ 3 ∷ [])) true
    ∷ row (mistimed (3 ∷ 3 ∷ [])) true
    ∷ row (mistimed (7 ∷ 3 ∷ [])) true
    ∷ row (mistimed ((2 ^ 32 - 1) ∷ [])) false
    ∷ row (mistimed (2 ^ 32 ∷ [])) true
    ∷ row (mistimed ((2 ^ 32 + 5) ∷ [])) true  -- cut to 32 bits it would be 5
    ∷ []
