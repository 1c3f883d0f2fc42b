-- Worked examples of rests, as rows of one table (`rest_table`): document 01's P1 to P4 and P10 with what rounding took away, and the cases beside them.
use Rattle.std.specs.Prelude.{Bool, true, false, List, [], ◌∷◌, ℕ, ◌+◌, ◌-◌, ◌*◌, ◌^◌}
use Rattle.number.specs.Number.{bias}
use Rattle.number.specs.Examples.{Row, row, up, down}
use Rattle.number.specs.declared.Number.{Number}
use Rattle.rests.specs.Rest.{no_rest, worked_by}
use Rattle.rests.specs.declared.Operator.TheVariants.{Add, Multiply, Divide}
use Rattle.rests.specs.declared.Rest.{Rest}
use Rattle.rests.specs.declared.Rounded.{Rounded}

-- n × 2 ^ e and n × 2 ^ -e, with a sign
abbrev above : Bool → ℕ → ℕ → Rest
above s n e = record { negative = s; odd = n; x = bias + e }

abbrev below : Bool → ℕ → ℕ → Rest
below s n e = record { negative = s; odd = n; x = bias - e }

-- a result with its rest
abbrev with : Number → Rest → Rounded
with a t = record { number = a; rest = t }

unfoldable pub rest_table : List Row
rest_table =
    row (worked_by Add (down (2 ^ 31) 31) (down (2 ^ 31) 63)) (with (down (2 ^ 31) 31) (below false 1 32))  -- P1, a tie rounded down
    ∷ row (worked_by Add (down (2 ^ 31 + 1) 31) (down (2 ^ 31) 63)) (with (down 2147483650 31) (below true 1 32))  -- P2, a tie rounded up
    ∷ row (worked_by Add (up (2 ^ 32 - 1) 0) (down (2 ^ 31) 32)) (with (up (2 ^ 31) 1) (below true 1 1))  -- P3, a mantissa carried
    ∷ row (worked_by Add (up (2 ^ 32 - 1) 0) (down (2 ^ 32 - 1) 32)) (with (up (2 ^ 31) 1) (below true 1 32))  -- the largest sum of a word, carried past it
    ∷ row (worked_by Add (down (2 ^ 31 + 2) 33) (up (2 ^ 31) 0)) (with (up (2 ^ 31) 0) (below false (2 ^ 30 + 1) 32))  -- 33 places apart, the lower first
    ∷ row (worked_by Add (up (2 ^ 31) 0) (up (2 ^ 31) 0)) (with (up (2 ^ 31) 1) no_rest)
    ∷ row (worked_by Multiply (up (2 ^ 32 - 1) 0) (up (2 ^ 32 - 1) 0)) (with (up 4294967294 32) (above false 1 0))  -- P4
    ∷ row (worked_by Multiply (up (3 * 2 ^ 30) 0) (up (2 ^ 31 + 1) 0)) (with (up 3221225474 31) (above true 1 30))  -- a tie rounded up
    ∷ row (worked_by Divide (down (2 ^ 31) 31) (down (3 * 2 ^ 30) 30)) (with (down 2863311531 33) (below true 1 33))  -- P10, one third
    ∷ row (worked_by Divide (up (3 * 2 ^ 30) 0) (up (2 ^ 31) 0)) (with (down (3 * 2 ^ 30) 31) no_rest)
    ∷ []
