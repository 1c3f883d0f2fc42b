-- What the comparison's archive answers: an operation and a direction by their numbers, on operands that are tested first.
use Rattle.std.specs.Prelude.{Bool, cond, ◌&&◌, ℕ, zero, suc, ◌+◌, ◌^◌, eqb, leb, ltb}
use Rattle.number.specs.Number.{bias, reach, sum_by, product_by, quotient_by}
use Rattle.number.specs.declared.Direction.{Direction}
use Rattle.number.specs.declared.Direction.TheVariants.{Nearest, Down, Up}
use Rattle.number.specs.declared.Number.{Number}
use Rattle.directed.specs.declared.Operation.{Operation}
use Rattle.directed.specs.declared.Operation.TheVariants.{Add, Multiply, Divide}

-- no number: an exponent that no operation gives
abbrev pub nothing : Number
nothing = record { m = 0; x = 0 }

-- zero, or a mantissa of 32 bits at an exponent that the operations take
unfoldable pub is_workable : Number → Bool
is_workable a =
    cond (eqb a.m 0) (eqb a.x bias) (leb (2 ^ 31) a.m && (ltb a.m (2 ^ 32) && (leb bias (a.x + reach) && leb a.x (bias + reach))))

-- 0 is nearest, 1 is down, any other is up
abbrev pub direction_of : ℕ → Direction
direction_of zero = Nearest
direction_of (suc zero) = Down
direction_of (suc (suc n)) = Up

-- the number of an operation
abbrev pub number_of : Operation → ℕ
number_of Add = 0
number_of Multiply = 1
number_of Divide = 2

-- 0 adds, 1 multiplies, 2 divides, by what is not zero
unfoldable pub worked_of : ℕ → Direction → Number → Number → Number
worked_of o w a b =
    cond (eqb o 0) (sum_by w a b) (cond (eqb o 1) (product_by w a b) (cond (eqb o 2) (cond (eqb b.m 0) nothing (quotient_by w a b)) nothing))

-- what is answered
unfoldable pub directed_of : ℕ → ℕ → Number → Number → Number
directed_of o w a b = cond (ltb w 3 && (is_workable a && is_workable b)) (worked_of o (direction_of w) a b) nothing
