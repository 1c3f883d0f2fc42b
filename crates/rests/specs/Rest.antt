-- WHAT ROUNDING TOOK AWAY (document 02, request (c)), the exact signed rest: the sum or the product minus the result (`sum_rest`, `product_rest`), the dividend
-- minus result times divisor (`quotient_rest`). A rest is an odd whole number with an exponent and a sign, or 0 with exponent 0 (`no_rest`). Beside the rounded
-- result it makes up what an operation returns (`worked_by`).
use Rattle.std.specs.Prelude.{Bool, true, false, cond, ℕ, ◌+◌, ◌-◌, ◌*◌, ◌/◌, ◌^◌, ◌<◌, min, eqb, ltb, ℤ, pos, neg_ℤ}
use Rattle.std.specs.Int.Count.{count_trailing_zeros}
use Rattle.std.specs.Float.Ieee.{size}
use Rattle.number.specs.Number.{bias, unbiased, reach, Ranged, sum_of, product_of, quotient_of}
use Rattle.number.specs.Signed.{integer_at}
use Rattle.number.specs.declared.Number.{Number}
use Rattle.rests.specs.declared.Operator.{Operator}
use Rattle.rests.specs.declared.Operator.TheVariants.{Add, Multiply, Divide}
use Rattle.rests.specs.declared.Rest.{Rest}
use Rattle.rests.specs.declared.Rounded.{Rounded}

-- 0 with exponent 0
abbrev pub no_rest : Rest
no_rest = record { negative = false; odd = 0; x = bias }

-- how often 2 divides n
abbrev pub twos : ℕ → ℕ
twos n = count_trailing_zeros (size n) n

-- n at exponent x with a sign, its twos taken into the exponent
unfoldable pub odd_part : Bool → ℕ → ℕ → Rest
odd_part s n x = cond (eqb n 0) no_rest (record { negative = s; odd = n / 2 ^ twos n; x = x + twos n })

-- p - q, both at exponent x
unfoldable pub rest_of : ℕ → ℕ → ℕ → Rest
rest_of p q x = cond (ltb p q) (odd_part true (q - p) x) (odd_part false (p - q) x)

-- the sum minus the result, all brought to the lower exponent
unfoldable pub sum_rest : Number → Number → Rest
sum_rest a b =
    let l = min a.x b.x in
    rest_of (integer_at l a + integer_at l b) (integer_at l (sum_of a b)) l

-- the product minus the result
unfoldable pub product_rest : Number → Number → Rest
product_rest a b =
    let x = a.x + b.x - bias in
    rest_of (a.m * b.m) (integer_at x (product_of a b)) x

-- the dividend minus result times divisor
unfoldable pub quotient_rest : Number → Number → Rest
quotient_rest a b =
    let r = quotient_of a b in
    let x = r.x + b.x - bias in
    rest_of (integer_at x a) (r.m * b.m) x

-- THE RESULT WITH ITS REST
abbrev pub sum_rounded : Number → Number → Rounded
sum_rounded a b = record { number = sum_of a b; rest = sum_rest a b }

abbrev pub product_rounded : Number → Number → Rounded
product_rounded a b = record { number = product_of a b; rest = product_rest a b }

abbrev pub quotient_rounded : Number → Number → Rounded
quotient_rounded a b = record { number = quotient_of a b; rest = quotient_rest a b }

abbrev pub worked_by : Operator → Number → Number → Rounded
worked_by Add a b = sum_rounded a b
worked_by Multiply a b = product_rounded a b
worked_by Divide a b = quotient_rounded a b

-- a rest as it is answered: the odd number with its sign, and the exponent
abbrev pub rest_integer : Rest → ℤ
rest_integer r = cond r.negative (neg_ℤ (pos r.odd)) (pos r.odd)

abbrev pub rest_exponent : Rest → ℤ
rest_exponent r = unbiased r.x

-- two positive numbers within the reach of the arithmetic
pub record PositivePair (a b : Number) : Type 0 where
  pub first : Ranged reach a
  pub second : Ranged reach b
  pub first-positive : 0 < a.m
  pub second-positive : 0 < b.m

-- what a result with its rest holds is small, so that both can be answered
pub record Small (r : Rounded) : Type 0 where
  pub exponent : r.number.x < 2 ^ 32
  pub odd : r.rest.odd < 2 ^ 32
  pub rest-exponent : r.rest.x < 2 ^ 32
