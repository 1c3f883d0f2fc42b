-- Document 01's numbers, and IEEE 754 rounding at 32 bits of precision: roundTiesToEven, and document 02's other directions.
-- A number with mantissa m and exponent e is kept as m and x = e + bias, so that all is said in whole numbers.
use Rattle.std.specs.Prelude.{ℕ, ◌+◌, ◌-◌, ◌*◌, ◌/◌, ◌^◌, ◌≤◌, ◌<◌, min, ◌≡◌, Bool, cond, ◌&&◌, eqb, leb, ℤ}
use Rattle.std.proofs.Math.IntN.{sub_ℕ}
use Rattle.std.proofs.Common.{pow_pos}
use Rattle.std.specs.Float.Ieee.{size}
use Rattle.fraction.specs.Arithmetic.{Arithmetic}
use Rattle.fraction.specs.Fraction.{Fraction}
use Rattle.number.specs.Direction.{whole_by}
use Rattle.number.specs.declared.Direction.{Direction}
use Rattle.number.specs.declared.Direction.TheVariants.{Nearest}
use Rattle.number.specs.declared.Number.{Number}

-- the exponent 0
abbrev pub bias : ℕ
bias = 2 ^ 22

-- zero, with mantissa and exponent 0
abbrev pub zero_number : Number
zero_number = record { m = 0; x = bias }

-- one, 2 ^ 31 × 2 ^ -31
abbrev pub one_number : Number
one_number = record { m = 2 ^ 31; x = bias - 31 }

-- a mantissa that was rounded up to 2 ^ 32 is 2 ^ 31 one exponent higher
unfoldable pub renormalised : ℕ → ℕ → Number
renormalised m x = cond (eqb m (2 ^ 32)) (record { m = 2 ^ 31; x = x + 1 }) (record { m = m; x = x })

-- The exact n / d at exponent x, rounded once in direction w, where n is 0 or n / d at least a half.
-- With 32 more binary places its whole part, n * 2 ^ 32 / d, has 32 digits or more; 32 of them are kept and k dropped.
-- `whole_by` rounds to a multiple of 2 ^ k: to nearest, at a tie to the even one; down; up.
unfoldable pub round_by : Direction → ℕ → ℕ → ℕ → Number
round_by w n d x =
    let k = size (n * 2 ^ 32 / d) - 32 in
    cond (eqb n 0) zero_number (renormalised (whole_by w (n * 2 ^ 32) (d * 2 ^ k)) (x + k - 32))

-- the exact sum, both operands brought to the lower exponent, rounded once
unfoldable pub sum_by : Direction → Number → Number → Number
sum_by w a b =
    let l = min a.x b.x in
    round_by w (a.m * 2 ^ (a.x - l) + b.m * 2 ^ (b.x - l)) 1 l

-- the exact product, rounded once
unfoldable pub product_by : Direction → Number → Number → Number
product_by w a b = round_by w (a.m * b.m) 1 (a.x + b.x - bias)

-- the exact quotient, rounded once
unfoldable pub quotient_by : Direction → Number → Number → Number
quotient_by w a b = round_by w a.m b.m (a.x + bias - b.x)

-- the arithmetic of a direction
abbrev pub rounded_by : Direction → Arithmetic
rounded_by w = record { Num = Number; zero = zero_number; one = one_number; add = sum_by w; mul = product_by w; div = quotient_by w; is_zero = λ a. eqb a.m 0 }

-- rounded to nearest
abbrev pub round : ℕ → ℕ → ℕ → Number
round = round_by Nearest

-- the sum, the product and the quotient rounded to nearest
abbrev pub sum_of : Number → Number → Number
sum_of = sum_by Nearest

abbrev pub product_of : Number → Number → Number
product_of = product_by Nearest

abbrev pub quotient_of : Number → Number → Number
quotient_of = quotient_by Nearest

-- the rounded rule's arithmetic: to nearest
abbrev pub rounded : Arithmetic
rounded = rounded_by Nearest

-- a natural number, exactly where it has at most 32 digits
abbrev pub natural_number : ℕ → Number
natural_number n = round n 1 bias

-- the exponent e, which is kept as x = e + bias
abbrev pub unbiased : ℕ → ℤ
unbiased x = sub_ℕ x bias

abbrev pub exponent_of : Number → ℤ
exponent_of a = unbiased a.x

-- the fraction m × 2 ^ e that a number stands for
unfoldable pub value : Number → Fraction
value a = record { top = a.m * 2 ^ (a.x - bias); low = 2 ^ (bias - a.x); above_zero = pow_pos (bias - a.x) }

-- a whole number of 32 binary digits: from 2 ^ 31 to 2 ^ 32 - 1
pub record FullDigits (m : ℕ) : Type 0 where
  pub low : 2 ^ 31 ≤ m
  pub high : m < 2 ^ 32

-- zero, or a mantissa of 32 bits, at an exponent from -r to r
pub record Ranged (r : ℕ) (a : Number) : Type 0 where
  pub zero : a.m ≡ 0 → a.x ≡ bias
  pub low : 0 < a.m → 2 ^ 31 ≤ a.m
  pub high : a.m < 2 ^ 32
  pub start : bias ≤ a.x + r
  pub stop : a.x ≤ bias + r

-- a stored number: a mantissa from 2 ^ 31 to 2 ^ 32 - 1, an exponent from -1000 to 1000
pub record Stored (a : Number) : Type 0 where
  pub low : 2 ^ 31 ≤ a.m
  pub high : a.m < 2 ^ 32
  pub start : bias ≤ a.x + 1000
  pub stop : a.x ≤ bias + 1000

-- the exponents that the operations take: six sources of eight rows stay below 1.7 million
abbrev pub reach : ℕ
reach = 2 ^ 21 - 64

-- an exponent from -1000 to 1000
unfoldable pub in_range : Number → Bool
in_range a = leb bias (a.x + 1000) && leb a.x (bias + 1000)
