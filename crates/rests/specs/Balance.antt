-- THE LOG BALANCES TO THE LAST BIT (document 02, request (c)): what is promised of a result and its rest (`Balanced`), in exact fractions with a sign. A rest
-- is n × 2 ^ x (`dyadic`), an odd whole number with an exponent, or 0 with exponent 0 (`OddOrNone`). It is what the result leaves of the exact sum or product,
-- or result times divisor of the dividend (`whole`, `covered`); negative exactly where the result was rounded up; and no other rest balances (`ExactRest`).
use Rattle.std.specs.Prelude.{◌≡◌, true, ◌⊎◌, ◌↔◌, ℕ, suc, ◌+◌, ◌*◌, ◌%◌, ◌^◌, ◌<◌, ℤ, pos, negsuc, nat_abs}
use Rattle.std.proofs.Common.{pow_pos}
use Rattle.fraction.specs.SignedFraction.{SignedFraction, EqualSigned, signed_add, signed_mul}
use Rattle.number.specs.Integer.{is_negative}
use Rattle.rests.specs.declared.Operator.{Operator}
use Rattle.rests.specs.declared.Operator.TheVariants.{Add, Multiply, Divide}

-- a whole number with a sign is plus_of less minus_of, one of which is 0
abbrev pub plus_of : ℤ → ℕ
plus_of (pos n) = n
plus_of (negsuc n) = 0

abbrev pub minus_of : ℤ → ℕ
minus_of (pos n) = 0
minus_of (negsuc n) = suc n

-- (p - m) × 2 ^ (i - j)
abbrev pub scaled_by : (p m i j : ℕ) → SignedFraction
scaled_by p m i j = record { plus = p * 2 ^ i; minus = m * 2 ^ i; low = 2 ^ j; above_zero = pow_pos j }

-- n × 2 ^ x
unfoldable pub dyadic : ℤ → ℤ → SignedFraction
dyadic n x = scaled_by (plus_of n) (minus_of n) (plus_of x) (minus_of x)

-- an odd whole number with an exponent, or 0 with exponent 0
abbrev pub OddOrNone : ℤ → ℤ → Type 0
OddOrNone n x = ((n ≡ pos 0) × (x ≡ pos 0)) ⊎ (nat_abs n % 2 ≡ 1)

-- x < y, by cross products
abbrev pub BelowSigned : SignedFraction → SignedFraction → Type 0
BelowSigned x y = x.plus * y.low + y.minus * x.low < y.plus * x.low + x.minus * y.low

-- n × 2 ^ x is the exact rest that f leaves of e: with it f makes up e; it is odd or none, negative exactly where f is above e; and no other rest does so
pub record ExactRest (e f : SignedFraction) (n x : ℤ) : Type 0 where
  pub balance : EqualSigned (signed_add f (dyadic n x)) e
  pub odd : OddOrNone n x
  pub negative : (is_negative n ≡ true) ↔ BelowSigned e f
  pub small : nat_abs n < 2 ^ 32
  pub only : (m y : ℤ) → OddOrNone m y → EqualSigned (signed_add f (dyadic m y)) e → (m ≡ n) × (y ≡ x)

-- what is to be accounted for: the sum, the product, the dividend
abbrev pub whole : Operator → (a b : SignedFraction) → SignedFraction
whole Add a b = signed_add a b
whole Multiply a b = signed_mul a b
whole Divide a b = a

-- what the result r covers of it: itself; of a dividend, result times divisor
abbrev pub covered : Operator → (r b : SignedFraction) → SignedFraction
covered Add r b = r
covered Multiply r b = r
covered Divide r b = signed_mul r b

-- THE PROMISE: r is the rounded result of an operation on a and b, and n × 2 ^ x the rest. The result covers more than the whole exactly where it was
-- rounded up: a < r b is a / b < r (`rounded-up`)
abbrev pub Balanced : Operator → (a b r : SignedFraction) → (n x : ℤ) → Type 0
Balanced o a b r n x = ExactRest (whole o a b) (covered o r b) n x
