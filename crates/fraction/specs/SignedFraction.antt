-- Fractions with a sign, (plus - minus) / low, compared by their cross products (`EqualSigned`): sum, product, negative, inverse, and when one is positive.
use Rattle.std.specs.Prelude.{◌≡◌, ℕ, zero, suc, ◌+◌, ◌-◌, ◌*◌, ◌<◌}
use Rattle.std.proofs.Common.{mul-pos, arith}
use Rattle.fraction.specs.Fraction.{Fraction, natural}

-- (plus - minus) / low
pub record SignedFraction : Type 0 where
  pub plus : ℕ
  pub minus : ℕ
  pub low : ℕ
  pub above_zero : 0 < low

-- cross products, with what is taken away on one side added on the other
abbrev pub EqualSigned : SignedFraction → SignedFraction → Type 0
EqualSigned x y = x.plus * y.low + y.minus * x.low ≡ y.plus * x.low + x.minus * y.low

-- a fraction of document 01, with nothing taken away
abbrev pub signed : Fraction → SignedFraction
signed x = record { plus = x.top; minus = 0; low = x.low; above_zero = x.above_zero }

-- sum, product and negative, by the rules for differences
abbrev pub signed_add : SignedFraction → SignedFraction → SignedFraction
signed_add x y = record {
  plus = x.plus * y.low + y.plus * x.low;
  minus = x.minus * y.low + y.minus * x.low;
  low = x.low * y.low;
  above_zero = mul-pos x.above_zero y.above_zero;
}

abbrev pub signed_mul : SignedFraction → SignedFraction → SignedFraction
signed_mul x y = record {
  plus = x.plus * y.plus + x.minus * y.minus;
  minus = x.plus * y.minus + x.minus * y.plus;
  low = x.low * y.low;
  above_zero = mul-pos x.above_zero y.above_zero;
}

abbrev pub signed-neg : SignedFraction → SignedFraction
signed-neg x = record { plus = x.minus; minus = x.plus; low = x.low; above_zero = x.above_zero }

-- the inverse of (above - below) / low, where one of above and below is zero; of zero, zero
abbrev pub reciprocal : (above below low : ℕ) → SignedFraction
reciprocal (suc n) below low = record { plus = low; minus = 0; low = suc n; above_zero = omega arith }
reciprocal zero (suc n) low = record { plus = 0; minus = low; low = suc n; above_zero = omega arith }
reciprocal zero zero low = signed (natural 0)

-- the inverse; of zero, zero
abbrev pub signed-inv : SignedFraction → SignedFraction
signed-inv x = reciprocal (x.plus - x.minus) (x.minus - x.plus) x.low

-- above zero
abbrev pub PositiveSigned : SignedFraction → Type 0
PositiveSigned x = x.minus < x.plus
