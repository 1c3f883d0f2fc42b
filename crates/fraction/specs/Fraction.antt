-- Document 01's fraction, "the exact run": a pair of whole numbers, the lower one above zero.
use Rattle.std.specs.Prelude.{◌≡◌, ℕ, zero, suc, ◌+◌, ◌*◌, ◌≤◌, ◌<◌, eqb}
use Rattle.std.proofs.Common.{mul-pos, arith}
use Rattle.fraction.specs.Arithmetic.{Arithmetic}

-- top / low
pub record Fraction : Type 0 where
  pub top : ℕ
  pub low : ℕ
  pub above_zero : 0 < low

-- Two fractions are the same when their cross products are equal.
abbrev pub Same : Fraction → Fraction → Type 0
Same x y = x.top * y.low ≡ y.top * x.low

-- x ≤ y, by cross products
abbrev pub AtMost : Fraction → Fraction → Type 0
AtMost x y = x.top * y.low ≤ y.top * x.low

-- a natural number, over 1
abbrev pub natural : ℕ → Fraction
natural n = record { top = n; low = 1; above_zero = omega arith }

-- the exact sum, over the product of both lower numbers; nothing is cancelled
abbrev pub fraction_sum : Fraction → Fraction → Fraction
fraction_sum x y = record { top = x.top * y.low + y.top * x.low; low = x.low * y.low; above_zero = mul-pos x.above_zero y.above_zero }

-- the exact product
abbrev pub fraction_product : Fraction → Fraction → Fraction
fraction_product x y = record { top = x.top * y.top; low = x.low * y.low; above_zero = mul-pos x.above_zero y.above_zero }

-- x divided by t / l; by zero, which is not met, zero
abbrev pub divided_by : Fraction → (t l : ℕ) → Fraction
divided_by x zero l = natural 0
divided_by x (suc t) l = record { top = x.top * l; low = x.low * suc t; above_zero = mul-pos x.above_zero (omega arith) }

-- the exact quotient
abbrev pub fraction_quotient : Fraction → Fraction → Fraction
fraction_quotient x y = divided_by x y.top y.low

-- the exact run's arithmetic: every sum, product and quotient is the exact fraction
abbrev pub exact : Arithmetic
exact = record {
  Num = Fraction;
  zero = natural 0;
  one = natural 1;
  add = fraction_sum;
  mul = fraction_product;
  div = fraction_quotient;
  is_zero = λ x. eqb x.top 0;
}
