-- What it means that a number is the nearest of 32 bits to an exact fraction, a tie going to the even mantissa (IEEE 754 roundTiesToEven).
use Rattle.std.specs.Prelude.{◌≡◌, ℕ, ◌+◌, ◌-◌, ◌*◌, ◌%◌, ◌^◌, ◌≤◌, ◌<◌}
use Rattle.std.proofs.Common.{mul-pos, pow_pos}
use Rattle.fraction.specs.Fraction.{Fraction, Same}
use Rattle.number.specs.Number.{bias, value, FullDigits}
use Rattle.number.specs.declared.Number.{Number}

-- the distance of two whole numbers
abbrev pub gap : ℕ → ℕ → ℕ
gap a b = (a - b) + (b - a)

-- |x - q| ≤ |y - q|, by cross products: |x - q| is gap (x.top * q.low) (q.top * x.low) over x.low * q.low
abbrev pub AtLeastAsNear : Fraction → Fraction → Fraction → Type 0
AtLeastAsNear q x y = gap (x.top * q.low) (q.top * x.low) * y.low ≤ gap (y.top * q.low) (q.top * y.low) * x.low

-- n / d at exponent x, which `round_by` rounds
abbrev pub unrounded : (n d x : ℕ) → 0 < d → Fraction
unrounded n d x p = record { top = n * 2 ^ (x - bias); low = d * 2 ^ (bias - x); above_zero = mul-pos p (pow_pos (bias - x)) }

-- m × 2 ^ (i - j)
abbrev pub float : ℕ → ℕ → ℕ → Fraction
float m i j = record { top = m * 2 ^ i; low = 2 ^ j; above_zero = pow_pos j }

-- Of all m × 2 ^ (i - j) with m of at most 32 bits, zero among them, none is nearer to q than r; where another is as near, r's mantissa is even.
pub record NearestTo (q : Fraction) (r : Number) : Type 0 where
  pub best : (m i j : ℕ) → m < 2 ^ 32 → AtLeastAsNear q (value r) (float m i j)
  pub even : (m i j : ℕ) → m < 2 ^ 32 → AtLeastAsNear q (float m i j) (value r) → (Same (float m i j) (value r) → ⊥) → r.m % 2 ≡ 0

-- a mantissa of 32 bits
abbrev pub Normal : Number → Type 0
Normal a = FullDigits a.m
