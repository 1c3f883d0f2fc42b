-- Document 01's "within k", "Numbers": one unit rounding is a factor from 1 - 2 ^ -32 to its reciprocal,
-- and within k means a ratio from (1 - 2 ^ -32) ^ k to its reciprocal.
use Rattle.std.specs.Prelude.{ℕ, ◌+◌, ◌-◌, ◌*◌, ◌^◌, ◌≤◌}
use Rattle.fraction.specs.Fraction.{Fraction}

-- (2 ^ 32 - 1) / 2 ^ 32 is 1 - 2 ^ -32. Shut, so that a power of either is never computed.
unfoldable pub less : ℕ
less = 2 ^ 32 - 1

unfoldable pub unit : ℕ
unit = 2 ^ 32

-- x / y is at least (less / unit) ^ k, and y / x is, by their cross products. Zero is within k of zero only.
pub record Within (k : ℕ) (x y : Fraction) : Type 0 where
  pub above : less ^ k * (y.top * x.low) ≤ unit ^ k * (x.top * y.low)
  pub below : less ^ k * (x.top * y.low) ≤ unit ^ k * (y.top * x.low)

-- x differs from y by at most t parts in d of it: from (d - t) / d to (d + t) / d of it
pub record Close (t d : ℕ) (x y : Fraction) : Type 0 where
  pub above : (d - t) * (y.top * x.low) ≤ d * (x.top * y.low)
  pub below : d * (x.top * y.low) ≤ (d + t) * (y.top * x.low)
