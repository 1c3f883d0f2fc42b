-- Unit roundings as a distance: (1 - u) ^ k is at least 1 - k u, u being 2 ^ -32 (power-least), so that within k is a ratio from 1 - k u
-- to its reciprocal (within-linear). So k unit roundings are at most t parts in d, where (d + t) k u is at most t (within-close).
use mathlib.Core.Path.{◌≡◌, ap}
use Prim.Native.Nat.{ℕ, zero, suc, ◌+◌, ◌-◌, ◌*◌, ◌^◌, ◌≤◌, ◌<◌}
use native.Mathlib.Nat.{mul-le-mul_left, mul-le-mul_right, le_of_mul-le-mul_left, one-le-pow, pow-zero, pow-suc}
use native.Mathlib.Omega.{arith}
use Rattle.fraction.specs.Fraction.{Fraction}
use Rattle.fraction.specs.Within.{less, unit, Within, Close}

unit-power-positive : (k : ℕ) → 0 < unit ^ k
unfolding unit
unit-power-positive k = one-le-pow k unit (omega arith)

-- one unit rounding more takes at most one from d
one_less : (d : ℕ) → d ≤ unit → unit * (d - 1) ≤ less * d
unfolding less unit
one_less d h = omega arith

pub power-least : (k : ℕ) → k ≤ unit → unit ^ k * (unit - k) ≤ unit * less ^ k
power-least zero h = rw (pow-zero unit, pow-zero less) (omega arith)
power-least (suc k) h =
    let i : unit ^ k * (unit - k) ≤ unit * less ^ k = power-least k (omega arith) in
    let d : unit - suc k ≡ unit - k - 1 = omega arith in
    rw (pow-suc unit k, pow-suc less k, d)
    (omega (arith, mul-le-mul_left (unit ^ k) (one_less (unit - k) (omega arith)), mul-le-mul_left less i))

-- of cross products a and b
linear : (k a b : ℕ) → k ≤ unit → less ^ k * a ≤ unit ^ k * b → (unit - k) * a ≤ unit * b
linear k a b h g =
    le_of_mul-le-mul_left {k = unit ^ k}
    (omega (arith, mul-le-mul_right a (power-least k h), mul-le-mul_left unit g)) (unit-power-positive k)

pub within-linear : (k : ℕ) {x y : Fraction} → k ≤ unit → Within k x y
    → ((unit - k) * (y.top * x.low) ≤ unit * (x.top * y.low)) × ((unit - k) * (x.top * y.low) ≤ unit * (y.top * x.low))
within-linear k h w = (linear k _ _ h w.above, linear k _ _ h w.below)

-- PARTS IN d, of cross products a and b: r is what k leaves of the unit
below_parts : (k r t d a b : ℕ) → k + r ≡ unit → (d + t) * k ≤ t * unit → r * a ≤ unit * b → (d - t) * a ≤ d * b
unfolding unit
below_parts k r t d a b e g l =
    let whole : d * (k + r) ≡ d * unit = ap (λ (u : ℕ). d * u) e in
    let part : unit * (d - t) ≤ d * r = omega (arith, whole, g) in
    le_of_mul-le-mul_left {k = unit} (omega (arith, mul-le-mul_right a part, mul-le-mul_left d l)) (omega arith)

above-parts : (k r t d a b : ℕ) → k + r ≡ unit → (d + t) * k ≤ t * unit → r * a ≤ unit * b → d * a ≤ (d + t) * b
unfolding unit
above-parts k r t d a b e g l =
    let whole : (d + t) * (k + r) ≡ (d + t) * unit = ap (λ (u : ℕ). (d + t) * u) e in
    let part : unit * d ≤ (d + t) * r = omega (arith, whole, g) in
    le_of_mul-le-mul_left {k = unit} (omega (arith, mul-le-mul_right a part, mul-le-mul_left (d + t) l)) (omega arith)

pub within-close : (k t d : ℕ) {x y : Fraction} → k ≤ unit → (d + t) * k ≤ t * unit → Within k x y → Close t d x y
within-close k t d {x} {y} h g w =
    let l = within-linear k h w in
    let e : k + (unit - k) ≡ unit = omega arith in
    record { above = below_parts k (unit - k) t d _ _ e g l.0; below = above-parts k (unit - k) t d _ _ e g l.1 }
