-- Laws of document 01's fractions: `Same` is an equivalence that sum, product and quotient respect (`same_refl`, `sum_same`, ..), and when a top is above zero.
use mathlib.Core.Path.{◌≡◌, refl, sym, ap}
use Prim.Native.Nat.{ℕ, zero, suc, ◌*◌, ◌<◌}
use native.Mathlib.Nat.{mul-pos, eq_of_mul-eq-mul_right}
use native.Mathlib.Omega.{arith}
use Rattle.fraction.specs.Fraction.{Fraction, Same, fraction_sum, fraction_product, divided_by, fraction_quotient}

pub same_refl : (x : Fraction) → Same x x
same_refl x = refl

pub same-sym : (x y : Fraction) → Same x y → Same y x
same-sym x y h = sym h

-- the middle fraction's lower number cancels
pub same-trans : (x y z : Fraction) → Same x y → Same y z → Same x z
same-trans x y z h g =
    eq_of_mul-eq-mul_right y.low y.above_zero _ _ (omega (arith, ap (λ (t : ℕ). t * z.low) h, ap (λ (t : ℕ). t * x.low) g))

pub sum_same : (x x' y y' : Fraction) → Same x x' → Same y y' → Same (fraction_sum x y) (fraction_sum x' y')
sum_same x x' y y' h g = omega (arith, ap (λ (t : ℕ). t * (y.low * y'.low)) h, ap (λ (t : ℕ). t * (x.low * x'.low)) g)

pub product-same : (x x' y y' : Fraction) → Same x x' → Same y y' → Same (fraction_product x y) (fraction_product x' y')
product-same x x' y y' h g = omega (arith, ap (λ (t : ℕ). t * (y.top * y'.low)) h, ap (λ (t : ℕ). t * (x'.top * x.low)) g)

-- the two parts of a quotient by a fraction above zero
pub quotient-top : (x y : Fraction) → 0 < y.top → (fraction_quotient x y).top ≡ x.top * y.low
quotient-top x y = parts y.top
  where
    parts : (t : ℕ) → 0 < t → (divided_by x t y.low).top ≡ x.top * y.low
    parts zero p = absurd (omega arith)
    parts (suc t) p = refl

pub quotient-low : (x y : Fraction) → 0 < y.top → (fraction_quotient x y).low ≡ x.low * y.top
quotient-low x y = parts y.top
  where
    parts : (t : ℕ) → 0 < t → (divided_by x t y.low).low ≡ x.low * t
    parts zero p = absurd (omega arith)
    parts (suc t) p = refl

pub factor-positive : (a b : ℕ) → 0 < a * b → 0 < a
factor-positive zero b p = absurd (omega arith)
factor-positive (suc a) b p = omega arith

pub same-positive : (x y : Fraction) → Same x y → 0 < x.top → 0 < y.top
same-positive x y h p = factor-positive y.top x.low (omega (arith, mul-pos p y.above_zero))

pub quotient-same : (x x' y y' : Fraction) → 0 < y.top → Same x x' → Same y y' → Same (fraction_quotient x y) (fraction_quotient x' y')
quotient-same x x' y y' p h g =
    let q = same-positive y y' g p in
    rw (quotient-top x y p, quotient-low x y p, quotient-top x' y' q, quotient-low x' y' q)
    (omega (arith, ap (λ (t : ℕ). t * (y.low * y'.top)) h, ap (λ (t : ℕ). t * (x'.top * x.low)) g))

pub quotient-product : (x y : Fraction) → 0 < y.top → Same (fraction_product (fraction_quotient x y) y) x
quotient-product x y p = rw (quotient-top x y p, quotient-low x y p) (omega arith)

pub sum-positive : (x y : Fraction) → 0 < x.top → 0 < (fraction_sum x y).top
sum-positive x y p = omega (arith, mul-pos p y.above_zero)

pub product-positive : (x y : Fraction) → 0 < x.top → 0 < y.top → 0 < (fraction_product x y).top
product-positive x y p q = mul-pos p q

pub quotient-positive : (x y : Fraction) → 0 < x.top → 0 < y.top → 0 < (fraction_quotient x y).top
quotient-positive x y p q = rw (quotient-top x y q) (mul-pos p y.above_zero)
