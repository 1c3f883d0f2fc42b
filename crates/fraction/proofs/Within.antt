-- Laws of document 01's "within k": an equivalence as k adds up (`within-refl`, `within-sym`, `within-trans`), and what sum, product and quotient make of it
-- (`within-sum`, `within-mul`, `within-div`). The powers of `less` and `unit` are never computed.
use mathlib.Core.Path.{◌≡◌, refl, sym}
use Prim.Native.Nat.{ℕ, zero, suc, ◌+◌, ◌-◌, ◌*◌, ◌^◌, ◌≤◌, ◌<◌, max}
use native.Mathlib.Nat.{add_comm, mul-pos, mul-le-mul, mul-le-mul_left, le_of_mul-le-mul_right, one-le-pow, pow-le-pow_left, pow-zero, le-max_left}
use native.Mathlib.Nat.{le-max_right}
use native.Mathlib.Omega.{arith}
use lib.Pow.{pow-add}
use Rattle.fraction.specs.Fraction.{Fraction, Same, natural, fraction_sum, fraction_product, fraction_quotient}
use Rattle.fraction.specs.Within.{less, unit, Within}
use Rattle.fraction.proofs.Fraction.{factor-positive, quotient-top, quotient-low}

less-power-positive : (k : ℕ) → 0 < less ^ k
unfolding less
less-power-positive k = one-le-pow k less (omega arith)

less-power-le : (k : ℕ) → less ^ k ≤ unit ^ k
unfolding less unit
less-power-le k = pow-le-pow_left {n = less} {m = unit} (omega arith) k

-- One half of `Within k x y`: x is at least (less / unit) ^ k of y. Each law below holds half by half.
abbrev AtLeast : ℕ → Fraction → Fraction → Type 0
AtLeast k x y = less ^ k * (y.top * x.low) ≤ unit ^ k * (x.top * y.low)

least-same : (x y : Fraction) → Same x y → AtLeast 0 x y
least-same x y h = rw (pow-zero less, pow-zero unit) (omega arith)

least-trans : (j k : ℕ) (x y z : Fraction) → AtLeast j x y → AtLeast k y z → AtLeast (j + k) x z
least-trans j k x y z g h =
    le_of_mul-le-mul_right {k = y.low}
    (rw (pow-add less j k, pow-add unit j k) (omega (arith, mul-le-mul_left (less ^ j * x.low) h, mul-le-mul_left (unit ^ k * z.low) g))) y.above_zero

least_more : (j k : ℕ) (x y : Fraction) → AtLeast j x y → AtLeast (j + k) x y
least_more j k x y g = rw (pow-add less j k, pow-add unit j k) (omega (arith, mul-le-mul (less-power-le k) g))

least-sum : (k : ℕ) (x x' y y' : Fraction) → AtLeast k x x' → AtLeast k y y' → AtLeast k (fraction_sum x y) (fraction_sum x' y')
least-sum k x x' y y' g h = omega (arith, mul-le-mul_left (y.low * y'.low) g, mul-le-mul_left (x.low * x'.low) h)

least-mul : (j k : ℕ) (x x' y y' : Fraction) → AtLeast j x x' → AtLeast k y y' → AtLeast (j + k) (fraction_product x y) (fraction_product x' y')
least-mul j k x x' y y' g h = rw (pow-add less j k, pow-add unit j k) (omega (arith, mul-le-mul g h))

-- of the divisors, the other half
least-div : (j k : ℕ) (x x' y y' : Fraction) → 0 < y.top → 0 < y'.top → AtLeast j x x' → AtLeast k y' y
    → AtLeast (j + k) (fraction_quotient x y) (fraction_quotient x' y')
least-div j k x x' y y' p q g h =
    rw (quotient-top x y p, quotient-low x y p, quotient-top x' y' q, quotient-low x' y' q, pow-add less j k, pow-add unit j k) (omega (arith, mul-le-mul g h))

pub within-refl : (x : Fraction) → Within 0 x x
within-refl x = record { above = least-same x x refl; below = least-same x x refl }

pub within_same : (x y : Fraction) → Same x y → Within 0 x y
within_same x y h = record { above = least-same x y h; below = least-same y x (sym h) }

-- the other way round
pub within-zero : {x y : Fraction} → Within 0 x y → Same x y
within-zero u =
    let g = rw (pow-zero less, pow-zero unit) at u.above in
    let h = rw (pow-zero less, pow-zero unit) at u.below in
    omega arith

pub within-sym : {k : ℕ} {x y : Fraction} → Within k x y → Within k y x
within-sym u = record { above = u.below; below = u.above }

pub within-trans : {j k : ℕ} {x y z : Fraction} → Within j x y → Within k y z → Within (j + k) x z
within-trans {j} {k} {x} {y} {z} u v = record {
  above = least-trans j k x y z u.above v.above;
  below = rw (add_comm j k) (least-trans k j z y x v.below u.below);
}

pub within-mono : {j k : ℕ} {x y : Fraction} → j ≤ k → Within j x y → Within k x y
within-mono {j} {k} {x} {y} l u =
    let e : j + (k - j) ≡ k = omega arith in
    rw (← e) (record { above = least_more j (k - j) x y u.above; below = least_more j (k - j) y x u.below })

pub within-congruence : {k : ℕ} {x y : Fraction} (x' y' : Fraction) → Within k x y → Same x x' → Same y y' → Within k x' y'
within-congruence {k} {x} {y} x' y' u h g =
    within-mono (omega arith) (within-trans (within_same x' x (sym h)) (within-trans u (within_same y y' g)))

pub within-sum : {k : ℕ} {x x' y y' : Fraction} → Within k x x' → Within k y y' → Within k (fraction_sum x y) (fraction_sum x' y')
within-sum {k} {x} {x'} {y} {y'} u v =
    record { above = least-sum k x x' y y' u.above v.above; below = least-sum k x' x y' y u.below v.below }

pub within-sum-max : {j k : ℕ} {x x' y y' : Fraction} → Within j x x' → Within k y y' → Within (max j k) (fraction_sum x y) (fraction_sum x' y')
within-sum-max {j} {k} u v = within-sum (within-mono (le-max_left j k) u) (within-mono (le-max_right j k) v)

pub within-mul : {j k : ℕ} {x x' y y' : Fraction} → Within j x x' → Within k y y' → Within (j + k) (fraction_product x y) (fraction_product x' y')
within-mul {j} {k} {x} {x'} {y} {y'} u v =
    record { above = least-mul j k x x' y y' u.above v.above; below = least-mul j k x' x y' y u.below v.below }

-- a fraction within k of one above zero is above zero
pub within-positive : {k : ℕ} {x y : Fraction} → Within k x y → 0 < y.top → 0 < x.top
within-positive {k} {x} {y} u p =
    factor-positive x.top (unit ^ k * y.low) (omega (arith, u.above, mul-pos (less-power-positive k) (mul-pos p x.above_zero)))

pub within-div : {j k : ℕ} {x x' y y' : Fraction} → Within j x x' → Within k y y' → 0 < y.top → Within (j + k) (fraction_quotient x y) (fraction_quotient x' y')
within-div {j} {k} {x} {x'} {y} {y'} u v p =
    let q = within-positive (within-sym v) p in
    record { above = least-div j k x x' y y' p q u.above v.below; below = least-div j k x' x y' y q p u.below v.above }

-- both times c
pub within-scaled : {k : ℕ} {x y : Fraction} (c x' y' : Fraction) → Within k x y → Same (fraction_product x c) x' → Same (fraction_product y c) y'
    → Within k x' y'
within-scaled c x' y' u h g = within-congruence x' y' (within-mono (omega arith) (within-mul u (within-refl c))) h g

-- what is zero is within any count of zero, and of nothing else
pub within_none : {k : ℕ} {x y : Fraction} → Within k x y → y.top ≡ 0 → x.top ≡ 0
within_none {k} {x} {y} h e = go x.top refl
  where
    go : (t : ℕ) → x.top ≡ t → x.top ≡ 0
    go zero f = f
    go (suc t) f = absurd (omega (arith, within-positive (within-sym h) (omega arith)))

-- one unit rounding of whole numbers, by document 01's numbers
pub within-one : {p q : ℕ} → Within 1 (natural p) (natural q) → ((2 ^ 32 - 1) * q ≤ 2 ^ 32 * p) × ((2 ^ 32 - 1) * p ≤ 2 ^ 32 * q)
unfolding less unit
within-one h = (omega (arith, h.above), omega (arith, h.below))
