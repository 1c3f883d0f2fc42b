-- What the code hands to the one rounding: whole numbers by their leading zeros (`integer-long`, `integer-short`), products and sums that fit a word, units
-- with what is left behind them (`by_units`), and, to nearest, operands far apart (`sum-far`, `difference-far`). Quotients: `Division`.
use mathlib.Core.Path.{◌≡◌, refl, sym, ap, ◌∙◌, subst}
use mathlib.Core.Logic.{⊎_elim}
use Prim.Native.Nat.{ℕ, zero, suc, ◌+◌, ◌-◌, ◌*◌, ◌^◌, ◌≤◌, ◌<◌}
use native.Mathlib.Nat.{pow-succ', mul-le-mul_right, mul-lt-mul_of_pos_right, eq-or-lt_of_le}
use native.Mathlib.Omega.{arith}
use lib.Count.{count_leading_zeros, leading_top}
use lib.Pow.{pow_pos, pow-add}
use Rattle.number.proofs.Closest.{nearest-up, nearest-down}
use Rattle.number.proofs.Rounding.{round_same, round-parts, renormalised-small}
use Rattle.number.specs.Direction.{taken}
use Rattle.number.specs.Number.{round, round_by, renormalised}
use Rattle.number.specs.declared.Direction.{Direction}
use Rattle.number.specs.declared.Direction.TheVariants.{Nearest}

-- ---- what the leading zeros of a word say: shifted by them it has 32 digits
module _ (n z j : ℕ) (c : z + suc j ≡ 64) (lo : 2 ^ j ≤ n) (hi : n < 2 ^ suc j) where
  long : z ≤ 32 → (2 ^ 31 * 2 ^ (32 - z) ≤ n) × (n < 2 ^ 32 * 2 ^ (32 - z))
  long h =
      let e : j ≡ 31 + (32 - z) = omega arith in
      let p : 2 ^ j ≡ 2 ^ 31 * 2 ^ (32 - z) = ap (λ (i : ℕ). 2 ^ i) e ∙ pow-add 2 31 (32 - z) in
      omega arith

  pub short : 32 ≤ z → (2 ^ 31 ≤ n * 2 ^ (z - 32)) × (n * 2 ^ (z - 32) < 2 ^ 32)
  short h =
      let e : j + (z - 32) ≡ 31 = omega arith in
      let p : 2 ^ j * 2 ^ (z - 32) ≡ 2 ^ 31 = sym (pow-add 2 j (z - 32)) ∙ ap (λ (i : ℕ). 2 ^ i) e in
      let hi' : n < 2 ^ j * 2 = omega arith in
      omega (arith, mul-le-mul_right (2 ^ (z - 32)) lo, mul-lt-mul_of_pos_right hi' (pow_pos (z - 32)))

module _ (n z : ℕ) (e : z ≡ count_leading_zeros 64 n) (p : 0 < n) (f : n < 2 ^ 64) where
  pub zeros-lt : z < 64
  zeros-lt = omega (arith, (leading_top 64 n p f).1)

  pub zeros-long : z ≤ 32 → (2 ^ 31 * 2 ^ (32 - z) ≤ n) × (n < 2 ^ 32 * 2 ^ (32 - z))
  zeros-long = let t = leading_top 64 n p f in rw e (long n (count_leading_zeros 64 n) t.0 t.1 t.2 t.3)

  pub zeros-short : 32 ≤ z → (2 ^ 31 ≤ n * 2 ^ (z - 32)) × (n * 2 ^ (z - 32) < 2 ^ 32)
  zeros-short = let t = leading_top 64 n p f in rw e (short n (count_leading_zeros 64 n) t.0 t.1 t.2 t.3)

-- ---- whole numbers: k digits are dropped, or k zeros joined
pub integer-long : (w : Direction) (n x k : ℕ) → 0 < n → 2 ^ 31 * 2 ^ k ≤ n → n < 2 ^ 32 * 2 ^ k → round_by w n 1 x ≡ round_by w n (2 ^ k) (x + k)
integer-long w n x k p lo hi = round_same w n 1 x n (2 ^ k) (x + k) (32 + k) p (omega arith) (pow_pos k) (rw (pow-add 2 32 k) (omega arith)) (omega arith) lo hi

pub integer-short : (n x k : ℕ) → 0 < n → k ≤ 32 → 2 ^ 31 ≤ n * 2 ^ k → n * 2 ^ k < 2 ^ 32 → round n 1 x ≡ round (n * 2 ^ k) 1 (x - k)
integer-short n x k p l lo hi =
    let g : k + (32 - k) ≡ 32 = omega arith in
    let e : 2 ^ k * 2 ^ (32 - k) ≡ 2 ^ 32 = sym (pow-add 2 k (32 - k)) ∙ ap (λ (i : ℕ). 2 ^ i) g in
    round_same Nearest n 1 x (n * 2 ^ k) 1 (x - k) (32 - k) p (omega arith) (omega arith) (omega (arith, ap (λ (z : ℕ). n * z) e)) (omega arith) (omega arith)
    (omega arith)

-- ---- what fits a word
pub sum_fits : (a b d : ℕ) → a < 2 ^ 32 → b < 2 ^ 32 → d ≤ 2 ^ 32 → (a * d < 2 ^ 64) × (a * d + b < 2 ^ 64)
sum_fits a b d p q t =
    let a' : a ≤ 2 ^ 32 - 1 = omega arith in
    let h : a * d ≤ (2 ^ 32 - 1) * d = mul-le-mul_right d a' in
    omega arith

pub product-fits : (a b : ℕ) → a < 2 ^ 32 → b < 2 ^ 32 → a * b < 2 ^ 64
product-fits a b p q = (sum_fits a 0 b p (omega arith) (omega arith)).0

-- ---- operands far apart
-- a units of 2 ^ k and r
pub by_units : (w : Direction) (a r j k : ℕ) → r < 2 ^ k → 2 ^ 31 ≤ a → a < 2 ^ 32 → round_by w (a * 2 ^ k + r) 1 j ≡ renormalised (taken w a r (2 ^ k)) (j + k)
by_units w a r j k h p q =
    let a' : a ≤ 2 ^ 32 - 1 = omega arith in
    let lo : 2 ^ 31 * 2 ^ k ≤ a * 2 ^ k = mul-le-mul_right (2 ^ k) p in
    let hi : a * 2 ^ k ≤ (2 ^ 32 - 1) * 2 ^ k = mul-le-mul_right (2 ^ k) a' in
    integer-long w (a * 2 ^ k + r) j k (omega (arith, pow_pos k)) (omega arith) (omega arith) ∙ round-parts w a r (2 ^ k) (j + k) h p q

-- to nearest, less than half a unit is nothing
pub sum-far : (a b j k : ℕ) → b * 2 < 2 ^ k → 2 ^ 31 ≤ a → a < 2 ^ 32 → round (a * 2 ^ k + b) 1 j ≡ record { m = a; x = j + k }
sum-far a b j k h p q =
    by_units Nearest a b j k (omega arith) p q ∙ ap (λ (m : ℕ). renormalised m (j + k)) (nearest-down a (b * 2) (2 ^ k) h) ∙ renormalised-small a (j + k) q

-- q + 1 units of 2 ^ k less b, where b is less than half a unit
less-than-half : (q b j k : ℕ) → 0 < b → b * 2 < 2 ^ k → 2 ^ 31 ≤ q → q < 2 ^ 32 → round (q * 2 ^ k + (2 ^ k - b)) 1 j ≡ renormalised (q + 1) (j + k)
less-than-half q b j k p h lo hi =
    by_units Nearest q (2 ^ k - b) j k (omega arith) lo hi ∙ ap (λ (m : ℕ). renormalised m (j + k)) (nearest-up q ((2 ^ k - b) * 2) (2 ^ k) (omega arith))

-- a is not the least mantissa
far-above : (a b j k : ℕ) → b * 2 < 2 ^ k → 2 ^ 31 < a → a < 2 ^ 32 → 0 < b → round (a * 2 ^ k - b) 1 j ≡ record { m = a; x = j + k }
far-above a b j k h p q s =
    let u : a - 1 + 1 ≡ a = omega arith in
    let n : a * 2 ^ k - b ≡ (a - 1) * 2 ^ k + (2 ^ k - b) = omega (arith, ap (λ (z : ℕ). z * 2 ^ k) u) in
    ap (λ (z : ℕ). round z 1 j) n ∙ less-than-half (a - 1) b j k s h (omega arith) (omega arith) ∙ ap (λ (m : ℕ). renormalised m (j + k)) u
    ∙ renormalised-small a (j + k) q

-- a is the least mantissa: one digit more is kept, rounded up to 2 ^ 32, and renormalised
far-least : (b j w : ℕ) → b * 2 < 2 ^ w → 0 < b → round (2 ^ 31 * 2 ^ suc w - b) 1 j ≡ record { m = 2 ^ 31; x = j + w + 1 }
unfolding renormalised
far-least b j w h s =
    let n : 2 ^ 31 * 2 ^ suc w - b ≡ (2 ^ 32 - 1) * 2 ^ w + (2 ^ w - b) = rw (pow-succ' 2 w) (omega arith) in
    ap (λ (z : ℕ). round z 1 j) n ∙ less-than-half (2 ^ 32 - 1) b j w s h (omega arith) (omega arith)

-- a units of 2 ^ k less b, which is less than half a unit, and less than a quarter where a is the least mantissa
pub difference-far : (a b j k : ℕ) → b * 2 < 2 ^ k → (a ≡ 2 ^ 31 → b * 4 < 2 ^ k) → 2 ^ 31 ≤ a → a < 2 ^ 32 → 0 < b
    → round (a * 2 ^ k - b) 1 j ≡ record { m = a; x = j + k }
difference-far a b j k h g p q s =
    ⊎_elim (λ (e : 2 ^ 31 ≡ a). subst (λ (z : ℕ). round (z * 2 ^ k - b) 1 j ≡ record { m = z; x = j + k }) e (least k refl (g (sym e))))
    (λ (l : 2 ^ 31 < a). far-above a b j k h l q s) (eq-or-lt_of_le p)
  where
    least : (i : ℕ) → k ≡ i → b * 4 < 2 ^ i → round (2 ^ 31 * 2 ^ i - b) 1 j ≡ record { m = 2 ^ 31; x = j + i }
    least zero e f = absurd (omega arith)
    least (suc w) e f =
        let t : b * 2 < 2 ^ w = omega arith in
        let y : j + w + 1 ≡ j + suc w = omega arith in
        far-least b j w t s ∙ ap (λ (z : ℕ). record { m = 2 ^ 31; x = z }) y
