-- Natural numbers below 2 ^ 32 are kept exactly: their mantissa and exponent (`natural-is`), how far the exponent reaches (`natural-ranged`), and what they
-- stand for (`natural-value`). One times a number is that number (`product-one`).
use mathlib.Core.Path.{◌≡◌, refl, sym, ap, ◌∙◌, subst}
use Prim.Native.Nat.{ℕ, zero, suc, ◌+◌, ◌-◌, ◌*◌, ◌^◌, ◌≤◌, ◌<◌}
use native.Mathlib.Nat.{mul_comm}
use native.Mathlib.Omega.{arith}
use lib.Pow.{pow-add}
use lib.Ieee.{size}
use lib.Ieee.Digits.{size-lt, size-le, size_reaches}
use Rattle.fraction.specs.Fraction.{Same, natural}
use Rattle.number.proofs.Exact.{short}
use Rattle.number.proofs.Rounding.{round_exact}
use Rattle.number.proofs.Zero.{round-back}
use Rattle.number.specs.Number.{bias, one_number, natural_number, product_by, value, Ranged}
use Rattle.number.specs.declared.Direction.{Direction}
use Rattle.number.specs.declared.Direction.TheVariants.{Nearest}
use Rattle.number.specs.declared.Number.{Number}

-- n with k zeros joined is a mantissa of 32 digits, at the exponent -k
pub record Normalised (n : ℕ) (a : Number) : Type 0 where
  pub k : ℕ
  pub few : k ≤ 31
  pub mantissa : a.m ≡ n * 2 ^ k
  pub exponent : a.x ≡ bias - k
  pub low : 2 ^ 31 ≤ a.m
  pub high : a.m < 2 ^ 32

module _ (n : ℕ) (p : 0 < n) (h : n < 2 ^ 32) where
  natural-is : Normalised n (natural_number n)
  natural-is = go (size n) refl
    where
      go : (s : ℕ) → size n ≡ s → Normalised n (natural_number n)
      go zero e = absurd (let l : n < 2 ^ 0 = subst (λ (s : ℕ). n < 2 ^ s) e (size-lt n) in omega arith)
      go (suc j) e =
          let k : ℕ = 63 - j - 32 in
          let l : size n ≤ 32 = size-le n 32 h in
          let lo : 2 ^ j ≤ n = size_reaches n j (omega arith) in
          let hi : n < 2 ^ suc j = subst (λ (s : ℕ). n < 2 ^ s) e (size-lt n) in
          let fits = short n (63 - j) j (omega arith) lo hi (omega arith) in
          let g : k + suc j ≡ 32 = omega arith in
          let d : 2 ^ k * 2 ^ suc j ≡ 2 ^ 32 = sym (pow-add 2 k (suc j)) ∙ ap (λ (i : ℕ). 2 ^ i) g in
          let x : bias + suc j - 32 ≡ bias - k = omega arith in
          let r = round_exact Nearest n bias (n * 2 ^ k) (suc j) p (omega (arith, ap (λ (z : ℕ). n * z) d)) fits.0 fits.1 in
          rw (r, x) (record { k = k; few = omega arith; mantissa = refl; exponent = refl; low = fits.0; high = fits.1 })

  pub natural-ranged : Ranged 31 (natural_number n)
  natural-ranged = let j = natural-is in record {
    zero = λ e. absurd (omega (arith, j.low));
    low = λ q. j.low;
    high = j.high;
    start = omega (arith, j.exponent, j.few);
    stop = omega (arith, j.exponent);
  }

  pub natural-value : Same (value (natural_number n)) (natural n)
  unfolding value
  natural-value =
      let j = natural-is in
      let z : bias - j.k - bias ≡ 0 = omega arith in
      let y : bias - (bias - j.k) ≡ j.k = omega (arith, j.few) in
      rw (j.mantissa, j.exponent, z, y) (omega arith)

-- ---- one times a number
pub product-one : (w : Direction) {r : ℕ} (a : Number) → Ranged r a → 31 ≤ a.x → product_by w one_number a ≡ a
unfolding product_by
product-one w a f h =
    let x : bias - 31 + a.x - bias ≡ a.x - 31 = omega arith in
    let y : a.x - (a.x - 31) ≡ 31 = omega arith in
    let m : 2 ^ 31 * a.m ≡ a.m * 2 ^ (a.x - (a.x - 31)) = rw y (mul_comm (2 ^ 31) a.m) in
    rw (x, m) (round-back w a (a.x - 31) f (omega arith))
