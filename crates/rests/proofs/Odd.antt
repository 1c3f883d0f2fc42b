-- Twos taken out of a whole number: what is left is odd, and the number is it times a power of 2 (`halves`). A number is so in one way only (`odd-unique`),
-- and so a word's trailing zeros are its twos (`word-twos`).
use mathlib.Core.Path.{◌≡◌, refl, sym, ap, ap₂, ◌∙◌}
use Prim.Native.Nat.{ℕ, zero, suc, ◌+◌, ◌-◌, ◌*◌, ◌/◌, ◌%◌, ◌^◌, ◌≤◌, ◌<◌}
use native.Mathlib.Nat.{eq_of_mul-eq-mul_right, div-one, mul_comm, pow-suc, div-div-eq-div-mul}
use native.Mathlib.Decide.{dec_le}
use native.Mathlib.Omega.{arith}
use lib.Count.{count_trailing_zeros, under}
use lib.Ieee.{size}
use lib.Ieee.Digits.{size-lt}
use lib.Pow.{pow_pos, pow-add}
use Rattle.rests.specs.Rest.{twos}

-- ---- twos taken out, by the last digit
pub record Halved (n t : ℕ) : Type 0 where
  pub whole : n / 2 ^ t * 2 ^ t ≡ n
  pub odd : n / 2 ^ t % 2 ≡ 1

pub halves : (k n : ℕ) → 0 < n → n < 2 ^ k → Halved n (count_trailing_zeros k n)
unfolding count_trailing_zeros
halves zero n p h = absurd (omega arith)
halves (suc k) n p h = by (n % 2) refl (λ q l. halves k (n / 2) q l)
  where
    by : (r : ℕ) → n % 2 ≡ r → (0 < n / 2 → n / 2 < 2 ^ k → Halved (n / 2) (count_trailing_zeros k (n / 2))) → Halved n (under r (count_trailing_zeros k (n / 2)))
    by zero e back =
        let t : ℕ = count_trailing_zeros k (n / 2) in
        let d : n / 2 ^ suc t ≡ n / 2 / 2 ^ t = ap (λ (z : ℕ). n / z) (pow-suc 2 t ∙ mul_comm (2 ^ t) 2) ∙ sym (div-div-eq-div-mul n 2 (2 ^ t)) in
        let g = back (omega arith) (omega arith) in
        let f : n / 2 / 2 ^ t * (2 ^ t * 2) ≡ n = omega (arith, g.whole) in
        record { whole = ap₂ ◌*◌ d (pow-suc 2 t) ∙ f; odd = ap (λ (z : ℕ). z % 2) d ∙ g.odd }
    by (suc r) e back = record { whole = omega (arith, div-one n); odd = rw (div-one n) (omega arith) }

-- ---- in one way
-- the exponent is not lower
not_lower : (n m x y : ℕ) → m % 2 ≡ 1 → n * 2 ^ x ≡ m * 2 ^ y → x ≤ y
not_lower n m x y o e = go (dec_le x y)
  where
    go : Dec (x ≤ y) → x ≤ y
    go (yes h) = h
    go (no h) =
        let k : ℕ = x - y - 1 in
        let f : k + 1 + y ≡ x = omega arith in
        let p : 2 ^ x ≡ 2 ^ k * 2 * 2 ^ y = ap (λ (i : ℕ). 2 ^ i) (sym f) ∙ pow-add 2 (k + 1) y ∙ ap (λ (z : ℕ). z * 2 ^ y) (pow-add 2 k 1) in
        let g : n * (2 ^ k * 2) ≡ m = eq_of_mul-eq-mul_right (2 ^ y) (pow_pos y) (n * (2 ^ k * 2)) m (omega (arith, e, ap (λ (z : ℕ). n * z) p)) in
        absurd (even (n * 2 ^ k) (omega arith))
      where
        even : (z : ℕ) → z * 2 ≡ m → ⊥
        even z f = omega arith

pub record SameOdd (n m x y : ℕ) : Type 0 where
  pub number : n ≡ m
  pub exponent : x ≡ y

pub odd-unique : (n m x y : ℕ) → n % 2 ≡ 1 → m % 2 ≡ 1 → n * 2 ^ x ≡ m * 2 ^ y → SameOdd n m x y
odd-unique n m x y p q e =
    let a = not_lower n m x y q e in
    let b = not_lower m n y x p (sym e) in
    let f : x ≡ y = omega arith in
    record { number = eq_of_mul-eq-mul_right (2 ^ y) (pow_pos y) n m (ap (λ (i : ℕ). n * 2 ^ i) (sym f) ∙ e); exponent = f }

-- a word's trailing zeros
pub word-twos : (n : ℕ) → 0 < n → n < 2 ^ 64 → count_trailing_zeros 64 n ≡ twos n
word-twos n p h =
    let a = halves 64 n p h in
    let b = halves (size n) n p (size-lt n) in
    (odd-unique _ _ _ _ a.odd b.odd (a.whole ∙ sym b.whole)).exponent
