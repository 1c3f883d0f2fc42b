-- The bits of a mask: a digit set above the rest of a mask (has-top, has-under), the bits of a rest (has-mod), a bit as a number (digit-has).
use mathlib.Core.Path.{◌≡◌, refl, sym, ap, ◌∙◌}
use mathlib.Core.Bool.{Bool, true, false}
use Prim.Native.Nat.{ℕ, zero, suc, ◌+◌, ◌-◌, ◌*◌, ◌/◌, ◌%◌, ◌^◌, ◌≤◌, ◌<◌}
use native.Mathlib.Nat.{mod-lt, div-eq_of_lt, mul-le-mul_right}
use native.Mathlib.Omega.{arith}
use lib.Dec.{eqb}
use lib.Pow.{field, high, low, mod-mod-pow, split, pow_mono}
use Rattle.rowset.specs.Mask.{digit, mask_has}

bit-mod : (k b s : ℕ) → b < k → s % 2 ^ k / 2 ^ b % 2 ≡ s / 2 ^ b % 2
bit-mod k b s h =
    let j : ℕ = k - suc b in
    let e : j + 1 + b ≡ k = omega arith in
    ap (λ m. s % 2 ^ m / 2 ^ b % 2) (sym e) ∙ ap (λ x. x % 2) (field s (j + 1) b) ∙ mod-mod-pow (s / 2 ^ b) j 1

pub has-mod : (n i s : ℕ) → 1 ≤ i → i ≤ n → mask_has i (s % 2 ^ n) ≡ mask_has i s
unfolding mask_has
has-mod n i s h l = ap (λ x. eqb x 1) (bit-mod n (i - 1) s (omega arith))

-- row n + 1 is bit n
pub has-suc : (n s : ℕ) → mask_has (suc n) s ≡ eqb (s / 2 ^ n % 2) 1
unfolding mask_has
has-suc n s = let e : suc n - 1 ≡ n = omega arith in ap (λ b. eqb (s / 2 ^ b % 2) 1) e

module _ (x : Bool) (n m : ℕ) (b : m < 2 ^ n) where
  pub has-top : mask_has (suc n) (digit x * 2 ^ n + m) ≡ x
  has-top = has-suc n (digit x * 2 ^ n + m) ∙ ap (λ y. eqb (y % 2) 1) (high (digit x) n b) ∙ odd x
    where
      odd : (x : Bool) → eqb (digit x % 2) 1 ≡ x
      odd true = refl
      odd false = refl

  pub has-under : (i : ℕ) → 1 ≤ i → i ≤ n → mask_has i (digit x * 2 ^ n + m) ≡ mask_has i m
  has-under i h l = sym (has-mod n i (digit x * 2 ^ n + m) h l) ∙ ap (mask_has i) (low (digit x) n b)

digit-small : (d : ℕ) → d < 2 → digit (eqb d 1) ≡ d
digit-small zero h = refl
digit-small (suc zero) h = refl
digit-small (suc (suc d)) h = absurd (omega arith)

-- a bit as a number
pub digit-has : (i s : ℕ) → digit (mask_has i s) ≡ s / 2 ^ (i - 1) % 2
unfolding mask_has
digit-has i s = digit-small (s / 2 ^ (i - 1) % 2) (mod-lt (s / 2 ^ (i - 1)) (omega arith))

pub digit-suc : (n s : ℕ) → digit (mask_has (suc n) s) ≡ s / 2 ^ n % 2
digit-suc n s = ap digit (has-suc n s) ∙ digit-small (s / 2 ^ n % 2) (mod-lt (s / 2 ^ n) (omega arith))

-- the bit of row i is part of the mask
pub digit-le : (i s : ℕ) → digit (mask_has i s) * 2 ^ (i - 1) ≤ s
digit-le i s =
    let q : ℕ = s / 2 ^ (i - 1) in
    let d : digit (mask_has i s) ≤ q = rw (digit-has i s) (omega arith) in
    let m : digit (mask_has i s) * 2 ^ (i - 1) ≤ q * 2 ^ (i - 1) = mul-le-mul_right _ d in
    omega (arith, split s (i - 1))

-- no row beyond the first n
pub has-beyond : (n m s : ℕ) → s < 2 ^ n → n ≤ m → mask_has (suc m) s ≡ false
has-beyond n m s b l =
    let p : 2 ^ n ≤ 2 ^ m = pow_mono l in
    let z : s / 2 ^ m ≡ 0 = div-eq_of_lt (omega arith) in
    has-suc m s ∙ ap (λ x. eqb (x % 2) 1) z
