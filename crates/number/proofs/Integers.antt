-- Laws of whole numbers with a sign: what a local holds that was given one (`held-is`, `read_is`), their signs (`below-zero`,
-- `not_negative`), and kept exponents
-- (`biased-negative`, `biased-plain`, `biased-near`, `exponent-near`, `biased-exponent`, `exponent-biased`).
use mathlib.Core.Path.{◌≡◌, refl, ap, ◌∙◌}
use mathlib.Core.Bool.{true, false, true≢false, false≢true}
use mathlib.Core.List.{List}
use Prim.Native.Nat.{ℕ, suc, ◌+◌, ◌-◌, ◌<◌, ◌≤◌, ◌^◌}
use native.Mathlib.Decide.{dec_lt}
use native.Mathlib.Omega.{arith}
use borrow.Author.Tests.{le-ltb, lt-ltb}
use lib.Dec.{T}
use lib.IntN.{ℤ, pos, negsuc, nat_abs, sub_ℕ}
use lib.ListN.{get_or}
use lib.Signed.{mag, lt_z, non_neg}
use mir.Syntax.{w64}
use mir.Val.{SFits, to_z, of_z}
use mir.Facts.{to_z-of_z}
use Rattle.number.specs.Number.{bias, unbiased}
use Rattle.number.specs.Integer.{is_negative, biased}

-- what a local holds that was given a number
pub held-is : {x y : ℤ} → SFits w64 x → x ≡ y → to_z w64 (of_z w64 x) ≡ y
held-is f e = to_z-of_z f ∙ e

-- a number of a row of numbers, read
pub read_is : (xs : List ℤ) (i : ℕ) → mag (get_or xs i (pos 0)) < 2 ^ 63 → to_z w64 (of_z w64 (get_or xs i (pos 0))) ≡ get_or xs i (pos 0)
read_is xs i h = to_z-of_z {w = w64} (record { sfits = h })

pub below-zero : (x : ℤ) → lt_z x (pos 0) ≡ is_negative x
below-zero (pos n) = le-ltb n 0 (omega arith)
below-zero (negsuc n) = refl

pub not_negative : (x : ℤ) → is_negative x ≡ false → T (non_neg x)
not_negative (pos n) e = tt
not_negative (negsuc n) e = absurd (true≢false e)

-- ---- exponents
pub biased-negative : (e : ℤ) → is_negative e ≡ true → bias - nat_abs e ≡ biased e
biased-negative (pos n) h = absurd (false≢true h)
biased-negative (negsuc n) h = refl

pub biased-plain : (e : ℤ) → is_negative e ≡ false → bias + nat_abs e ≡ biased e
biased-plain (pos n) h = refl
biased-plain (negsuc n) h = absurd (true≢false h)

pub biased-near : (e : ℤ) → nat_abs e ≤ 1000 → (bias ≤ biased e + 1000) × (biased e ≤ bias + 1000)
biased-near (pos n) h = (omega arith, omega arith)
biased-near (negsuc n) h = (omega arith, omega arith)

pub biased-exponent : (x : ℕ) → biased (sub_ℕ x bias) ≡ x
biased-exponent x = go (dec_lt x bias)
  where
    go : Dec (x < bias) → biased (sub_ℕ x bias) ≡ x
    go (yes h) = simp (lt-ltb x bias h) (omega arith)
    go (no h) = let l : bias ≤ x = omega arith in simp (le-ltb x bias l) (omega arith)

pub exponent-biased : (e : ℤ) → nat_abs e ≤ 1000 → unbiased (biased e) ≡ e
exponent-biased (pos n) h =
    let l : bias ≤ bias + n = omega arith in
    let d : bias + n - bias ≡ n = omega arith in
    simp (le-ltb (bias + n) bias l) (ap pos d)
exponent-biased (negsuc n) h =
    let l : bias - suc n < bias = omega arith in
    let d : bias - suc (bias - suc n) ≡ n = omega arith in
    simp (lt-ltb (bias - suc n) bias l) (ap negsuc d)

pub exponent-near : (x : ℕ) → bias ≤ x + 1000 → x ≤ bias + 1000 → nat_abs (sub_ℕ x bias) ≤ 1000
exponent-near x p q = go (dec_lt x bias)
  where
    go : Dec (x < bias) → nat_abs (sub_ℕ x bias) ≤ 1000
    go (yes h) = simp (lt-ltb x bias h) (omega arith)
    go (no h) = let l : bias ≤ x = omega arith in simp (le-ltb x bias l) (omega arith)
