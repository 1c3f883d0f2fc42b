-- THE FACTORS OF STAMPS over any arithmetic, case by case: above the diagonal (factor-above), on it (factor-on) and below it (factor-below), where the
-- differences s(i) - s(k + 1) over k are those of s(i) - s(k) over the numbers behind (product-shift).
use mathlib.Core.Path.{◌≡◌, refl, sym, ap, ap₂, ◌∙◌}
use Prim.Native.Nat.{ℕ, zero, suc, ◌+◌, ◌-◌, ◌≤◌, ◌<◌}
use native.Mathlib.Omega.{arith}
use borrow.Author.Tests.{eq-eqb, ne_eqb, lt-ltb, le-ltb}
use Rattle.fraction.specs.Arithmetic.{Arithmetic}
use Rattle.powers.specs.Stamps.{product_from, stamp_factor}

-- how many differences a product below the diagonal has
pub run-count : (i j : ℕ) → 1 ≤ j → j < i → suc (i - 2) - (i - j) ≡ j - 1
run-count i j l h = omega arith

module _ (K : Arithmetic) where
  open K use {Num, mul, div}

  product-shift : (a m : ℕ) (g : ℕ → Num) → product_from K (a + 1) m g ≡ product_from K a m (λ k. g (k + 1))
  unfolding product_from
  product-shift a zero g = refl
  product-shift a (suc m) g = let e : a + 1 + m ≡ a + m + 1 = omega arith in ap₂ (λ p i. mul p (g i)) (product-shift a m g) e

  module _ (s : ℕ → Num) (d : ℕ → ℕ → Num) where
    pub factor-above : (i j : ℕ) → i < j → stamp_factor K s d i j ≡ s i
    unfolding stamp_factor
    factor-above i j h = let e : i ≤ j = omega arith in rw (ne_eqb i j (λ g. omega arith), le-ltb j i e)

    pub factor-on : (i : ℕ) → 1 ≤ i → stamp_factor K s d i i ≡ product_from K 1 (i - 1) (d i)
    unfolding stamp_factor
    factor-on i h = let m : suc (i - 1) - 1 ≡ i - 1 = omega arith in rw (eq-eqb i i refl, m)

    pub factor-below : (i j : ℕ) → 1 ≤ j → j < i
        → stamp_factor K s d i j ≡ div (product_from K (i - j + 1) (j - 1) (d i)) (product_from K (i - j) (j - 1) (d (i - 1)))
    unfolding stamp_factor
    factor-below i j l h =
        rw (ne_eqb i j (λ g. omega arith), lt-ltb j i h)
        (ap (λ c. div (product_from K (i - j) c (λ k. d i (k + 1))) (product_from K (i - j) c (d (i - 1)))) (run-count i j l h)
        ∙ ap (λ p. div p (product_from K (i - j) (j - 1) (d (i - 1)))) (sym (product-shift (i - j) (j - 1) (d i))))
