-- Laws of sums f 1 + .. + f n: terms that are equal (sum-equal), one term that is not zero (sum-single), sums of sums (sum-swap), the terms backwards
-- (sum-reversed), terms past the k-th that are zero (sum-short), and the sum taken away (sum-neg).
use mathlib.Core.Path.{◌≡◌, refl, sym, ap, ap₂, ◌∙◌}
use mathlib.Core.Bool.{cond}
use Prim.Native.Nat.{ℕ, zero, suc, ◌+◌ as ◌+ℕ◌, ◌-◌, ◌≤◌}
use native.Mathlib.Decide.{ℕ_discrete}
use native.Mathlib.Omega.{arith}
use lib.Dec.{leb}
use borrow.Author.Tests.{le-leb, lt-leb}
use Rattle.fraction.specs.Ring.{CRing}
use Rattle.fraction.proofs.Ring.{ring, +_assoc, +_comm, +-zero, zero-+, *-zero, *-comm, *-+}
use Rattle.words.specs.RowSet.{In}
use Rattle.words.proofs.RowSets.{in-under, in_top}
use Rattle.minors.specs.Matrix.{sum}

module _ (K : CRing) where
  open K use {R, 𝟘, add as ◌+◌, mul as ◌*◌, neg}

  infixl 65 ◌+◌
  infixl 70 ◌*◌
  pub sum-equal : (n : ℕ) (f g : ℕ → R) → ((k : ℕ) → In n k → f k ≡ g k) → sum K n f ≡ sum K n g
  unfolding sum
  sum-equal zero f g h = refl
  sum-equal (suc n) f g h = ap₂ ◌+◌ (sum-equal n f g (λ k x. h k (in-under x))) (h (suc n) (in_top n))

  pub sum-zero : (n : ℕ) (f : ℕ → R) → ((k : ℕ) → In n k → f k ≡ 𝟘) → sum K n f ≡ 𝟘
  unfolding sum
  sum-zero zero f h = refl
  sum-zero (suc n) f h = ap₂ ◌+◌ (sum-zero n f (λ k x. h k (in-under x))) (h (suc n) (in_top n)) ∙ +-zero K 𝟘

  -- no term but the p-th
  pub sum-single : (n : ℕ) (f : ℕ → R) (p : ℕ) → In n p → ((k : ℕ) → In n k → (k ≡ p → ⊥) → f k ≡ 𝟘) → sum K n f ≡ f p
  unfolding sum
  sum-single zero f p x h = absurd (omega (arith, x.0, x.1))
  sum-single (suc n) f p x h = elim (ℕ_discrete p (suc n)) [
    | yes e ↦ ap₂ ◌+◌ (sum-zero n f (λ k y. h k (in-under y) (λ z. absurd (omega (arith, y.1))))) (ap f (sym e)) ∙ zero-+ K _
    | no e ↦
        ap₂ ◌+◌ (sum-single n f p (x.0, omega (arith, x.1)) (λ k y. h k (in-under y))) (h (suc n) (in_top n) (λ z. e (sym z)))
        ∙ +-zero K _
  ]

  pub sum-add : (n : ℕ) (f g : ℕ → R) → sum K n (λ k. f k + g k) ≡ sum K n f + sum K n g
  unfolding sum
  sum-add zero f g = sym (+-zero K 𝟘)
  sum-add (suc n) f g = ap (λ x. x + (f (suc n) + g (suc n))) (sum-add n f g) ∙ simp ring

  pub scale-sum : (n : ℕ) (c : R) (f : ℕ → R) → c * sum K n f ≡ sum K n (λ k. c * f k)
  unfolding sum
  scale-sum zero c f = *-zero K c
  scale-sum (suc n) c f = *-+ K c _ _ ∙ ap (λ x. x + c * f (suc n)) (scale-sum n c f)

  pub sum-scale : (n : ℕ) (c : R) (f : ℕ → R) → sum K n f * c ≡ sum K n (λ k. f k * c)
  sum-scale n c f = *-comm K _ c ∙ scale-sum n c f ∙ sum-equal n _ _ (λ k x. *-comm K c (f k))

  pub sum-swap : (n m : ℕ) (f : ℕ → ℕ → R) → sum K n (λ i. sum K m (f i)) ≡ sum K m (λ j. sum K n (λ i. f i j))
  unfolding sum
  sum-swap zero m f = sym (sum-zero m (λ j. 𝟘) (λ j x. refl))
  sum-swap (suc n) m f = ap (λ x. x + sum K m (f (suc n))) (sum-swap n m f) ∙ sym (sum-add m (λ j. sum K n (λ i. f i j)) (f (suc n)))

  sum_first : (n : ℕ) (f : ℕ → R) → sum K (suc n) f ≡ f 1 + sum K n (λ k. f (suc k))
  unfolding sum
  sum_first zero f = +_comm K _ _
  sum_first (suc n) f = ap (λ x. x + f (suc (suc n))) (sum_first n f) ∙ +_assoc K _ _ _

  pub sum-reversed : (n : ℕ) (f : ℕ → R) → sum K n f ≡ sum K n (λ k. f (n +ℕ 1 - k))
  unfolding sum
  sum-reversed zero f = refl
  sum-reversed (suc n) f =
      let e : suc n ≡ suc n +ℕ 1 - 1 = omega arith in
      ap₂ ◌+◌ (sum-reversed n f) (ap f e) ∙ +_comm K _ _
      ∙ ap (λ x. f (suc n +ℕ 1 - 1) + x) (sum-equal n _ _ (λ k x. ap f (under k)))
      ∙ sym (sum_first n (λ k. f (suc n +ℕ 1 - k)))
    where
      under : (k : ℕ) → n +ℕ 1 - k ≡ suc n +ℕ 1 - suc k
      under k = omega arith

  -- terms past the k-th that are zero
  pub sum-short : (n k : ℕ) (f : ℕ → R) → k ≤ n → sum K n (λ r. cond (leb r k) (f r) 𝟘) ≡ sum K k f
  unfolding sum
  sum-short zero k f h = let e : k ≡ 0 = omega arith in sym (ap (λ m. sum K m f) e)
  sum-short (suc n) k f h = elim (ℕ_discrete k (suc n)) [
    | yes e ↦ sum-equal (suc n) _ _ (λ r p. ap (λ t. cond t (f r) 𝟘) (le-leb r k (omega (arith, p.1)))) ∙ ap (λ m. sum K m f) (sym e)
    | no e ↦ ap₂ ◌+◌ (sum-short n k f (omega arith)) (ap (λ t. cond t (f (suc n)) 𝟘) (lt-leb (suc n) k (omega arith))) ∙ +-zero K _
  ]

  pub sum-neg : (n : ℕ) (f : ℕ → R) → sum K n (λ r. neg (f r)) ≡ neg (sum K n f)
  unfolding sum
  sum-neg zero f = simp ring
  sum-neg (suc n) f = ap (λ y. y + neg (f (suc n))) (sum-neg n f) ∙ simp ring
