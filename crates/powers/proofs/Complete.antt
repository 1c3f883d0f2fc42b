-- Complete homogeneous polynomials in a run of variables, taken apart by the first variable (by definition) and by the last (complete-last); so the step of a
-- divided difference (complete-step). In one variable they are powers (complete-one).
use mathlib.Core.Path.{◌≡◌, refl, sym, ap, ap₂, ◌∙◌}
use Prim.Native.Nat.{ℕ, zero, suc, ◌+◌ as ◌+ℕ◌}
use native.Mathlib.Omega.{arith}
use Rattle.fraction.specs.Ring.{CRing}
use Rattle.fraction.proofs.Ring.{ring, zero-+}

-- y to the power d
unfoldable pub power : (K : CRing) → K.R → ℕ → K.R
power K y zero = K.𝟙
power K y (suc d) = K.mul y (power K y d)

-- a step that adds nothing
pub adds-nothing : (K : CRing) (z y : K.R) → z ≡ K.add z (K.mul y K.𝟘)
adds-nothing K z y = simp ring

module _ (K : CRing) (x : ℕ → K.R) where
  open K use {R, 𝟘, 𝟙, add as ◌+◌, mul as ◌*◌, neg}

  infixl 65 ◌+◌
  infixl 70 ◌*◌
  -- of degree d in the m variables x a, x (a + 1), ..
  unfoldable pub complete : ℕ → ℕ → ℕ → R
  complete a m zero = 𝟙
  complete a zero (suc d) = 𝟘
  complete a (suc m) (suc d) = complete (suc a) m (suc d) + x a * complete a (suc m) d

  pub complete-last : (a m d : ℕ) → complete a (suc m) (suc d) ≡ complete a m (suc d) + x (a +ℕ m) * complete a (suc m) d
  unfolding complete
  complete-last a zero d = let e : a +ℕ 0 ≡ a = omega arith in ap (λ i. 𝟘 + x i * complete a 1 d) (sym e)
  complete-last a (suc m) zero =
      let e : suc a +ℕ m ≡ a +ℕ suc m = omega arith in
      ap (λ y. y + x a * 𝟙) (complete-last (suc a) m zero ∙ ap (λ i. complete (suc a) m 1 + x i * 𝟙) e)
      ∙ swap (complete (suc a) m 1) (x (a +ℕ suc m)) (x a)
    where
      swap : (p y z : R) → p + y * 𝟙 + z * 𝟙 ≡ p + z * 𝟙 + y * 𝟙
      swap p y z = simp ring
  complete-last a (suc m) (suc d) =
      let e : suc a +ℕ m ≡ a +ℕ suc m = omega arith in
      ap₂ (λ y z. y + x a * z)
      (complete-last (suc a) m (suc d) ∙ ap (λ i. complete (suc a) m (suc (suc d)) + x i * complete (suc a) (suc m) (suc d)) e)
      (complete-last a (suc m) d)
      ∙ swap (complete (suc a) m (suc (suc d))) (x (a +ℕ suc m)) (complete (suc a) (suc m) (suc d)) (x a) (complete a (suc m) (suc d))
      (complete a (suc (suc m)) d)
    where
      swap : (p y q z r t : R) → p + y * q + z * (r + y * t) ≡ p + z * r + y * (q + z * t)
      swap p y q z r t = simp ring

  -- the variables a + 1 .. a + m in place of a .. a + m - 1
  pub complete-step : (a m d : ℕ) → complete (suc a) m (suc d) ≡ complete a m (suc d) + (x (a +ℕ m) + neg (x a)) * complete a (suc m) d
  unfolding complete
  complete-step a m d = solved _ _ _ _ _ (complete-last a m d)
    where
      solved : (p q y z t : R) → p + z * t ≡ q + y * t → p ≡ q + (y + neg z) * t
      solved p q y z t h = shift p (z * t) ∙ ap (λ w. w + neg (z * t)) h ∙ spread q y z t
        where
          shift : (p w : R) → p ≡ p + w + neg w
          shift p w = simp ring

          spread : (q y z t : R) → q + y * t + neg (z * t) ≡ q + (y + neg z) * t
          spread q y z t = simp ring

  -- in one variable
  pub complete-one : (a d : ℕ) → complete a 1 d ≡ power K (x a) d
  unfolding complete power
  complete-one a zero = refl
  complete-one a (suc d) = zero-+ K _ ∙ ap (λ y. x a * y) (complete-one a d)
