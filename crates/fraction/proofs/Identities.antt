-- The solver at work: determinants of two and three rows.
use mathlib.Core.Path.{◌≡◌, refl}
use Rattle.fraction.specs.Ring.{CRing}
use Rattle.fraction.proofs.Solver.{◌⊕◌, ◌⊗◌, ◌⊝◌, ⊖, ◌≐◌, solve}

-- written once, for the elements of a ring and for the solver's expressions
module _ {A : Type 0} (◌+◌ ◌*◌ : A → A → A) (neg : A → A) where
  infixl 65 ◌+◌
  infixl 70 ◌*◌
  abbrev pub determinant₂ : (a b c d : A) → A
  determinant₂ a b c d = a * d + neg (b * c)

  abbrev pub determinant₃ : (a b c d e f g h k : A) → A
  determinant₃ a b c d e f g h k = a * determinant₂ e f h k + (neg (b * determinant₂ d f g k) + c * determinant₂ d e g h)

module _ (K : CRing) where
  open K use {R, add as ◌+◌, mul as ◌*◌, neg}

  infixl 65 ◌+◌
  infixl 70 ◌*◌
  pub square-difference : (a b : R) → (a + b) * (a + neg b) ≡ a * a + neg (b * b)
  square-difference = solve K 2 (λ a b. (a ⊕ b) ⊗ (a ⊝ b) ≐ a ⊗ a ⊝ b ⊗ b) refl

  pub determinant₂-product : (a b c d a' b' c' d' : R)
      → determinant₂ ◌+◌ ◌*◌ neg (a * a' + b * c') (a * b' + b * d') (c * a' + d * c') (c * b' + d * d')
      ≡ determinant₂ ◌+◌ ◌*◌ neg a b c d * determinant₂ ◌+◌ ◌*◌ neg a' b' c' d'
  determinant₂-product =
      solve K 8
      (λ a b c d a' b' c' d'. determinant₂ ◌⊕◌ ◌⊗◌ ⊖ (a ⊗ a' ⊕ b ⊗ c') (a ⊗ b' ⊕ b ⊗ d') (c ⊗ a' ⊕ d ⊗ c') (c ⊗ b' ⊕ d ⊗ d')
      ≐ determinant₂ ◌⊕◌ ◌⊗◌ ⊖ a b c d ⊗ determinant₂ ◌⊕◌ ◌⊗◌ ⊖ a' b' c' d') refl

  -- a multiple of the second row added to the first
  pub determinant₃-row : (w a b c d e f g h k : R)
      → determinant₃ ◌+◌ ◌*◌ neg (a + w * d) (b + w * e) (c + w * f) d e f g h k ≡ determinant₃ ◌+◌ ◌*◌ neg a b c d e f g h k
  determinant₃-row =
      solve K 10
      (λ w a b c d e f g h k. determinant₃ ◌⊕◌ ◌⊗◌ ⊖ (a ⊕ w ⊗ d) (b ⊕ w ⊗ e) (c ⊕ w ⊗ f) d e f g h k ≐ determinant₃ ◌⊕◌ ◌⊗◌ ⊖ a b c d e f g h k) refl
