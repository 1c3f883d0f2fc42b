-- Laws of the product of matrices of n rows: equal factors (times-equal), times-assoc, identity-times, times-identity, times-transposed, times-reversed.
-- So the matrix of joined words is the product of theirs (word_matrix-append).
use mathlib.Core.Path.{◌≡◌, refl, sym, ap, ap₂, ◌∙◌}
use mathlib.Core.Bool.{cond}
use mathlib.Core.List.{[], ◌∷◌, ◌++◌}
use Prim.Native.Nat.{ℕ, ◌+◌ as ◌+ℕ◌, ◌-◌}
use native.Mathlib.Decide.{ℕ_discrete}
use lib.Dec.{eqb}
use borrow.Author.Tests.{eq-eqb, ne_eqb}
use Rattle.fraction.specs.Ring.{CRing, Ordered}
use Rattle.fraction.proofs.Ring.{zero-*, one-*, *-assoc, *-comm}
use Rattle.words.specs.RowSet.{In}
use Rattle.words.specs.Word.{Word}
use Rattle.minors.specs.Matrix.{Matrix, Equal, identity, sum, times, letter_matrix, word_matrix}
use Rattle.minors.proofs.Sums.{sum-equal, sum-single, scale-sum, sum-scale, sum-swap, sum-reversed}

-- two tests that stand and fall together
pub eqb-equivalent : (a b c d : ℕ) → (a ≡ b → c ≡ d) → (c ≡ d → a ≡ b) → eqb a b ≡ eqb c d
eqb-equivalent a b c d f g = elim (ℕ_discrete a b) [ yes e ↦ eq-eqb a b e ∙ sym (eq-eqb c d (f e)) | no e ↦ ne_eqb a b e ∙ sym (ne_eqb c d (λ h. e (g h))) ]

module _ (K : CRing) where
  open K use {R, 𝟘, 𝟙, mul as ◌*◌}

  infixl 70 ◌*◌
  -- a row of a diagonal matrix, and of the identity, times a vector
  pub sum-diagonal : (n : ℕ) (x : R) (u : ℕ → R) (i : ℕ) → In n i → sum K n (λ k. cond (eqb i k) x 𝟘 * u k) ≡ x * u i
  sum-diagonal n x u i y =
      sum-single K n _ i y (λ k z e. ap (λ t. cond t x 𝟘 * u k) (ne_eqb i k (λ f. e (sym f))) ∙ zero-* K _)
      ∙ ap (λ t. cond t x 𝟘 * u i) (eq-eqb i i refl)

  pub identity-sum : (n : ℕ) (u : ℕ → R) (i : ℕ) → In n i → sum K n (λ k. identity K i k * u k) ≡ u i
  identity-sum n u i x = sum-diagonal n 𝟙 u i x ∙ one-* K _

  pub identity-symmetric : (i j : ℕ) → identity K i j ≡ identity K j i
  identity-symmetric i j = ap (λ t. cond t 𝟙 𝟘) (eqb-equivalent i j j i sym sym)

module _ (K : CRing) (n : ℕ) where
  open K use {mul as ◌*◌}

  infixl 70 ◌*◌
  pub times-equal : (A B C D : Matrix K) → Equal K n A B → Equal K n C D → Equal K n (times K n A C) (times K n B D)
  unfolding times
  times-equal A B C D e f i j x y = sum-equal K n _ _ (λ k z. ap₂ ◌*◌ (e i k x z) (f k j z y))

  pub times-equal-left : (A B C : Matrix K) → Equal K n A B → Equal K n (times K n A C) (times K n B C)
  times-equal-left A B C e = times-equal A B C C e (λ i j x y. refl)

  pub times-equal-right : (A B C : Matrix K) → Equal K n B C → Equal K n (times K n A B) (times K n A C)
  times-equal-right A B C e = times-equal A A B C (λ i j x y. refl) e

  pub identity-times : (A : Matrix K) → Equal K n (times K n (identity K) A) A
  unfolding times
  identity-times A i j x y = identity-sum K n (λ k. A k j) i x

  pub times-identity : (A : Matrix K) → Equal K n (times K n A (identity K)) A
  unfolding times
  times-identity A i j x y = sum-equal K n _ _ (λ k z. *-comm K _ _ ∙ ap (λ t. t * A i k) (identity-symmetric K k j)) ∙ identity-sum K n (A i) j y

  pub times-assoc : (A B C : Matrix K) (i j : ℕ) → times K n (times K n A B) C i j ≡ times K n A (times K n B C) i j
  unfolding times
  times-assoc A B C i j =
      sum-equal K n _ _ (λ k x. sum-scale K n (C k j) (λ l. A i l * B l k))
      ∙ sum-swap K n n (λ k l. A i l * B l k * C k j)
      ∙ sum-equal K n _ _ (λ l x. sum-equal K n _ _ (λ k y. *-assoc K _ _ _) ∙ sym (scale-sum K n (A i l) (λ k. B l k * C k j)))

  -- two factors in the middle that undo each other
  pub times-cancel : (A B C D : Matrix K) → Equal K n (times K n B C) (identity K) → Equal K n (times K n (times K n A B) (times K n C D)) (times K n A D)
  times-cancel A B C D e i j x y =
      times-assoc A B (times K n C D) i j
      ∙ times-equal-right A _ D (λ r c z w. sym (times-assoc B C D r c) ∙ times-equal-left _ _ D e r c z w ∙ identity-times D r c z w) i j x y

  pub times-transposed : (A B : Matrix K) (i j : ℕ) → times K n A B j i ≡ times K n (λ r c. B c r) (λ r c. A c r) i j
  unfolding times
  times-transposed A B i j = sum-equal K n _ _ (λ k x. *-comm K _ _)

  -- rows and columns in reverse order
  abbrev pub reversed : Matrix K → Matrix K
  reversed A i j = A (n +ℕ 1 - i) (n +ℕ 1 - j)

  pub times-reversed : (A B : Matrix K) (i j : ℕ) → reversed (times K n A B) i j ≡ times K n (reversed A) (reversed B) i j
  unfolding times
  times-reversed A B i j = sum-reversed K n _

module _ (K : CRing) (O : Ordered K) (n : ℕ) where
  open K use {R}

  pub word_matrix-append : (U W : Word R) → Equal K n (word_matrix K O n (U ++ W)) (times K n (word_matrix K O n U) (word_matrix K O n W))
  unfolding word_matrix
  word_matrix-append [] W i j x y = sym (identity-times K n _ i j x y)
  word_matrix-append (l ∷ U) W i j x y =
      times-equal-right K n (letter_matrix K O l) _ _ (word_matrix-append U W) i j x y ∙ sym (times-assoc K n _ _ _ i j)
