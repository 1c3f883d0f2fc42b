-- A letter's matrix does to a vector what carrying does (letter-carry). Read backwards it is the matrix of the converse's letter (letter-converse),
-- and transposed the matrix of the transposed letter (letter-transposed).
use mathlib.Core.Path.{◌≡◌, refl, sym, ap, ap₂, ◌∙◌}
use mathlib.Core.Bool.{Bool, true, false, cond, ◌&&◌}
use Prim.Native.Nat.{ℕ, ◌≤◌, ◌+◌ as ◌+ℕ◌, ◌-◌}
use native.Mathlib.Decide.{ℕ_discrete}
use native.Mathlib.Omega.{arith}
use lib.Dec.{eqb}
use borrow.Author.Tests.{eq-eqb, ne_eqb, eqb-true}
use Rattle.fraction.specs.Ring.{CRing, Ordered, arithmetic}
use Rattle.fraction.proofs.Ring.{ring, *-comm}
use Rattle.words.specs.RowSet.{In}
use Rattle.words.specs.Word.{Letter, E, Et, D, Dinv, converse_letter, transposed_letter}
use Rattle.words.specs.Walk.{carry_letter}
use Rattle.words.proofs.Walks.{Rows}
use Rattle.minors.specs.Matrix.{Equal, identity, sum, letter_matrix}
use Rattle.minors.proofs.Sums.{sum-equal, sum-add}
use Rattle.minors.proofs.Products.{eqb-equivalent, sum-diagonal, identity-sum, identity-symmetric, reversed}

module _ (K : CRing) where
  open K use {R, 𝟘, 𝟙, add as ◌+◌, mul as ◌*◌}

  infixl 65 ◌+◌
  infixl 70 ◌*◌
  -- the identity with w at (a, o), times a vector
  sum_moved : (n a o : ℕ) (w : R) (v : ℕ → R) (i : ℕ) → In n i → In n o → (a ≡ o → ⊥)
      → sum K n (λ k. cond (eqb i a && eqb k o) w (identity K i k) * v k) ≡ cond (eqb i a) (v i + w * v o) (v i)
  sum_moved n a o w v i x y e = by (eqb i a) (λ t f. e (sym (eqb-true i a t) ∙ f))
    where
      alone : (x y : R) → x ≡ 𝟘 * y + 𝟙 * x
      alone x y = simp ring

      unmoved : (x y : R) → x ≡ x + 𝟘 * y
      unmoved x y = simp ring

      term : (k : ℕ) → (i ≡ o → ⊥) → cond (eqb k o) w (identity K i k) * v k ≡ identity K i k * v k + identity K o k * (w * v k)
      term k h = elim (ℕ_discrete k o) [
        | yes f ↦ rw (eq-eqb k o f, ne_eqb i k (λ g. h (g ∙ f)), eq-eqb o k (sym f)) (alone (w * v k) (v k))
        | no f ↦ rw (ne_eqb k o f, ne_eqb o k (λ g. f (sym g))) (unmoved (identity K i k * v k) (w * v k))
      ]

      by : (t : Bool) → (t ≡ true → i ≡ o → ⊥) → sum K n (λ k. cond (t && eqb k o) w (identity K i k) * v k) ≡ cond t (v i + w * v o) (v i)
      by true h = sum-equal K n _ _ (λ k z. term k (h refl)) ∙ sum-add K n _ _ ∙ ap₂ ◌+◌ (identity-sum K n v i x) (identity-sum K n (λ k. w * v k) o y)
      by false h = identity-sum K n v i x

  -- the same entry with rows and columns exchanged, and a diagonal entry
  moved-transposed : (a o : ℕ) (w : R) (i j : ℕ) → cond (eqb i a && eqb j o) w (identity K i j) ≡ cond (eqb j o && eqb i a) w (identity K j i)
  moved-transposed a o w i j = by (eqb i a) (eqb j o)
    where
      by : (s t : Bool) → cond (s && t) w (identity K i j) ≡ cond (t && s) w (identity K j i)
      by true true = refl
      by true false = identity-symmetric K i j
      by false true = identity-symmetric K i j
      by false false = identity-symmetric K i j

  diagonal-transposed : (e : ℕ → R) (i j : ℕ) → cond (eqb i j) (e i) 𝟘 ≡ cond (eqb j i) (e j) 𝟘
  diagonal-transposed e i j = elim (ℕ_discrete i j) [
    | yes f ↦ rw (eq-eqb i j f, eq-eqb j i (sym f)) (ap e f)
    | no f ↦ rw (ne_eqb i j f, ne_eqb j i (λ g. f (sym g)))
  ]

-- row i of n is row a, and counted from the other end it is row b
eqb-reversed : (n a b i : ℕ) → i ≤ n → a +ℕ b ≡ n +ℕ 1 → eqb i a ≡ eqb (n +ℕ 1 - i) b
eqb-reversed n a b i x e = eqb-equivalent i a (n +ℕ 1 - i) b (λ f. omega arith) (λ f. omega arith)

module _ (K : CRing) (n : ℕ) where
  open K use {R, 𝟘, 𝟙}

  diagonal-reversed : (x y : R) (i j : ℕ) → In n i → In n j → cond (eqb i j) x y ≡ cond (eqb (n +ℕ 1 - i) (n +ℕ 1 - j)) x y
  diagonal-reversed x y i j p q = ap (λ t. cond t x y) (eqb-reversed n j (n +ℕ 1 - j) i p.1 (omega (arith, q.1)))

  pub identity-reversed : Equal K n (identity K) (reversed K n (identity K))
  identity-reversed = diagonal-reversed 𝟙 𝟘

  moved-reversed : (a o b c : ℕ) (w : R) → a +ℕ b ≡ n +ℕ 1 → o +ℕ c ≡ n +ℕ 1 → (i j : ℕ) → In n i → In n j
      → cond (eqb i a && eqb j o) w (identity K i j) ≡ cond (eqb (n +ℕ 1 - i) b && eqb (n +ℕ 1 - j) c) w (identity K (n +ℕ 1 - i) (n +ℕ 1 - j))
  moved-reversed a o b c w f g i j x y =
      ap₂ (λ s t. cond (s && t) w (identity K i j)) (eqb-reversed n a b i x.1 f) (eqb-reversed n o c j y.1 g)
      ∙ ap (cond (eqb (n +ℕ 1 - i) b && eqb (n +ℕ 1 - j) c) w) (identity-reversed i j x y)

module _ (K : CRing) (O : Ordered K) where
  open K use {R, 𝟘, mul as ◌*◌}

  infixl 70 ◌*◌
  pub letter-carry : (n : ℕ) (l : Letter R) → Rows n l → (v : ℕ → R) (i : ℕ) → In n i
      → sum K n (λ k. letter_matrix K O l i k * v k) ≡ carry_letter (arithmetic K O) l v i
  unfolding carry_letter
  letter-carry n (E j w) h v i x = sum_moved K n j (j - 1) w v i x (omega (arith, h.0), omega (arith, h.1)) (λ e. absurd (omega (arith, h.0)))
  letter-carry n (Et j w) h v i x = sum_moved K n (j - 1) j w v i x (omega (arith, h.0), h.1) (λ e. absurd (omega (arith, h.0)))
  letter-carry n (D e) h v i x = sum-diagonal K n (e i) v i x ∙ *-comm K _ _
  letter-carry n (Dinv e) h v i x = sum-diagonal K n (O.inv (e i)) v i x ∙ *-comm K _ _

  pub letter-converse : (n : ℕ) (l : Letter R) → Rows n l → Equal K n (letter_matrix K O (converse_letter n l)) (reversed K n (letter_matrix K O l))
  letter-converse n (E j w) h = moved-reversed K n (n +ℕ 2 - j - 1) (n +ℕ 2 - j) j (j - 1) w (omega (arith, h.0, h.1)) (omega (arith, h.0, h.1))
  letter-converse n (Et j w) h = moved-reversed K n (n +ℕ 2 - j) (n +ℕ 2 - j - 1) (j - 1) j w (omega (arith, h.0, h.1)) (omega (arith, h.0, h.1))
  letter-converse n (D e) h = λ i. diagonal-reversed K n (e (n +ℕ 1 - i)) 𝟘 i
  letter-converse n (Dinv e) h = λ i. diagonal-reversed K n (O.inv (e (n +ℕ 1 - i))) 𝟘 i

  pub letter-transposed : (l : Letter R) (i j : ℕ) → letter_matrix K O (transposed_letter l) i j ≡ letter_matrix K O l j i
  letter-transposed (E j w) = moved-transposed K (j - 1) j w
  letter-transposed (Et j w) = moved-transposed K j (j - 1) w
  letter-transposed (D e) = diagonal-transposed K e
  letter-transposed (Dinv e) = diagonal-transposed K (λ i. O.inv (e i))
