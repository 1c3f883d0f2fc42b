-- The inverse's word, re-signed, is the inverse on both sides (inverse_left, inverse-right), and there is no other (inverse-unique).
use mathlib.Core.Path.{◌≡◌, refl, sym, ap, ap₂, ◌∙◌}
use mathlib.Core.Bool.{Bool, true, false, cond, ◌&&◌}
use mathlib.Core.List.{[], ◌∷◌}
use Prim.Native.Nat.{ℕ, zero, suc, ◌+◌ as ◌+ℕ◌, ◌-◌}
use native.Mathlib.Nat.{zero-add, suc-add, add_comm}
use native.Mathlib.Omega.{arith}
use lib.Dec.{eqb}
use borrow.Author.Tests.{ne_eqb, eqb-true}
use Rattle.fraction.specs.Ring.{CRing, Ordered, arithmetic}
use Rattle.fraction.proofs.Ring.{ring, +_comm, +-neg, neg-*, one-*, *-one, *-zero, *-assoc, *-comm}
use Rattle.fraction.proofs.Ordered.{inv-mul-pos}
use Rattle.words.specs.RowSet.{In}
use Rattle.words.specs.Word.{Letter, E, Et, D, Dinv, Word, inverse_letter, inverse_word}
use Rattle.words.specs.Walk.{carry_letter, carry}
use Rattle.words.proofs.Walks.{Rows, All}
use Rattle.minors.specs.Matrix.{Matrix, Equal, identity, times, sign, resigned, letter_matrix, word_matrix}
use Rattle.minors.proofs.Determinant.{matrix_of}
use Rattle.minors.proofs.Complement.{Diagonal}
use Rattle.minors.proofs.Sums.{sum-equal, scale-sum}
use Rattle.minors.proofs.Products.{times-equal-left, times-equal-right, times-assoc, identity-times, times-identity, times-cancel, word_matrix-append}
use Rattle.minors.proofs.Multiply.{word_matrix-carried}

module _ (K : CRing) where
  open K use {R, 𝟘, 𝟙, add as ◌+◌, mul as ◌*◌, neg}

  infixl 65 ◌+◌
  infixl 70 ◌*◌
  -- an inverse on one side and one on the other are equal
  pub inverse-unique : (n : ℕ) (A X Y : Matrix K) → Equal K n (times K n X A) (identity K) → Equal K n (times K n A Y) (identity K) → Equal K n X Y
  inverse-unique n A X Y x y i j p q =
      sym (times-identity K n X i j p q)
      ∙ times-equal-right K n X _ _ (λ r c z w. sym (y r c z w)) i j p q
      ∙ sym (times-assoc K n X A Y i j)
      ∙ times-equal-left K n _ _ Y x i j p q
      ∙ identity-times K n Y i j p q

  -- signs
  sign-add : (i j : ℕ) → sign K (i +ℕ j) ≡ sign K i * sign K j
  unfolding sign
  sign-add zero j = ap (sign K) (zero-add j) ∙ sym (one-* K _)
  sign-add (suc i) j = ap (sign K) (suc-add i j) ∙ ap neg (sign-add i j) ∙ sym (neg-* K _ _)

  pub sign-square : (i : ℕ) → sign K i * sign K i ≡ 𝟙
  unfolding sign
  sign-square zero = *-one K 𝟙
  sign-square (suc i) = simp ring (sign-square i)

  sign-even : (i j : ℕ) → i ≡ j → sign K (i +ℕ j) ≡ 𝟙
  sign-even i j e = ap (λ k. sign K (k +ℕ j)) e ∙ sign-add j j ∙ sign-square j

  sign-odd : (i j : ℕ) → i ≡ suc j → sign K (i +ℕ j) ≡ neg 𝟙
  unfolding sign
  sign-odd i j e = ap (λ k. sign K (k +ℕ j)) e ∙ ap (sign K) (suc-add j j) ∙ ap neg (sign-even j j refl)

  sign-through : (i k j : ℕ) → sign K (i +ℕ j) ≡ sign K (i +ℕ k) * sign K (k +ℕ j)
  sign-through i k j =
      sign-add i j ∙ between (sign K i) (sign K k) (sign K j) (sign-square k) ∙ sym (ap₂ ◌*◌ (sign-add i k) (sign-add k j))
    where
      regroup : (r s t : R) → (s * s) * (r * t) ≡ (r * s) * (s * t)
      regroup r s t = simp ring

      between : (r s t : R) → s * s ≡ 𝟙 → r * t ≡ (r * s) * (s * t)
      between r s t e = sym (one-* K _) ∙ ap (λ x. x * (r * t)) (sym e) ∙ regroup r s t

  times-resigned : (n : ℕ) (A B : Matrix K) (i j : ℕ) → resigned K (times K n A B) i j ≡ times K n (resigned K A) (resigned K B) i j
  unfolding times
  times-resigned n A B i j =
      scale-sum K n _ _
      ∙ sum-equal K n _ _ (λ k x. ap (λ s. s * (A i k * B k j)) (sign-through i k j) ∙ regroup (sign K (i +ℕ k)) (sign K (k +ℕ j)) (A i k) (B k j))
    where
      regroup : (r s a b : R) → (r * s) * (a * b) ≡ (r * a) * (s * b)
      regroup r s a b = simp ring

  diagonal-resigned : (x : R) (i j : ℕ) → sign K (i +ℕ j) * cond (eqb i j) x 𝟘 ≡ cond (eqb i j) x 𝟘
  diagonal-resigned x i j = by (eqb i j) (λ t. sign-even i j (eqb-true i j t))
    where
      by : (t : Bool) → (t ≡ true → sign K (i +ℕ j) ≡ 𝟙) → sign K (i +ℕ j) * cond t x 𝟘 ≡ cond t x 𝟘
      by true h = ap (λ s. s * x) (h refl) ∙ one-* K x
      by false h = *-zero K _

  moved-resigned : (a o : ℕ) (w : R) → sign K (a +ℕ o) ≡ neg 𝟙 → (i j : ℕ)
      → sign K (i +ℕ j) * cond (eqb i a && eqb j o) w (identity K i j) ≡ cond (eqb i a && eqb j o) (neg w) (identity K i j)
  moved-resigned a o w h i j = by (eqb i a) (eqb j o) (λ s t. ap₂ (λ r c. sign K (r +ℕ c)) (eqb-true i a s) (eqb-true j o t) ∙ h)
    where
      by : (s t : Bool) → (s ≡ true → t ≡ true → sign K (i +ℕ j) ≡ neg 𝟙)
          → sign K (i +ℕ j) * cond (s && t) w (identity K i j) ≡ cond (s && t) (neg w) (identity K i j)
      by true true h = ap (λ s. s * w) (h refl refl) ∙ neg-* K 𝟙 w ∙ ap neg (one-* K w)
      by true false h = diagonal-resigned 𝟙 i j
      by false t h = diagonal-resigned 𝟙 i j

  -- w times row o added to row a, and taken away
  moved-undone : (a o : ℕ) (w x : R) → (a ≡ o → ⊥) → w + x ≡ 𝟘 → (v u : ℕ → R) → ((k : ℕ) → u k ≡ cond (eqb k a) (v k + w * v o) (v k)) → (i : ℕ)
      → cond (eqb i a) (u i + x * u o) (u i) ≡ v i
  moved-undone a o w x e h v u g i = by (eqb i a) (g i)
    where
      kept : u o ≡ v o
      kept = g o ∙ ap (λ t. cond t (v o + w * v o) (v o)) (ne_eqb o a (λ f. e (sym f)))

      regroup : (r s : R) → (r + w * s) + x * s ≡ r + (w + x) * s
      regroup r s = simp ring

      none : (r s : R) → r + 𝟘 * s ≡ r
      none r s = simp ring

      by : (t : Bool) → u i ≡ cond t (v i + w * v o) (v i) → cond t (u i + x * u o) (u i) ≡ v i
      by true p = ap₂ (λ r s. r + x * s) p kept ∙ regroup (v i) (v o) ∙ ap (λ y. v i + y * v o) h ∙ none (v i) (v o)
      by false p = p

module _ (K : CRing) (O : Ordered K) where
  open K use {R, 𝟙, mul as ◌*◌, neg}
  open O use {Pos}

  infixl 70 ◌*◌
  -- the letter whose matrix is the inverse: the inverse's letter, re-signed
  abbrev undone : Letter R → Letter R
  undone (E j w) = E j (neg w)
  undone (Et j w) = Et j (neg w)
  undone (D e) = Dinv e
  undone (Dinv e) = D e

  undone-rows : (n : ℕ) (l : Letter R) → Rows n l → Rows n (undone l)
  undone-rows n (E j w) h = h
  undone-rows n (Et j w) h = h
  undone-rows n (D e) h = h
  undone-rows n (Dinv e) h = h

  letter-resigned : (n : ℕ) (l : Letter R) → Rows n l → (i j : ℕ) → resigned K (letter_matrix K O (inverse_letter l)) i j ≡ letter_matrix K O (undone l) i j
  letter-resigned n (E j w) h = moved-resigned K j (j - 1) w (sign-odd K j (j - 1) (omega (arith, h.0)))
  letter-resigned n (Et j w) h = moved-resigned K (j - 1) j w (ap (sign K) (add_comm (j - 1) j) ∙ sign-odd K j (j - 1) (omega (arith, h.0)))
  letter-resigned n (D e) h = λ i j. diagonal-resigned K (O.inv (e i)) i j
  letter-resigned n (Dinv e) h = λ i j. diagonal-resigned K (e i) i j

  -- m after l leaves every vector as it was
  abbrev Undoes : ℕ → Letter R → Letter R → Type 0
  Undoes n m l = (v : ℕ → R) (i : ℕ) → In n i → carry_letter (arithmetic K O) m (carry_letter (arithmetic K O) l v) i ≡ v i

  scaled-undone : (x e f : R) → e * f ≡ 𝟙 → x * e * f ≡ x
  scaled-undone x e f h = *-assoc K x e f ∙ ap (λ y. x * y) h ∙ *-one K x

  positive-inv : (e : R) → Pos e → O.inv e * e ≡ 𝟙
  positive-inv e p = *-comm K _ _ ∙ inv-mul-pos K O e p

  letter-undone : (n : ℕ) (l : Letter R) → Rows n l → Diagonal K O n l → Undoes n (undone l) l × Undoes n l (undone l)
  unfolding carry_letter
  letter-undone n (E j w) h p = (
    λ v i x. moved-undone K j (j - 1) w (neg w) (λ e. absurd (omega (arith, h.0))) (+-neg K w) v _ (λ k. refl) i,
    λ v i x. moved-undone K j (j - 1) (neg w) w (λ e. absurd (omega (arith, h.0))) (+_comm K _ _ ∙ +-neg K w) v _ (λ k. refl) i,
  )
  letter-undone n (Et j w) h p = (
    λ v i x. moved-undone K (j - 1) j w (neg w) (λ e. absurd (omega (arith, h.0))) (+-neg K w) v _ (λ k. refl) i,
    λ v i x. moved-undone K (j - 1) j (neg w) w (λ e. absurd (omega (arith, h.0))) (+_comm K _ _ ∙ +-neg K w) v _ (λ k. refl) i,
  )
  letter-undone n (D e) h p =
      (λ v i x. scaled-undone (v i) (e i) _ (inv-mul-pos K O (e i) (p i x)), λ v i x. scaled-undone (v i) _ (e i) (positive-inv (e i) (p i x)))
  letter-undone n (Dinv e) h p =
      (λ v i x. scaled-undone (v i) _ (e i) (positive-inv (e i) (p i x)), λ v i x. scaled-undone (v i) (e i) _ (inv-mul-pos K O (e i) (p i x)))

  times-undone : (n : ℕ) (m l : Letter R) → Rows n m → Rows n l → Undoes n m l → Equal K n (times K n (letter_matrix K O m) (letter_matrix K O l)) (identity K)
  unfolding word_matrix matrix_of carry
  times-undone n m l g h u i j x y =
      times-equal-right K n (letter_matrix K O m) _ _ (λ r c z w. sym (times-identity K n (letter_matrix K O l) r c z w)) i j x y
      ∙ word_matrix-carried K O n (m ∷ l ∷ []) (g, (h, tt)) i j x y
      ∙ u (λ k. identity K k j) i x

  -- one letter more before a word is one more after its inverse
  inverse-last : (n : ℕ) (l : Letter R) (W : Word R) → Rows n l
      → Equal K n (resigned K (word_matrix K O n (inverse_word (l ∷ W))))
      (times K n (resigned K (word_matrix K O n (inverse_word W))) (letter_matrix K O (undone l)))
  unfolding word_matrix inverse_word
  inverse-last n l W h i j x y =
      ap (λ m. sign K (i +ℕ j) * m) (word_matrix-append K O n (inverse_word W) (inverse_letter l ∷ []) i j x y
      ∙ times-equal-right K n (word_matrix K O n (inverse_word W)) _ _ (times-identity K n (letter_matrix K O (inverse_letter l))) i j x y)
      ∙ times-resigned K n _ _ i j
      ∙ times-equal-right K n (resigned K (word_matrix K O n (inverse_word W))) _ _ (λ r c z w. letter-resigned n l h r c) i j x y

  pub inverse_left : (n : ℕ) (W : Word R) → All (Rows n) W → All (Diagonal K O n) W
      → Equal K n (times K n (resigned K (word_matrix K O n (inverse_word W))) (word_matrix K O n W)) (identity K)
  unfolding word_matrix inverse_word
  inverse_left n [] h p i j x y = times-identity K n _ i j x y ∙ diagonal-resigned K 𝟙 i j
  inverse_left n (l ∷ W) h p i j x y =
      let u = times-undone n (undone l) l (undone-rows n l h.0) h.0 (letter-undone n l h.0 p.0).0 in
      times-equal-left K n _ _ (word_matrix K O n (l ∷ W)) (inverse-last n l W h.0) i j x y
      ∙ times-cancel K n _ (letter_matrix K O (undone l)) (letter_matrix K O l) (word_matrix K O n W) u i j x y
      ∙ inverse_left n W h.1 p.1 i j x y

  pub inverse-right : (n : ℕ) (W : Word R) → All (Rows n) W → All (Diagonal K O n) W
      → Equal K n (times K n (word_matrix K O n W) (resigned K (word_matrix K O n (inverse_word W)))) (identity K)
  unfolding word_matrix inverse_word
  inverse-right n [] h p i j x y = identity-times K n _ i j x y ∙ diagonal-resigned K 𝟙 i j
  inverse-right n (l ∷ W) h p i j x y =
      times-equal-right K n (word_matrix K O n (l ∷ W)) _ _ (inverse-last n l W h.0) i j x y
      ∙ times-cancel K n (letter_matrix K O l) (word_matrix K O n W) _ (letter_matrix K O (undone l)) (inverse-right n W h.1 p.1) i j x y
      ∙ times-undone n l (undone l) h.0 (undone-rows n l h.0) (letter-undone n l h.0 p.0).1 i j x y
