-- MULTIPLYING OUT: the stages of a word of factors undo the elimination by them (restored, undone). A matrix is REDUCED by factors g to a diagonal d where the
-- elimination leaves d on the diagonal and nothing below it (Reduces); a word is reduced by its own factors (word-reduces), and what is reduced alike, and so
-- are the transposes, is equal (reduced-equal).
use mathlib.Core.Path.{◌≡◌, refl, sym, ap, ap₂, ◌∙◌}
use mathlib.Core.List.{[], ◌∷◌}
use Prim.Native.Nat.{ℕ, zero, suc, ◌-◌, ◌≤◌, ◌<◌, ◌+◌ as ◌+ℕ◌}
use native.Mathlib.Decide.{ℕ_discrete, dec_le}
use native.Mathlib.Omega.{arith}
use borrow.Author.Tests.{eq-eqb, ne_eqb}
use Rattle.fraction.specs.Arithmetic.{Arithmetic}
use Rattle.fraction.specs.Ring.{CRing, Ordered, arithmetic}
use Rattle.fraction.proofs.Ring.{ring, zero-*, one-*, +_comm, +-cancel}
use Rattle.words.specs.RowSet.{In}
use Rattle.words.specs.Word.{Factors, Letter, E, Et, D, Word, word, exchanged, transposed_word}
use Rattle.words.specs.Walk.{carry_letter, carry}
use Rattle.words.proofs.RowSets.{in-under, in_top}
use Rattle.words.proofs.Walks.{All, carry-append}
use Rattle.words.proofs.Stages.{stage, stages, word-stages, transposed-stages-all}
use Rattle.minors.specs.Matrix.{Matrix, Equal, identity, sum}
use Rattle.minors.proofs.Sums.{sum-equal}
use Rattle.minors.proofs.Determinant.{matrix_of}
use Rattle.bands.proofs.Elimination.{eliminated, eliminated-above, eliminated-own, left, left-first, left-next}

-- the columns of stage k at row i
next-column : (k i n : ℕ) → n < i +ℕ k → suc k +ℕ i - n - 1 ≡ suc (k +ℕ i - n - 1)
next-column k i n h = omega arith

row_before : (k i n : ℕ) → 1 ≤ i → suc k +ℕ (i - 1) - n - 1 ≡ k +ℕ i - n - 1
row_before k i n h = omega arith

this-column : (k i n : ℕ) → n < i +ℕ k → k +ℕ i - n ≡ suc (k +ℕ i - n - 1)
this-column k i n h = omega arith

module _ (K : CRing) (O : Ordered K) where
  open K use {R, 𝟘, 𝟙, add as ◌+◌, mul as ◌*◌, neg}

  infixl 65 ◌+◌
  infixl 70 ◌*◌
  abbrev F : Arithmetic
  F = arithmetic K O

  carry-other : (j : ℕ) (w : R) (v : ℕ → R) (i : ℕ) → (i ≡ j → ⊥) → carry_letter F (E j w) v i ≡ v i
  unfolding carry_letter
  carry-other j w v i h = rw (ne_eqb i j h)

  carry_own : (j : ℕ) (w : R) (v : ℕ → R) → carry_letter F (E j w) v j ≡ v j + w * v (j - 1)
  unfolding carry_letter
  carry_own j w v = rw (eq-eqb j j refl)

  -- A STAGE ON A VECTOR: rows above n, rows that it does not reach, and the others
  stage-last : (n k : ℕ) (b : Factors R) (z : ℕ → R)
      → carry F (stage (suc n) (suc k) b) z ≡ carry F (stage n k b) (carry_letter F (E (suc n) (b (suc n) (suc k))) z)
  unfolding stage carry
  stage-last n k b z = carry-append F (stage n k b) (E (suc n) (b (suc n) (suc k)) ∷ []) z

  stage-beyond : (n k : ℕ) (b : Factors R) (z : ℕ → R) (i : ℕ) → n < i → carry F (stage n k b) z i ≡ z i
  unfolding stage carry
  stage-beyond n zero b z i h = refl
  stage-beyond zero (suc k) b z i h = refl
  stage-beyond (suc n) (suc k) b z i h =
      ap (λ u. u i) (stage-last n k b z) ∙ stage-beyond n k b _ i (omega arith) ∙ carry-other (suc n) _ z i (λ e. omega arith)

  stage-idle : (n k : ℕ) (b : Factors R) (z : ℕ → R) (i : ℕ) → i +ℕ k ≤ n → carry F (stage n k b) z i ≡ z i
  unfolding stage carry
  stage-idle n zero b z i h = refl
  stage-idle zero (suc k) b z i h = refl
  stage-idle (suc n) (suc k) b z i h =
      ap (λ u. u i) (stage-last n k b z) ∙ stage-idle n k b _ i (omega arith) ∙ carry-other (suc n) _ z i (λ e. omega arith)

  stage-carries : (n k : ℕ) (b : Factors R) (z : ℕ → R) (i : ℕ) → n < i +ℕ k → i ≤ n → 1 ≤ i → carry F (stage n k b) z i ≡ z i + b i (k +ℕ i - n) * z (i - 1)
  unfolding stage carry
  stage-carries n zero b z i h g o = absurd (omega arith)
  stage-carries zero (suc k) b z i h g o = absurd (omega arith)
  stage-carries (suc n) (suc k) b z i h g o = ap (λ u. u i) (stage-last n k b z) ∙ elim (ℕ_discrete i (suc n)) [
    | yes e ↦
        let f : suc k +ℕ i - suc n ≡ suc k = omega arith in
        stage-beyond n k b _ i (omega arith)
        ∙ ap (carry_letter F (E (suc n) (b (suc n) (suc k))) z) e ∙ carry_own (suc n) _ z
        ∙ ap (λ m. z m + b m (suc k) * z (m - 1)) (sym e) ∙ ap (λ c. z i + b i c * z (i - 1)) (sym f)
    | no e ↦
        let f : k +ℕ i - n ≡ suc k +ℕ i - suc n = omega arith in
        stage-carries n k b _ i (omega arith) (omega arith) o
        ∙ ap₂ (λ x y. x + b i (k +ℕ i - n) * y) (carry-other (suc n) _ z i e) (carry-other (suc n) _ z (i - 1) (λ d. omega arith))
        ∙ ap (λ c. z i + b i c * z (i - 1)) f
  ]

  stages-next : (n k m : ℕ) (b : Factors R) (z : ℕ → R) → carry F (stages n k (suc m) b) z ≡ carry F (stage n k b) (carry F (stages n (suc k) m b) z)
  unfolding stages
  stages-next n k m b z = carry-append F (stage n k b) (stages n (suc k) m b) z

  back : (x y g z : R) → x ≡ y + neg (g * z) → x + g * z ≡ y
  back x y g z h = ap (λ w. w + g * z) h ∙ undo y (g * z)
    where
      undo : (y w : R) → (y + neg w) + w ≡ y
      undo y w = simp ring

  -- THE STAGES UNDO THE ELIMINATION
  restore : (n : ℕ) (b : Factors R) (a : ℕ → R) (m k : ℕ) → k +ℕ m ≡ n → 1 ≤ k → (i : ℕ) → In n i
      → carry F (stages n k m b) (λ i. left K n b a i (i - 1)) i ≡ left K n b a i (k +ℕ i - n - 1)
  unfolding stages carry
  restore n b a zero k e o i p = let f : i - 1 ≡ k +ℕ i - n - 1 = omega arith in ap (left K n b a i) f
  restore n b a (suc m) k e o i p =
      ap (λ u. u i) (stages-next n k m b _)
      ∙ elim (dec_le (i +ℕ k) n) [
        | yes l ↦
            let f : suc k +ℕ i - n - 1 ≡ k +ℕ i - n - 1 = omega arith in
            stage-idle n k b _ i l ∙ restore n b a m (suc k) (omega arith) (omega arith) i p ∙ ap (left K n b a i) f
        | no l ↦
            let q : In n (i - 1) = (omega arith, omega (arith, p.1)) in
            let e' : suc k +ℕ m ≡ n = omega arith in
            let c : ℕ = k +ℕ i - n - 1 in
            let f : suc k +ℕ i - n - 1 ≡ suc c = next-column k i n (omega arith) in
            let g : suc k +ℕ (i - 1) - n - 1 ≡ c = row_before k i n p.0 in
            let d : k +ℕ i - n ≡ suc c = this-column k i n (omega arith) in
            stage-carries n k b _ i (omega arith) p.1 p.0
            ∙ ap₂ (λ x y. x + b i (k +ℕ i - n) * y) (restore n b a m (suc k) e' (omega arith) i p ∙ ap (left K n b a i) f)
            (restore n b a m (suc k) e' (omega arith) (i - 1) q ∙ ap (left K n b a (i - 1)) g)
            ∙ ap (λ q. left K n b a i (suc c) + b i q * left K n b a (i - 1) c) d
            ∙ back _ _ _ _ (left-next K n b a i c)
      ]

  pub restored : (n : ℕ) (b : Factors R) (a : ℕ → R) (i : ℕ) → In n i → carry F (stages n 1 (n - 1) b) (λ i. left K n b a i (i - 1)) i ≡ a i
  restored n b a i p =
      let f : 1 +ℕ i - n - 1 ≡ 0 = omega (arith, p.1) in
      restore n b a (n - 1) 1 (omega (arith, p.0, p.1)) (omega arith) i p ∙ ap (left K n b a i) f ∙ left-first K n b a i p

  -- and lose nothing
  right-cancel : (x y z : R) → x + z ≡ y + z → x ≡ y
  right-cancel x y z h = +-cancel K z x y (+_comm K z x ∙ h ∙ +_comm K y z)

  stage-injective : (n k : ℕ) (b : Factors R) → k < n → (y z : ℕ → R) → ((i : ℕ) → In n i → carry F (stage n k b) y i ≡ carry F (stage n k b) z i) → (i : ℕ)
      → i ≤ n → 1 ≤ i → y i ≡ z i
  stage-injective n k b l y z h zero p q = absurd (omega arith)
  stage-injective n k b l y z h (suc i) p q = elim (dec_le (suc i +ℕ k) n) [
    | yes g ↦ sym (stage-idle n k b y (suc i) g) ∙ h (suc i) (q, p) ∙ stage-idle n k b z (suc i) g
    | no g ↦
        let e : suc i - 1 ≡ i = omega arith in
        right-cancel _ _ (b (suc i) (k +ℕ suc i - n) * y (suc i - 1))
        (sym (stage-carries n k b y (suc i) (omega arith) p q) ∙ h (suc i) (q, p) ∙ stage-carries n k b z (suc i) (omega arith) p q
        ∙ ap (λ x. z (suc i) + b (suc i) (k +ℕ suc i - n) * x) (ap z e ∙ sym (stage-injective n k b l y z h i (omega arith) (omega arith)) ∙ ap y (sym e)))
  ]

  stages-injective : (n : ℕ) (b : Factors R) (m k : ℕ) → k +ℕ m ≡ n → (y z : ℕ → R)
      → ((i : ℕ) → In n i → carry F (stages n k m b) y i ≡ carry F (stages n k m b) z i) → (i : ℕ) → In n i → y i ≡ z i
  unfolding stages carry
  stages-injective n b zero k e y z h i p = h i p
  stages-injective n b (suc m) k e y z h i p =
      stages-injective n b m (suc k) (omega arith) y z
      (λ j q. stage-injective n k b (omega arith) _ _ (λ r s. sym (ap (λ u. u r) (stages-next n k m b y)) ∙ h r s ∙ ap (λ u. u r) (stages-next n k m b z)) j
      q.1 q.0) i p

  pub undone : (n : ℕ) (b : Factors R) (z : ℕ → R) (i : ℕ) → In n i → left K n b (carry F (stages n 1 (n - 1) b) z) i (i - 1) ≡ z i
  undone n b z i p =
      stages-injective n b (n - 1) 1 (omega (arith, p.0, p.1)) (λ i. left K n b (carry F (stages n 1 (n - 1) b) z) i (i - 1)) z
      (λ j q. restored n b _ j q) i p

  -- THE UPPER HALF is unit upper triangular: what stands at row q and under it stays
  abbrev From : ℕ → (ℕ → R) → Type 0
  From q v = ((i : ℕ) → q < i → v i ≡ 𝟘) × (v q ≡ 𝟙)

  abbrev Lowering : Letter R → Type 0
  Lowering l = (q : ℕ) (v : ℕ → R) → From q v → From q (carry_letter F l v)

  lowering : (j : ℕ) (w : R) → 1 ≤ j → Lowering (Et j w)
  unfolding carry_letter
  lowering j w o q v h = (λ i l. kept i (omega arith) ∙ h.0 i l, kept q (omega arith) ∙ h.1)
    where
      kept : (i : ℕ) → q ≤ i → carry_letter F (Et j w) v i ≡ v i
      kept i l = elim (ℕ_discrete i (j - 1)) [
        | yes e ↦ rw (eq-eqb i (j - 1) e) (ap (λ x. v i + w * x) (h.0 j (omega arith)) ∙ simp ring)
        | no e ↦ rw (ne_eqb i (j - 1) e)
      ]

  carry-from : (W : Word R) → All Lowering W → (q : ℕ) (v : ℕ → R) → From q v → From q (carry F W v)
  unfolding carry
  carry-from [] a q v h = h
  carry-from (l ∷ W) a q v h = a.0 q (carry F W v) (carry-from W a.1 q v h)

  -- REDUCED by g to d
  pub record Reduces (n : ℕ) (g : ℕ → ℕ → R) (d : ℕ → R) (M : Matrix K) : Type 0 where
    pub below : (i q : ℕ) → 1 ≤ q → q < i → i ≤ n → left K n g (λ r. M r q) i (i - 1) ≡ 𝟘
    pub on : (i : ℕ) → In n i → left K n g (λ r. M r i) i (i - 1) ≡ d i

  pub word-reduces : (n : ℕ) (b : Factors R) → Reduces n b (λ i. b i i) (matrix_of K O (word n b))
  unfolding matrix_of carry carry_letter
  word-reduces n b = record {
    below = λ i q o l p. row i q (omega arith, p) ∙ ap (λ x. x * b i i) ((upper q).0 i l) ∙ zero-* K _;
    on = λ i p. row i i p ∙ ap (λ x. x * b i i) (upper i).1 ∙ one-* K _;
  }
    where
      U : Word R
      U = transposed_word (stages n 1 (n - 1) (exchanged b))

      unit-from : (q : ℕ) → From q (λ k. identity K k q)
      unit-from q = (λ i l. rw (ne_eqb i q (λ e. omega arith)), rw (eq-eqb q q refl))

      upper : (q : ℕ) → From q (carry F U (λ k. identity K k q))
      upper q =
          carry-from U (transposed-stages-all Lowering n 1 (n - 1) (exchanged b) (omega arith) (λ i j x y z. lowering i _ (omega arith))) q
          (λ k. identity K k q) (unit-from q)

      row : (i q : ℕ) → In n i → left K n b (λ r. matrix_of K O (word n b) r q) i (i - 1) ≡ carry F U (λ k. identity K k q) i * b i i
      row i q p =
          ap (λ W. left K n b (carry F W (λ k. identity K k q)) i (i - 1)) (word-stages n b)
          ∙ ap (λ a. left K n b a i (i - 1)) (carry-append F (stages n 1 (n - 1) b) (D (λ i. b i i) ∷ U) (λ k. identity K k q))
          ∙ undone n b (carry F (D (λ i. b i i) ∷ U) (λ k. identity K k q)) i p

  -- sums that differ in one term at most
  one-term : (n : ℕ) (f h : ℕ → R) (i : ℕ) → In n i → sum K n f ≡ sum K n h → ((r : ℕ) → In n r → (r ≡ i → ⊥) → f r ≡ h r) → f i ≡ h i
  unfolding sum
  one-term zero f h i p e g = absurd (omega (arith, p.0, p.1))
  one-term (suc n) f h i p e g = elim (ℕ_discrete i (suc n)) [
    | yes z ↦
        let s : sum K n f ≡ sum K n h = sum-equal K n f h (λ r q. g r (in-under q) (λ w. omega (arith, q.1))) in
        ap f z ∙ +-cancel K (sum K n f) (f (suc n)) (h (suc n)) (e ∙ ap (λ x. x + h (suc n)) (sym s)) ∙ ap h (sym z)
    | no z ↦
        let t : f (suc n) ≡ h (suc n) = g (suc n) (in_top n) (λ w. z (sym w)) in
        one-term n f h i (p.0, omega (arith, p.1)) (right-cancel _ _ (f (suc n)) (e ∙ ap (λ x. sum K n h + x) (sym t))) (λ r q. g r (in-under q))
  ]

  -- an entry, from those of the rows before it and what is left of it
  entry : (n : ℕ) (g : ℕ → ℕ → R) (a b : ℕ → R) (i c : ℕ) → In n i → ((r : ℕ) → 1 ≤ r → r < i → a r ≡ b r) → left K n g a i c ≡ left K n g b i c → a i ≡ b i
  entry n g a b i c p h e =
      sym (own a) ∙ one-term n (λ r. eliminated K g i c r * a r) (λ r. eliminated K g i c r * b r) i p e others ∙ own b
    where
      own : (x : ℕ → R) → eliminated K g i c i * x i ≡ x i
      own x = ap (λ y. y * x i) (eliminated-own K g i c p.0) ∙ one-* K _

      others : (r : ℕ) → In n r → (r ≡ i → ⊥) → eliminated K g i c r * a r ≡ eliminated K g i c r * b r
      others r q f = elim (dec_le i r) [
        | yes l ↦ elim (ℕ_discrete r i) [
          | yes z ↦ absurd (f z)
          | no z ↦
              ap (λ y. y * a r) (eliminated-above K g i c r (omega arith)) ∙ zero-* K _
              ∙ sym (ap (λ y. y * b r) (eliminated-above K g i c r (omega arith)) ∙ zero-* K _)
        ]
        | no l ↦ ap (λ y. eliminated K g i c r * y) (h r q.0 (omega arith))
      ]

  -- WHAT IS REDUCED ALIKE, ON BOTH SIDES, IS EQUAL
  module _ (n : ℕ) (g g' : ℕ → ℕ → R) (d : ℕ → R) (A B : Matrix K)
      (a : Reduces n g d A) (b : Reduces n g d B) (a' : Reduces n g' d (λ i j. A j i)) (b' : Reduces n g' d (λ i j. B j i)) where
    alike : (h : ℕ → ℕ → R) (X Y : Matrix K) → Reduces n h d X → Reduces n h d Y → (i q : ℕ) → 1 ≤ q → q ≤ i → i ≤ n
        → left K n h (λ r. X r q) i (i - 1) ≡ left K n h (λ r. Y r q) i (i - 1)
    alike h X Y x y i q o l p = elim (ℕ_discrete q i) [
      | yes e ↦
          ap (λ m. left K n h (λ r. X r m) i (i - 1)) e ∙ x.on i (omega arith, p) ∙ sym (y.on i (omega arith, p))
          ∙ ap (λ m. left K n h (λ r. Y r m) i (i - 1)) (sym e)
      | no e ↦ x.below i q o (omega arith) p ∙ sym (y.below i q o (omega arith) p)
    ]

    upto : (f i j : ℕ) → i +ℕ j ≤ f → In n i → In n j → A i j ≡ B i j
    upto zero i j h p q = absurd (omega (arith, p.0))
    upto (suc f) i j h p q = elim (dec_le j i) [
      | yes l ↦
          entry n g (λ r. A r j) (λ r. B r j) i (i - 1) p (λ r o k. upto f r j (omega arith) (o, omega (arith, p.1)) q) (alike g A B a b i j q.0 l p.1)
      | no l ↦ entry n g' (λ c. A i c) (λ c. B i c) j (j - 1) q (λ c o k. upto f i c (omega arith) p (o, omega (arith, q.1)))
          (alike g' (λ i j. A j i) (λ i j. B j i) a' b' j i p.0 (omega arith) q.1)
    ]

    pub reduced-equal : Equal K n A B
    reduced-equal i j p q = upto (i +ℕ j) i j (omega arith) p q
