-- A word reversed with E and Et exchanged has row sets and column sets exchanged (minor-transposed), and is the word of the factors exchanged
-- (transposed-word). The proof pairs two states, the sum of f S * ω S over the sets S of n rows: a letter on one side is the exchanged letter on the other
-- (pairing-walk).
use mathlib.Core.Path.{◌≡◌, refl, sym, ap, ap₂, ◌∙◌}
use mathlib.Core.Bool.{Bool, true, false}
use mathlib.Core.List.{[], ◌∷◌, ◌++◌, append_assoc}
use Prim.Native.Nat.{ℕ, zero, suc, ◌-◌, ◌≤◌}
use native.Mathlib.Decide.{dec_le}
use native.Mathlib.Omega.{arith}
use lib.ListN.{length}
use Rattle.fraction.specs.Arithmetic.{Arithmetic}
use Rattle.fraction.specs.Ring.{CRing, Ordered, arithmetic}
use Rattle.fraction.proofs.Ring.{ring, +-zero, zero-+, *-assoc, *-comm, zero-*, one-*}
use Rattle.words.specs.RowSet.{RowSet, equal}
use Rattle.words.specs.Word.{Factors, Letter, E, Et, D, Dinv, Word, word, exchanged, transposed_letter, transposed_word}
use Rattle.words.specs.Walk.{one_at, scaled, act, walk, minor}
use Rattle.words.proofs.Walks.{Rows, All, under, walk-append, raised, lowered, raise-top, lower-top}
use Rattle.words.proofs.Agree.{Agree, agree-under, rows_under}
use Rattle.words.proofs.Words.{transposed-append, transposed-transposed}
use Rattle.words.proofs.Stages.{stages, word-stages}
use Rattle.minors.proofs.Entries.{scaled-product}

-- the transposed word of a matrix is the word of its factors exchanged
pub transposed-word : {A : Type 0} (n : ℕ) (b : Factors A) → transposed_word (word n b) ≡ word n (exchanged b)
unfolding transposed_word
transposed-word n b =
    ap transposed_word (word-stages n b)
    ∙ transposed-append (stages n 1 (n - 1) b) (D (λ i. b i i) ∷ transposed_word (stages n 1 (n - 1) (exchanged b)))
    ∙ ap (λ L. L ++ (D (λ i. b i i) ∷ []) ++ transposed_word (stages n 1 (n - 1) b)) (transposed-transposed (stages n 1 (n - 1) (exchanged b)))
    ∙ append_assoc (stages n 1 (n - 1) (exchanged b)) (D (λ i. b i i) ∷ []) (transposed_word (stages n 1 (n - 1) b))
    ∙ sym (word-stages n (exchanged b))

module _ (K : CRing) where
  open K use {R, 𝟘, add as ◌+◌, mul as ◌*◌}

  infixl 65 ◌+◌
  infixl 70 ◌*◌
  -- the sum of f S * ω S over the sets of n rows
  unfoldable pub pairing : ℕ → (f ω : RowSet → R) → R
  pairing zero f ω = f [] * ω []
  pairing (suc n) f ω = pairing n (under false f) (under false ω) + pairing n (under true f) (under true ω)

  pub pairing-comm : (n : ℕ) (f ω : RowSet → R) → pairing n f ω ≡ pairing n ω f
  unfolding pairing
  pairing-comm zero f ω = *-comm K _ _
  pairing-comm (suc n) f ω = ap₂ ◌+◌ (pairing-comm n (under false f) (under false ω)) (pairing-comm n (under true f) (under true ω))

  pub pairing-agree : (n : ℕ) (f g ω η : RowSet → R) → Agree n f g → Agree n ω η → pairing n f ω ≡ pairing n g η
  unfolding pairing
  pairing-agree zero f g ω η h k = ap₂ ◌*◌ (h [] refl) (k [] refl)
  pairing-agree (suc n) f g ω η h k = ap₂ ◌+◌
      (pairing-agree n _ _ _ _ (agree-under false h) (agree-under false k)) (pairing-agree n _ _ _ _ (agree-under true h) (agree-under true k))

  -- it is linear
  step-times : (w a b c : R) → (a + w * b) * c ≡ a * c + w * (b * c)
  step-times w a b c = simp ring

  step-plus : (w a b c d : R) → (a + w * b) + (c + w * d) ≡ (a + c) + w * (b + d)
  step-plus w a b c d = simp ring

  pub pairing_step : (n : ℕ) (w : R) (f g ω : RowSet → R) → pairing n (λ S. f S + w * g S) ω ≡ pairing n f ω + w * pairing n g ω
  unfolding pairing
  pairing_step zero w f g ω = step-times _ _ _ _
  pairing_step (suc n) w f g ω =
      ap₂ ◌+◌ (pairing_step n w (under false f) (under false g) (under false ω)) (pairing_step n w (under true f) (under true g) (under true ω))
      ∙ step-plus _ _ _ _ _

  pub pairing-zero : (n : ℕ) (ω : RowSet → R) → pairing n (λ S. 𝟘) ω ≡ 𝟘
  unfolding pairing
  pairing-zero zero ω = zero-* K _
  pairing-zero (suc n) ω = ap₂ ◌+◌ (pairing-zero n (under false ω)) (pairing-zero n (under true ω)) ∙ +-zero K _

module _ (K : CRing) (O : Ordered K) where
  open K use {R, add as ◌+◌, mul as ◌*◌}

  infixl 65 ◌+◌
  infixl 70 ◌*◌
  abbrev F : Arithmetic
  F = arithmetic K O

  pub pairing-one : (n : ℕ) (J : RowSet) (ω : RowSet → R) → length J ≡ n → pairing K n (one_at F J) ω ≡ ω J
  unfolding pairing one_at equal
  pairing-one zero [] ω e = one-* K _
  pairing-one zero (x ∷ J) ω e = absurd (omega arith)
  pairing-one (suc n) [] ω e = absurd (omega arith)
  pairing-one (suc n) (false ∷ J) ω e = ap₂ ◌+◌ (pairing-one n J (under false ω) (omega arith)) (pairing-zero K n (under true ω)) ∙ +-zero K _
  pairing-one (suc n) (true ∷ J) ω e = ap₂ ◌+◌ (pairing-zero K n (under false ω)) (pairing-one n J (under true ω) (omega arith)) ∙ zero-+ K _

  -- a letter on one side is the exchanged letter on the other
  abbrev Adjoint : ℕ → Letter R → Type 0
  Adjoint n l = (f ω : RowSet → R) → pairing K n (act F l f) ω ≡ pairing K n f (act F (transposed_letter l) ω)

  -- E at the two highest rows
  exchange : (w a b c d x : R) → (a + b) + ((c + w * x) + d) ≡ (a + (b + w * x)) + (c + d)
  exchange w a b c d x = simp ring

  adjoint-top : (n j : ℕ) (w : R) → j ≡ suc (suc n) → Adjoint (suc (suc n)) (E j w)
  unfolding pairing
  adjoint-top n j w e f ω =
      ap₂ ◌+◌ (ap₂ ◌+◌ (raising false false) (raising false true)) (ap₂ ◌+◌ (raising true false ∙ pairing_step K n w _ _ _) (raising true true))
      ∙ exchange w _ _ _ _ _
      ∙ sym (ap₂ ◌+◌ (ap₂ ◌+◌ (lowering false false) (lowering false true ∙ step_right)) (ap₂ ◌+◌ (lowering true false) (lowering true true)))
    where
      raising : (x y : Bool) → pairing K n (under y (under x (act F (E j w) f))) (under y (under x ω)) ≡ pairing K n (raised F w f x y) (under y (under x ω))
      raising x y = pairing-agree K n _ _ _ _ (λ S s. raise-top F j w f x y S (omega (arith, e, s))) (λ S s. refl)

      lowering : (x y : Bool) → pairing K n (under y (under x f)) (under y (under x (act F (Et j w) ω))) ≡ pairing K n (under y (under x f)) (lowered F w ω x y)
      lowering x y = pairing-agree K n _ _ _ _ (λ S s. refl) (λ S s. lower-top F j w ω x y S (omega (arith, e, s)))

      step_right : pairing K n (under true (under false f)) (lowered F w ω false true)
          ≡ pairing K n (under true (under false f)) (under true (under false ω)) + w * pairing K n (under true (under false f)) (under false (under true ω))
      step_right = pairing-comm K n _ _ ∙ pairing_step K n w _ _ _ ∙ ap₂ (λ x y. x + w * y) (pairing-comm K n _ _) (pairing-comm K n _ _)

  -- E under the highest row
  adjoint-under : (n j : ℕ) (w : R) → 2 ≤ j → j ≤ n → Adjoint n (E j w) → Adjoint (suc n) (E j w)
  unfolding pairing
  adjoint-under n j w h g e f ω = ap₂ ◌+◌ (part false) (part true)
    where
      part : (x : Bool) → pairing K n (under x (act F (E j w) f)) (under x ω) ≡ pairing K n (under x f) (under x (act F (Et j w) ω))
      part x = pairing-agree K n _ _ (under x ω) _ (rows_under F n x (E j w) tt (h, g) f) (λ S s. refl)
          ∙ e (under x f) (under x ω) ∙ sym (pairing-agree K n (under x f) _ _ _ (λ S s. refl) (rows_under F n x (Et j w) tt (h, g) ω))

  adjoint-raise : (n j : ℕ) (w : R) → 2 ≤ j → j ≤ n → Adjoint n (E j w)
  adjoint-raise zero j w h g = absurd (omega arith)
  adjoint-raise (suc zero) j w h g = absurd (omega arith)
  adjoint-raise (suc (suc n)) j w h g =
      elim (dec_le j (suc n)) [
        | yes p ↦ adjoint-under (suc n) j w h p (adjoint-raise (suc n) j w h p)
        | no p ↦ adjoint-top n j w (omega arith)
      ]

  -- D and Dinv multiply the number at each set by one number
  scaled-times : (f : R → R) (e : ℕ → R) (S : RowSet) (x y : R) → scaled F (λ p q. p * f q) e S x * y ≡ x * scaled F (λ p q. p * f q) e S y
  scaled-times f e S x y = ap (λ z. z * y) (scaled-product K O f e S x) ∙ *-assoc K _ _ _ ∙ ap (λ z. x * z) (*-comm K _ _ ∙ sym (scaled-product K O f e S y))

  pairing-scaled : (n : ℕ) (s : RowSet → R → R) → ((S : RowSet) (x y : R) → s S x * y ≡ x * s S y) → (f ω : RowSet → R)
      → pairing K n (λ S. s S (f S)) ω ≡ pairing K n f (λ S. s S (ω S))
  unfolding pairing
  pairing-scaled zero s h f ω = h [] _ _
  pairing-scaled (suc n) s h f ω = ap₂ ◌+◌
      (pairing-scaled n (under false s) (λ S. h (false ∷ S)) (under false f) (under false ω))
      (pairing-scaled n (under true s) (λ S. h (true ∷ S)) (under true f) (under true ω))

  adjoint-letter : (n : ℕ) (l : Letter R) → Rows n l → Adjoint n l
  unfolding act
  adjoint-letter n (E j w) h f ω = adjoint-raise n j w h.0 h.1 f ω
  adjoint-letter n (Et j w) h f ω = pairing-comm K n _ _ ∙ sym (adjoint-raise n j w h.0 h.1 ω f) ∙ pairing-comm K n _ _
  adjoint-letter n (D e) h f ω = pairing-scaled n (scaled F ◌*◌ e) (scaled-times (λ x. x) e) f ω
  adjoint-letter n (Dinv e) h f ω = pairing-scaled n (scaled F (λ x y. x * O.inv y) e) (scaled-times O.inv e) f ω

  pub pairing-walk : (n : ℕ) (W : Word R) → All (Rows n) W → (f ω : RowSet → R)
      → pairing K n (walk F W f) ω ≡ pairing K n f (walk F (transposed_word W) ω)
  unfolding walk transposed_word
  pairing-walk n [] h f ω = refl
  pairing-walk n (l ∷ W) h f ω =
      adjoint-letter n l h.0 (walk F W f) ω
      ∙ pairing-walk n W h.1 f (act F (transposed_letter l) ω)
      ∙ ap (pairing K n f) (sym (walk-append F (transposed_word W) (transposed_letter l ∷ []) ω))

  pub minor-transposed : (n : ℕ) (W : Word R) → All (Rows n) W → (I J : RowSet) → length I ≡ n → length J ≡ n
      → minor F W I J ≡ minor F (transposed_word W) J I
  unfolding minor
  minor-transposed n W h I J i j =
      sym (pairing-one n I _ i) ∙ pairing-comm K n _ _ ∙ pairing-walk n W h _ _ ∙ pairing-one n J _ j
