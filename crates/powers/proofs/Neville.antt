-- NEVILLE'S SCHEME: numbers N c j with N c j = N (c + 1) j + b (j, c) × N c (j - 1) for c < j are what the letters E of a word with the factors b make of
-- N 1 1, N 2 2, .. (neville). Stage by stage: after the stages k, k + 1, .. item j is N c j, where c - 1 counts the stages that are still to change it.
use mathlib.Core.Path.{◌≡◌, refl, sym, ap, ap₂, ◌∙◌}
use mathlib.Core.List.{[], ◌∷◌}
use Prim.Native.Nat.{ℕ, zero, suc, ◌≤◌, ◌<◌, ◌-◌, max, ◌+◌ as ◌+ℕ◌}
use native.Mathlib.Decide.{ℕ_discrete, dec_le}
use native.Mathlib.Omega.{arith}
use borrow.Author.Tests.{eq-eqb, ne_eqb}
use Rattle.fraction.specs.Arithmetic.{Arithmetic}
use Rattle.fraction.specs.Ring.{CRing, Ordered, arithmetic}
use Rattle.words.specs.RowSet.{In}
use Rattle.words.specs.Word.{Factors, E}
use Rattle.words.specs.Walk.{carry, carry_letter}
use Rattle.words.proofs.Walks.{carry-append}
use Rattle.words.proofs.Stages.{stage, stages}

-- the level of item j after the stages k, k + 1, ..
level-is : (n k j c : ℕ) → k +ℕ j ≡ n +ℕ c → 1 ≤ c → max 1 (k +ℕ j - n) ≡ c
level-is n k j c e h = let f : k +ℕ j - n ≡ c = omega arith in ap (max 1) f ∙ omega arith

module _ (K : CRing) (O : Ordered K) where
  open K use {R, add as ◌+◌, mul as ◌*◌}

  infixl 65 ◌+◌
  infixl 70 ◌*◌
  abbrev F : Arithmetic
  F = arithmetic K O

  -- E j leaves the other items alone
  raise-other : (j i : ℕ) (w : R) (v : ℕ → R) → (i ≡ j → ⊥) → carry_letter F (E j w) v i ≡ v i
  unfolding carry_letter
  raise-other j i w v h = rw (ne_eqb i j h)

  raise-here : (j : ℕ) (w : R) (v : ℕ → R) → carry_letter F (E j w) v j ≡ v j + w * v (j - 1)
  unfolding carry_letter
  raise-here j w v = rw (eq-eqb j j refl)

  -- a stage leaves the items past its rows alone
  stage-past : (n k : ℕ) (b : Factors R) (v : ℕ → R) (j : ℕ) → n < j → carry F (stage n k b) v j ≡ v j
  unfolding stage carry
  stage-past n zero b v j h = refl
  stage-past zero (suc k) b v j h = refl
  stage-past (suc n) (suc k) b v j h =
      ap (λ u. u j) (carry-append F (stage n k b) (E (suc n) (b (suc n) (suc k)) ∷ []) v)
      ∙ stage-past n k b _ j (omega arith) ∙ raise-other (suc n) j _ v (λ e. omega arith)

  -- and those before its k highest rows, and adds to each of these its factor times the item before it
  stage-before : (n k : ℕ) (b : Factors R) (v : ℕ → R) (j : ℕ) → k +ℕ j ≤ n → carry F (stage n k b) v j ≡ v j
  unfolding stage carry
  stage-before n zero b v j h = refl
  stage-before zero (suc k) b v j h = refl
  stage-before (suc n) (suc k) b v j h =
      ap (λ u. u j) (carry-append F (stage n k b) (E (suc n) (b (suc n) (suc k)) ∷ []) v)
      ∙ stage-before n k b _ j (omega arith) ∙ raise-other (suc n) j _ v (λ e. omega arith)

  stage-adds : (n k : ℕ) (b : Factors R) (v : ℕ → R) (j c : ℕ) → 1 ≤ c → c < j → j ≤ n → k +ℕ j ≡ n +ℕ c
      → carry F (stage n k b) v j ≡ v j + b j c * v (j - 1)
  unfolding stage carry
  stage-adds n zero b v j c l m h e = absurd (omega arith)
  stage-adds zero (suc k) b v j c l m h e = absurd (omega arith)
  stage-adds (suc n) (suc k) b v j c l m h e =
      ap (λ u. u j) (carry-append F (stage n k b) (E (suc n) (b (suc n) (suc k)) ∷ []) v)
      ∙ elim (ℕ_discrete j (suc n)) [
        | yes f ↦
            let g : suc k ≡ c = omega arith in
            ap (carry F (stage n k b) (carry_letter F (E (suc n) (b (suc n) (suc k))) v)) f
            ∙ stage-past n k b _ (suc n) (omega arith) ∙ raise-here (suc n) _ v
            ∙ ap₂ (λ i d. v i + b i d * v (i - 1)) (sym f) g
        | no f ↦
            stage-adds n k b (carry_letter F (E (suc n) (b (suc n) (suc k))) v) j c l m (omega arith) (omega arith)
            ∙ ap₂ (λ p q. p + b j c * q) (raise-other (suc n) j _ v f) (raise-other (suc n) (j - 1) _ v (λ g. omega arith))
      ]

  module _ (n : ℕ) (b : Factors R) (N : ℕ → ℕ → R) (step : (c j : ℕ) → 1 ≤ c → c < j → j ≤ n → N c j ≡ N (suc c) j + b j c * N c (j - 1))
      (v : ℕ → R) (start : (j : ℕ) → In n j → v j ≡ N j j) where
    -- where item j stands after the stages k, k + 1, .., n - 1
    abbrev level : ℕ → ℕ → ℕ
    level k j = max 1 (k +ℕ j - n)

    stages-level : (k m j : ℕ) → k +ℕ m ≡ n → 1 ≤ k → In n j → carry F (stages n k m b) v j ≡ N (level k j) j
    unfolding stages carry
    stages-level k zero j e l h = start j h ∙ (let f : j ≡ level k j = omega (arith, h.0) in ap (λ c. N c j) f)
    stages-level k (suc m) j e l h =
        ap (λ u. u j) (carry-append F (stage n k b) (stages n (suc k) m b) v)
        ∙ elim (dec_le (k +ℕ j) n) [
          | yes f ↦
              let g : level (suc k) j ≡ level k j = omega arith in
              stage-before n k b _ j f ∙ stages-level (suc k) m j (omega arith) (omega arith) h ∙ ap (λ c. N c j) g
          | no f ↦ added (λ i p. stages-level (suc k) m i (omega arith) (omega arith) p) (k +ℕ j - n) (omega arith) (omega arith)
        ]
      where
        added : ((i : ℕ) → In n i → carry F (stages n (suc k) m b) v i ≡ N (level (suc k) i) i) → (c : ℕ) → k +ℕ j ≡ n +ℕ c → 1 ≤ c
            → carry F (stage n k b) (carry F (stages n (suc k) m b) v) j ≡ N (level k j) j
        added behind c f i =
            stage-adds n k b _ j c i (omega arith) h.1 f
            ∙ ap₂ (λ y z. y + b j c * z)
            (behind j h ∙ ap (λ d. N d j) (level-is n (suc k) j (suc c) (omega arith) (omega arith)))
            (behind (j - 1) (omega arith, omega (arith, h.1)) ∙ ap (λ d. N d (j - 1)) (level-is n (suc k) (j - 1) c (omega arith) i))
            ∙ sym (step c j i (omega arith) h.1) ∙ ap (λ d. N d j) (sym (level-is n k j c f i))

    pub neville : (j : ℕ) → In n j → carry F (stages n 1 (n - 1) b) v j ≡ N 1 j
    neville j h =
        let f : level 1 j ≡ 1 = omega (arith, h.1) in
        stages-level 1 (n - 1) j (omega (arith, h.0, h.1)) (omega arith) h ∙ ap (λ c. N c j) f
