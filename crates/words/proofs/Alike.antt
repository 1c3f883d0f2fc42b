-- Words whose letters correspond one by one (`Matched P`): the word of a matrix (matched-word), words joined (matched-append), the inverse's word and the
-- converse's (matched-inverse, matched-converse), the transposed word (matched-transposed). So the words of steps whose sources are alike (Alike,
-- AlikeSteps): letters-joined. Steps are alike in other numbers (alike-each). A word corresponds to itself in its weights and entries (letters-self).
use mathlib.Core.Path.{◌≡◌, refl, ap}
use mathlib.Core.List.{List, [], ◌∷◌, ◌++◌}
use Prim.Native.Nat.{ℕ, zero, suc, ◌+◌, ◌-◌, ◌≤◌, ◌<◌}
use native.Mathlib.Omega.{arith}
use Rattle.words.specs.Word.{Factors, Letter, E, Et, D, Dinv, Word, ascending, descending, for_up, word, inverse_letter, inverse_word, converse_letter}
use Rattle.words.specs.Word.{converse_word, transposed_letter, transposed_word}
use Rattle.words.specs.Operation.{Way, plain, inverted, conversed, transposed, Step, step, step_word, joined_word, each_steps}
use Rattle.words.proofs.Walks.{All}
use Rattle.words.specs.Sources.{Weighted, Sources}
use Rattle.words.proofs.Steps.{Weights}
use Rattle.words.proofs.Related.{Matched, Letters}

module _ {A B : Type 0} (P : Letter A → Letter B → Type 0) where
  pub matched-append : (U : Word A) (X : Word B) (U' : Word A) (X' : Word B) → Matched P U X → Matched P U' X' → Matched P (U ++ U') (X ++ X')
  matched-append [] [] U' X' h g = g
  matched-append (x ∷ U) (y ∷ X) U' X' h g = (h.0, matched-append U X U' X' h.1 g)
  matched-append [] (y ∷ X) U' X' h g = elim h [ ]
  matched-append (x ∷ U) [] U' X' h g = elim h [ ]

  matched-ascending : (a c : ℕ) (f : ℕ → Word A) (g : ℕ → Word B) → ((i : ℕ) → a ≤ i → i < a + c → Matched P (f i) (g i))
      → Matched P (ascending a c f) (ascending a c g)
  unfolding ascending
  matched-ascending a zero f g h = tt
  matched-ascending a (suc c) f g h =
      matched-append (f a) (g a) _ _ (h a (omega arith) (omega arith)) (matched-ascending (suc a) c f g (λ i x y. h i (omega arith) (omega arith)))

  matched-descending : (a c : ℕ) (f : ℕ → Word A) (g : ℕ → Word B) → c ≤ a → ((i : ℕ) → i ≤ a → a < i + c → Matched P (f i) (g i))
      → Matched P (descending a c f) (descending a c g)
  unfolding descending
  matched-descending a zero f g l h = tt
  matched-descending a (suc c) f g l h =
      matched-append (f a) (g a) _ _ (h a (omega arith) (omega arith))
      (matched-descending (a - 1) c f g (omega arith) (λ i x y. h i (omega arith) (omega arith)))

  single : (x : Letter A) (y : Letter B) → P x y → Matched P (x ∷ []) (y ∷ [])
  single x y h = (h, tt)

  -- the word of a matrix: E j with a factor below the diagonal, D, Et j with one above it
  module _ (n : ℕ) (b : Factors A) (c : Factors B)
      (below : (i j : ℕ) → 1 ≤ i → i < j → j ≤ n → P (E j (b j i)) (E j (c j i)))
      (diagonal : P (D (λ i. b i i)) (D (λ i. c i i)))
      (above : (i j : ℕ) → 1 ≤ i → i < j → j ≤ n → P (Et j (b i j)) (Et j (c i j))) where
    pub matched-word : Matched P (word n b) (word n c)
    unfolding word
    matched-word =
        matched-append (for_up 1 (n - 1) (λ i. for_up (n - i + 1) n (λ j. E j (b j (i + j - n)) ∷ [])))
        (for_up 1 (n - 1) (λ i. for_up (n - i + 1) n (λ j. E j (c j (i + j - n)) ∷ []))) _ _
        (matched-ascending 1 (suc (n - 1) - 1) _ _ (λ i x y. matched-ascending (n - i + 1) (suc n - (n - i + 1)) _ _ (λ j z w.
        single (E j (b j (i + j - n))) (E j (c j (i + j - n))) (below (i + j - n) j (omega arith) (omega arith) (omega arith))))) (
          diagonal,
          matched-descending (n - 1) (suc (n - 1) - 1) _ _ (omega arith) (λ i x y. matched-descending n (suc n - (n - i + 1)) _ _ (omega arith) (λ j z w.
              single (Et j (b (i + j - n) j)) (Et j (c (i + j - n) j)) (above (i + j - n) j (omega arith) (omega arith) (omega arith)))),
        )

  pub matched-inverse : ((x : Letter A) (y : Letter B) → P x y → P (inverse_letter x) (inverse_letter y)) → (U : Word A) (X : Word B) → Matched P U X
      → Matched P (inverse_word U) (inverse_word X)
  unfolding inverse_word
  matched-inverse h [] [] g = tt
  matched-inverse h (x ∷ U) (y ∷ X) g = matched-append (inverse_word U) (inverse_word X) _ _ (matched-inverse h U X g.1) (h x y g.0, tt)
  matched-inverse h [] (y ∷ X) g = elim g [ ]
  matched-inverse h (x ∷ U) [] g = elim g [ ]

  pub matched-converse : (n : ℕ) → ((x : Letter A) (y : Letter B) → P x y → P (converse_letter n x) (converse_letter n y)) → (U : Word A) (X : Word B)
      → Matched P U X
      → Matched P (converse_word n U) (converse_word n X)
  unfolding converse_word
  matched-converse n h [] [] g = tt
  matched-converse n h (x ∷ U) (y ∷ X) g = (h x y g.0, matched-converse n h U X g.1)
  matched-converse n h [] (y ∷ X) g = elim g [ ]
  matched-converse n h (x ∷ U) [] g = elim g [ ]

  pub matched-transposed : ((x : Letter A) (y : Letter B) → P x y → P (transposed_letter x) (transposed_letter y)) → (U : Word A) (X : Word B) → Matched P U X
      → Matched P (transposed_word U) (transposed_word X)
  unfolding transposed_word
  matched-transposed h [] [] g = tt
  matched-transposed h (x ∷ U) (y ∷ X) g = matched-append (transposed_word U) (transposed_word X) _ _ (matched-transposed h U X g.1) (h x y g.0, tt)
  matched-transposed h [] (y ∷ X) g = elim g [ ]
  matched-transposed h (x ∷ U) [] g = elim g [ ]

-- A WORD AND ITSELF, where only the weights and entries of one side are looked at
pub letters-self : {A : Type 0} (P Q : A → Type 0) (n : ℕ) (W : Word A) → All (Weights P Q n) W → Matched (Letters (λ w v. P w) (λ e f. Q e) n) W W
letters-self P Q n [] h = tt
letters-self P Q n (E j w ∷ W) h = ((refl, h.0), letters-self P Q n W h.1)
letters-self P Q n (Et j w ∷ W) h = ((refl, h.0), letters-self P Q n W h.1)
letters-self P Q n (D e ∷ W) h = (λ i x y. h.0 i (x, y), letters-self P Q n W h.1)
letters-self P Q n (Dinv e ∷ W) h = (λ i x y. h.0 i (x, y), letters-self P Q n W h.1)

-- THE WORDS OF STEPS whose factors are related, by P off the diagonal and by Q on it
module _ {A B : Type 0} (P Q : A → B → Type 0) (n : ℕ) where
  pub record Alike (b : Factors A) (c : Factors B) : Type 0 where
    pub off : (i j : ℕ) → 1 ≤ i → i ≤ n → 1 ≤ j → j ≤ n → (i ≡ j → ⊥) → P (b i j) (c i j)
    pub on : (i : ℕ) → 1 ≤ i → i ≤ n → Q (b i i) (c i i)

  pub letters-word : (b : Factors A) (c : Factors B) → Alike b c → Matched (Letters P Q n) (word n b) (word n c)
  letters-word b c h =
      matched-word (Letters P Q n) n b c
      (λ i j x y z. (refl, h.off j i (omega arith) z x (omega arith) (λ e. omega arith)))
      (λ i x y. h.on i x y)
      (λ i j x y z. (refl, h.off i j x (omega arith) (omega arith) z (λ e. omega arith)))

  letters-inverse : (x : Letter A) (y : Letter B) → Letters P Q n x y → Letters P Q n (inverse_letter x) (inverse_letter y)
  letters-inverse (E j w) (E i v) h = h
  letters-inverse (Et j w) (Et i v) h = h
  letters-inverse (D e) (D f) h = h
  letters-inverse (Dinv e) (Dinv f) h = h
  letters-inverse (E j w) (Et i v) h = elim h [ ]
  letters-inverse (E j w) (D f) h = elim h [ ]
  letters-inverse (E j w) (Dinv f) h = elim h [ ]
  letters-inverse (Et j w) (E i v) h = elim h [ ]
  letters-inverse (Et j w) (D f) h = elim h [ ]
  letters-inverse (Et j w) (Dinv f) h = elim h [ ]
  letters-inverse (D e) (E i v) h = elim h [ ]
  letters-inverse (D e) (Et i v) h = elim h [ ]
  letters-inverse (D e) (Dinv f) h = elim h [ ]
  letters-inverse (Dinv e) (E i v) h = elim h [ ]
  letters-inverse (Dinv e) (Et i v) h = elim h [ ]
  letters-inverse (Dinv e) (D f) h = elim h [ ]

  letters-converse : (x : Letter A) (y : Letter B) → Letters P Q n x y → Letters P Q n (converse_letter n x) (converse_letter n y)
  letters-converse (E j w) (E i v) h = (ap (λ k. n + 2 - k) h.0, h.1)
  letters-converse (Et j w) (Et i v) h = (ap (λ k. n + 2 - k) h.0, h.1)
  letters-converse (D e) (D f) h = λ i x y. h (n + 1 - i) (omega arith) (omega arith)
  letters-converse (Dinv e) (Dinv f) h = λ i x y. h (n + 1 - i) (omega arith) (omega arith)
  letters-converse (E j w) (Et i v) h = elim h [ ]
  letters-converse (E j w) (D f) h = elim h [ ]
  letters-converse (E j w) (Dinv f) h = elim h [ ]
  letters-converse (Et j w) (E i v) h = elim h [ ]
  letters-converse (Et j w) (D f) h = elim h [ ]
  letters-converse (Et j w) (Dinv f) h = elim h [ ]
  letters-converse (D e) (E i v) h = elim h [ ]
  letters-converse (D e) (Et i v) h = elim h [ ]
  letters-converse (D e) (Dinv f) h = elim h [ ]
  letters-converse (Dinv e) (E i v) h = elim h [ ]
  letters-converse (Dinv e) (Et i v) h = elim h [ ]
  letters-converse (Dinv e) (D f) h = elim h [ ]

  letters-transposed : (x : Letter A) (y : Letter B) → Letters P Q n x y → Letters P Q n (transposed_letter x) (transposed_letter y)
  letters-transposed (E j w) (E i v) h = h
  letters-transposed (Et j w) (Et i v) h = h
  letters-transposed (D e) (D f) h = h
  letters-transposed (Dinv e) (Dinv f) h = h
  letters-transposed (E j w) (Et i v) h = elim h [ ]
  letters-transposed (E j w) (D f) h = elim h [ ]
  letters-transposed (E j w) (Dinv f) h = elim h [ ]
  letters-transposed (Et j w) (E i v) h = elim h [ ]
  letters-transposed (Et j w) (D f) h = elim h [ ]
  letters-transposed (Et j w) (Dinv f) h = elim h [ ]
  letters-transposed (D e) (E i v) h = elim h [ ]
  letters-transposed (D e) (Et i v) h = elim h [ ]
  letters-transposed (D e) (Dinv f) h = elim h [ ]
  letters-transposed (Dinv e) (E i v) h = elim h [ ]
  letters-transposed (Dinv e) (Et i v) h = elim h [ ]
  letters-transposed (Dinv e) (D f) h = elim h [ ]

  -- steps taken the same way, their sources alike
  pub data AlikeStep : Step A → Step B → Type 0 where
    alike : {w : Way} {b : Factors A} {c : Factors B} → Alike b c → AlikeStep (step w b) (step w c)

  abbrev pub AlikeSteps : List (Step A) → List (Step B) → Type 0
  AlikeSteps [] [] = Unit {0}
  AlikeSteps [] (t ∷ M) = ⊥
  AlikeSteps (s ∷ L) [] = ⊥
  AlikeSteps (s ∷ L) (t ∷ M) = AlikeStep s t × AlikeSteps L M

  letters-step : (s : Step A) (t : Step B) → AlikeStep s t → Matched (Letters P Q n) (step_word n s) (step_word n t)
  letters-step (step plain b) (step plain c) (alike h) = letters-word b c h
  letters-step (step inverted b) (step inverted c) (alike h) = matched-inverse (Letters P Q n) letters-inverse (word n b) (word n c) (letters-word b c h)
  letters-step (step conversed b) (step conversed c) (alike h) = matched-converse (Letters P Q n) n letters-converse (word n b) (word n c) (letters-word b c h)
  letters-step (step transposed b) (step transposed c) (alike h) =
      matched-transposed (Letters P Q n) letters-transposed (word n b) (word n c) (letters-word b c h)
  letters-step (step plain b) (step inverted c) x6 = elim x6 [ ]
  letters-step (step plain b) (step conversed c) x7 = elim x7 [ ]
  letters-step (step plain b) (step transposed c) x8 = elim x8 [ ]
  letters-step (step inverted b) (step plain c) x7 = elim x7 [ ]
  letters-step (step inverted b) (step conversed c) x8 = elim x8 [ ]
  letters-step (step inverted b) (step transposed c) x9 = elim x9 [ ]
  letters-step (step conversed b) (step plain c) x8 = elim x8 [ ]
  letters-step (step conversed b) (step inverted c) x9 = elim x9 [ ]
  letters-step (step conversed b) (step transposed c) x10 = elim x10 [ ]
  letters-step (step transposed b) (step plain c) x9 = elim x9 [ ]
  letters-step (step transposed b) (step inverted c) x10 = elim x10 [ ]
  letters-step (step transposed b) (step conversed c) x11 = elim x11 [ ]

  pub letters-joined : (L : List (Step A)) (M : List (Step B)) → AlikeSteps L M → Matched (Letters P Q n) (joined_word n L) (joined_word n M)
  unfolding joined_word
  letters-joined [] [] h = tt
  letters-joined (s ∷ []) (t ∷ []) h = letters-step s t h.0
  letters-joined (s ∷ []) (t ∷ t' ∷ M) h = absurd h.1
  letters-joined (s ∷ s' ∷ L) (t ∷ []) h = absurd h.1
  letters-joined (s ∷ s' ∷ L) (t ∷ t' ∷ M) h =
      matched-append (Letters P Q n) (step_word n s) (step_word n t) (joined_word n (s' ∷ L)) (joined_word n (t' ∷ M)) (letters-step s t h.0)
      (letters-joined (s' ∷ L) (t' ∷ M) h.1)
  letters-joined [] (t ∷ _) h = elim h [ ]
  letters-joined (s ∷ []) [] h = elim h [ ]
  letters-joined (s ∷ (s' ∷ L)) [] h = elim h [ ]

  -- sources whose factors are in R off the diagonal and in S on it, beside the same steps in other numbers
  pub alike-each : (R S : A → Type 0) (f : A → B) → ((x : A) → R x → P x (f x)) → ((x : A) → S x → Q x (f x))
      → (L : List (Step A)) → Sources (Weighted R S n) L → AlikeSteps L (each_steps f L)
  alike-each R S f p q [] h = tt
  alike-each R S f p q (step w b ∷ L) h = (
    alike (record { off = λ i j x y z v e. p (b i j) (h.0.off i j (x, y) (z, v) e); on = λ i x y. q (b i i) (h.0.on i (x, y)) }),
    alike-each R S f p q L h.1,
  )
