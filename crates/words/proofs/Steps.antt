-- The words of steps: what holds of every letter of a step's word (step-all) and of joined words (joined-all), where the sources' factors have a property
-- (Sources; sources-at of one of them). So the rows of joined words are among 1 .. n (joined-rows), and their weights have what the factors off the diagonal
-- have, their entries what those on it have (joined-weights). The walk of joined words (walk-joined).
use mathlib.Core.Path.{◌≡◌, refl, subst}
use mathlib.Core.List.{List, [], ◌∷◌}
use Prim.Native.Nat.{ℕ, zero, suc, ◌+◌, ◌-◌}
use native.Mathlib.Omega.{arith}
use lib.ListN.{drop}
use Rattle.fraction.specs.Arithmetic.{Arithmetic}
use Rattle.words.specs.RowSet.{In}
use Rattle.words.specs.Word.{Factors, Letter, E, Et, D, Dinv, word, inverse_letter, converse_letter, transposed_letter}
use Rattle.words.specs.Walk.{State, walk}
use Rattle.words.specs.Operation.{Step, step, plain, inverted, conversed, transposed, step_word, joined_word, each_factor, each_steps}
use Rattle.words.specs.Sources.{Each, Weighted, Source, Sources}
use Rattle.words.proofs.Walks.{Rows, All, all_append, walk-append}
use Rattle.words.proofs.Words.{inverse-all, converse-all, transposed-all, inverse-row, converse-row, transposed-row}
use Rattle.words.proofs.Stages.{word-all, word_rows}

-- SOURCES in other numbers; and with a property that follows from another
pub sources-map : {A B : Type 0} (T : Factors A → Type 0) (U : Factors B → Type 0) (f : A → B) → ((b : Factors A) → T b → U (each_factor f b))
    → (L : List (Step A)) → Sources T L → Sources U (each_steps f L)
sources-map T U f g [] h = tt
sources-map T U f g (step w b ∷ L) h = (g b h.0, sources-map T U f g L h.1)

module _ {A : Type 0} (T U : Factors A → Type 0) (g : (b : Factors A) → T b → U b) where
  pub source-weaken : (s : Step A) → Source T s → Source U s
  source-weaken (step w b) h = g b h

  pub sources-weaken : (L : List (Step A)) → Sources T L → Sources U L
  sources-weaken [] h = tt
  sources-weaken (s ∷ L) h = (source-weaken s h.0, sources-weaken L h.1)

-- of the steps from number c on, and of step c
module _ {A : Type 0} (T : Factors A → Type 0) where
  pub sources-drop : (L : List (Step A)) (c : ℕ) → Sources T L → Sources T (drop c L)
  sources-drop L zero h = h
  sources-drop [] (suc c) h = h
  sources-drop (s ∷ L) (suc c) h = sources-drop L c h.1

  pub sources-at : (L M : List (Step A)) (c : ℕ) (s : Step A) → Sources T L → drop c L ≡ s ∷ M → Source T s
  sources-at L M c s h e = (subst (Sources T) e (sources-drop L c h)).0

-- what each factor has, those off the diagonal and those on it have
module _ {A : Type 0} (R P Q : A → Type 0) (p : (x : A) → R x → P x) (q : (x : A) → R x → Q x) (n : ℕ) where
  pub each-weighted : (b : Factors A) → Each R n b → Weighted P Q n b
  each-weighted b h = record { off = λ i j x y e. p (b i j) (h i j x y); on = λ i x. q (b i i) (h i i x x) }

-- EVERY LETTER has a property that the words of such sources have, and that letters keep in the inverse's word, the converse's and the transposed one
module _ {A : Type 0} (T : Factors A → Type 0) (Q : Letter A → Type 0) (n : ℕ)
    (in-word : (b : Factors A) → T b → All Q (word n b))
    (in-inverse : (l : Letter A) → Q l → Q (inverse_letter l))
    (in-converse : (l : Letter A) → Q l → Q (converse_letter n l))
    (in-transposed : (l : Letter A) → Q l → Q (transposed_letter l)) where
  pub step-all : (s : Step A) → Source T s → All Q (step_word n s)
  step-all (step plain b) h = in-word b h
  step-all (step inverted b) h = inverse-all Q Q in-inverse (word n b) (in-word b h)
  step-all (step conversed b) h = converse-all Q Q n in-converse (word n b) (in-word b h)
  step-all (step transposed b) h = transposed-all Q Q in-transposed (word n b) (in-word b h)

  pub joined-all : (L : List (Step A)) → Sources T L → All Q (joined_word n L)
  unfolding joined_word
  joined-all [] h = tt
  joined-all (s ∷ []) h = step-all s h.0
  joined-all (s ∷ t ∷ L) h = all_append Q (step_word n s) (joined_word n (t ∷ L)) (step-all s h.0) (joined-all (t ∷ L) h.1)

-- THEIR ROWS
module _ {A : Type 0} (n : ℕ) where
  abbrev Any : Factors A → Type 0
  Any b = Unit {0}

  pub step-rows : (s : Step A) → All (Rows n) (step_word n s)
  step-rows (step w b) = step-all Any (Rows n) n (λ c h. word_rows n c) (inverse-row n) (converse-row n) (transposed-row n) (step w b) tt

  pub joined-rows : (L : List (Step A)) → All (Rows n) (joined_word n L)
  joined-rows L = joined-all Any (Rows n) n (λ c h. word_rows n c) (inverse-row n) (converse-row n) (transposed-row n) L (any L)
    where
      any : (L : List (Step A)) → Sources Any L
      any [] = tt
      any (step w b ∷ L) = (tt, any L)

-- THEIR WEIGHTS: a letter's weight off the diagonal in P, its entries 1 .. n on the diagonal in Q
abbrev pub Weights : {A : Type 0} → (P Q : A → Type 0) → ℕ → Letter A → Type 0
Weights P Q n (E j w) = P w
Weights P Q n (Et j w) = P w
Weights P Q n (D e) = (i : ℕ) → In n i → Q (e i)
Weights P Q n (Dinv e) = (i : ℕ) → In n i → Q (e i)

module _ {A : Type 0} (P Q : A → Type 0) (n : ℕ) where
  pub word-weights : (b : Factors A) → Weighted P Q n b → All (Weights P Q n) (word n b)
  word-weights b h =
      word-all (Weights P Q n) n b (λ i j x y z. h.off i j (omega arith, z) (x, omega arith) (λ e. omega arith)) h.on
      (λ i j x y z. h.off j i (x, omega arith) (omega arith, z) (λ e. omega arith))

  inverse-weight : (l : Letter A) → Weights P Q n l → Weights P Q n (inverse_letter l)
  inverse-weight (E j w) h = h
  inverse-weight (Et j w) h = h
  inverse-weight (D e) h = h
  inverse-weight (Dinv e) h = h

  converse-weight : (l : Letter A) → Weights P Q n l → Weights P Q n (converse_letter n l)
  converse-weight (E j w) h = h
  converse-weight (Et j w) h = h
  converse-weight (D e) h = λ i x. h (n + 1 - i) (omega (arith, x.1), omega (arith, x.0))
  converse-weight (Dinv e) h = λ i x. h (n + 1 - i) (omega (arith, x.1), omega (arith, x.0))

  transposed-weight : (l : Letter A) → Weights P Q n l → Weights P Q n (transposed_letter l)
  transposed-weight (E j w) h = h
  transposed-weight (Et j w) h = h
  transposed-weight (D e) h = h
  transposed-weight (Dinv e) h = h

  pub step-weights : (s : Step A) → Source (Weighted P Q n) s → All (Weights P Q n) (step_word n s)
  step-weights = step-all (Weighted P Q n) (Weights P Q n) n word-weights inverse-weight converse-weight transposed-weight

  pub joined-weights : (L : List (Step A)) → Sources (Weighted P Q n) L → All (Weights P Q n) (joined_word n L)
  joined-weights = joined-all (Weighted P Q n) (Weights P Q n) n word-weights inverse-weight converse-weight transposed-weight

-- the walk of joined steps: the first step's word is walked last
pub walk-joined : (K : Arithmetic) (n : ℕ) (s : Step K.Num) (L : List (Step K.Num)) (ω : State K)
    → walk K (joined_word n (s ∷ L)) ω ≡ walk K (step_word n s) (walk K (joined_word n L) ω)
unfolding joined_word walk
walk-joined K n s [] ω = refl
walk-joined K n s (t ∷ L) ω = walk-append K (step_word n s) (joined_word n (t ∷ L)) ω
