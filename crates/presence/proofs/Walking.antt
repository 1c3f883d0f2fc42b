-- The walks of the code in Bools, of a word from its last letter on or of its transpose from the first: what k letters of a step's word have done (Done,
-- done-none, done-more, done-all), and what k steps of a joined word have (StepsDone, steps-done-none, steps-done-more, steps-done-all).
use mathlib.Core.Path.{◌≡◌, refl, sym, ap, ◌∙◌, subst}
use mathlib.Core.Bool.{Bool, true, false}
use mathlib.Core.List.{List, [], ◌∷◌}
use Prim.Native.Nat.{ℕ, ◌+◌, ◌-◌, ◌<◌}
use native.Mathlib.Omega.{arith}
use native.Mathlib.Numerals.{add-one}
use lib.ListN.{get_or, length, drop}
use lib.Seq.{drop-cons, drop-length}
use Rattle.number.specs.declared.Number.{Number}
use Rattle.words.specs.RowSet.{RowSet}
use Rattle.words.specs.Word.{Letter, Word, transposed_letter, transposed_word}
use Rattle.words.specs.Walk.{act, walk}
use Rattle.words.specs.Operation as words
use Rattle.words.specs.Operation.{step_word, joined_word, each_steps}
use Rattle.words.proofs.Words.{transposed-append}
use Rattle.words.proofs.Steps.{walk-joined}
use Rattle.words.proofs.Walks.{walk-append}
use Rattle.words.proofs.Agree as words-agree
use Rattle.presence.specs.Presence.{presence, nonzero, letter_if, word_if, place_if}
use Rattle.presence.specs.Held.{Agree}

pub agree_refl : {n : ℕ} (ω : RowSet → Bool) → Agree n ω ω
agree_refl ω = record { same = λ S e. refl }

pub agree_trans : {n : ℕ} {ω η θ : RowSet → Bool} → Agree n ω η → Agree n η θ → Agree n ω θ
agree_trans p q = record { same = λ S e. p.same S e ∙ q.same S e }

walk-agree : (n : ℕ) (W : Word Bool) (ω η : RowSet → Bool) → Agree n ω η → Agree n (walk presence W ω) (walk presence W η)
walk-agree n W ω η h = record { same = words-agree.walk-agree presence n W ω η h.same }

-- THE WORD OF A STEP, from its last letter on; its transposed word, from its first letter on
walk_start : {n : ℕ} (X : Word Bool) (t : ℕ) (ω : RowSet → Bool) → t ≡ length X → Agree n ω (walk presence (drop t X) ω)
unfolding walk
walk_start X t ω e = rw (e, drop-length X) (agree_refl ω)

turned-end : {n : ℕ} (X : Word Bool) (t : ℕ) (η ω : RowSet → Bool) → t ≡ length X → Agree n (walk presence (transposed_word (drop t X)) η) ω → Agree n η ω
unfolding walk transposed_word
turned-end X t η ω e h = rw (e, drop-length X) at h

dropped : (X : Word Bool) (t : ℕ) → t < length X → (d : Letter Bool) → drop t X ≡ get_or X t d ∷ drop (t + 1) X
dropped X t l d = drop-cons X t d l ∙ ap (λ (i : ℕ). get_or X t d ∷ drop i X) (sym (add-one t))

walk-turned : (l : Letter Bool) (W : Word Bool) (ω : RowSet → Bool)
    → walk presence (transposed_word (l ∷ W)) ω ≡ walk presence (transposed_word W) (act presence (transposed_letter l) ω)
unfolding transposed_word walk
walk-turned l W ω = walk-append presence (transposed_word W) (transposed_letter l ∷ []) ω

module _ {n : ℕ} (X : Word Bool) (ω : RowSet → Bool) (t : ℕ) (l : t < length X) (d : Letter Bool) (η θ : RowSet → Bool) where
  walk-next : Agree n η (walk presence (drop (t + 1) X) ω) → Agree n θ (act presence (get_or X t d) η) → Agree n θ (walk presence (drop t X) ω)
  unfolding walk
  walk-next p q =
      subst (λ (W : Word Bool). Agree n θ (walk presence W ω)) (sym (dropped X t l d))
      (agree_trans q (record { same = words-agree.act-agree presence n (get_or X t d) η (walk presence (drop (t + 1) X) ω) p.same }))

  turned-next : Agree n (walk presence (transposed_word (drop t X)) η) ω → Agree n θ (act presence (transposed_letter (get_or X t d)) η)
      → Agree n (walk presence (transposed_word (drop (t + 1) X)) θ) ω
  turned-next p q =
      agree_trans (walk-agree n (transposed_word (drop (t + 1) X)) θ (act presence (transposed_letter (get_or X t d)) η) q)
      (subst (λ (f : RowSet → Bool). Agree n f ω) (ap (λ (W : Word Bool). walk presence (transposed_word W) η) (dropped X t l d)
      ∙ walk-turned (get_or X t d) (drop (t + 1) X) η) p)

-- from ω to η by k of the m letters of X
abbrev pub Done : Bool → (n : ℕ) (X : Word Bool) (m k : ℕ) (ω η : RowSet → Bool) → Type 0
Done true n X m k ω η = Agree n (walk presence (transposed_word (drop k X)) η) (walk presence (transposed_word X) ω)
Done false n X m k ω η = Agree n η (walk presence (drop (m - k) X) ω)

module _ (n : ℕ) (X : Word Bool) (m : ℕ) (size : length X ≡ m) (ω : RowSet → Bool) where
  pub done-none : (b : Bool) → Done b n X m 0 ω ω
  done-none true = agree_refl _
  done-none false = walk_start X (m - 0) ω (omega arith)

  pub done-more : (b : Bool) (k : ℕ) → k < m → (t : ℕ) → t ≡ place_if b m k → (d : Letter Bool) (η θ : RowSet → Bool) → Done b n X m k ω η
      → Agree n θ (act presence (letter_if b (get_or X t d)) η) → Done b n X m (k + 1) ω θ
  done-more true k l t e d η θ p q =
      turned-next X (walk presence (transposed_word X) ω) k (omega arith) d η θ p
      (subst (λ (i : ℕ). Agree n θ (act presence (transposed_letter (get_or X i d)) η)) e q)
  done-more false k l t e d η θ p q =
      let before : m - k ≡ t + 1 = omega arith in
      let after : t ≡ m - (k + 1) = omega arith in
      let at : (i : ℕ) → (RowSet → Bool) → Type 0 = λ i ζ. Agree n ζ (walk presence (drop i X) ω) in
      subst (λ (i : ℕ). at i θ) after (walk-next X ω t (omega arith) d η θ (subst (λ (i : ℕ). at i η) before p) q)

  pub done-all : (b : Bool) (k : ℕ) → k ≡ m → (η : RowSet → Bool) → Done b n X m k ω η → Agree n η (walk presence (word_if b X) ω)
  done-all true k e η p = turned-end X k η (walk presence (transposed_word X) ω) (omega arith) p
  done-all false k e η p = let none : m - k ≡ 0 = omega arith in subst (λ (i : ℕ). Agree n η (walk presence (drop i X) ω)) none p

-- THE STEPS OF A JOINED WORD
abbrev pub present_steps : ℕ → List (words.Step Number) → Word Bool
present_steps n L = joined_word n (each_steps nonzero L)

turned-joined : (n : ℕ) (s : words.Step Bool) (L : List (words.Step Bool)) (ω : RowSet → Bool)
    → walk presence (transposed_word (joined_word n (s ∷ L))) ω
    ≡ walk presence (transposed_word (joined_word n L)) (walk presence (transposed_word (step_word n s)) ω)
unfolding joined_word transposed_word walk
turned-joined n s [] ω = refl
turned-joined n s (t ∷ L) ω =
    ap (λ (W : Word Bool). walk presence W ω) (transposed-append (step_word n s) (joined_word n (t ∷ L)))
    ∙ walk-append presence (transposed_word (joined_word n (t ∷ L))) (transposed_word (step_word n s)) ω

joined-start : {n : ℕ} (L : List (words.Step Number)) (m : ℕ) (ω : RowSet → Bool) → drop m L ≡ [] → Agree n ω (walk presence (present_steps n (drop m L)) ω)
unfolding joined_word walk
joined-start L m ω e = rw e (agree_refl ω)

turned-joined-end : {n : ℕ} (L : List (words.Step Number)) (m : ℕ) (η ω : RowSet → Bool) → drop m L ≡ []
    → Agree n (walk presence (transposed_word (present_steps n (drop m L))) η) ω → Agree n η ω
unfolding joined_word transposed_word walk
turned-joined-end L m η ω e h = rw e at h

module _ {n : ℕ} (L : List (words.Step Number)) (s : words.Step Number) (c : ℕ) (ω η θ : RowSet → Bool) (e : drop c L ≡ s ∷ drop (c + 1) L) where
  joined-next : Agree n η (walk presence (present_steps n (drop (c + 1) L)) ω) → Agree n θ (walk presence (step_word n (words.each_step nonzero s)) η)
      → Agree n θ (walk presence (present_steps n (drop c L)) ω)
  joined-next p q =
      subst (Agree n θ) (sym (ap (λ (M : List (words.Step Number)). walk presence (present_steps n M) ω) e
      ∙ walk-joined presence n (words.each_step nonzero s) (each_steps nonzero (drop (c + 1) L)) ω))
      (agree_trans q (walk-agree n (step_word n (words.each_step nonzero s)) η (walk presence (present_steps n (drop (c + 1) L)) ω) p))

  turned-joined-next : Agree n (walk presence (transposed_word (present_steps n (drop c L))) η) ω
      → Agree n θ (walk presence (transposed_word (step_word n (words.each_step nonzero s))) η)
      → Agree n (walk presence (transposed_word (present_steps n (drop (c + 1) L))) θ) ω
  turned-joined-next p q =
      agree_trans
      (walk-agree n (transposed_word (present_steps n (drop (c + 1) L))) θ (walk presence (transposed_word (step_word n (words.each_step nonzero s))) η) q)
      (subst (λ (f : RowSet → Bool). Agree n f ω)
      (ap (λ (M : List (words.Step Number)). walk presence (transposed_word (present_steps n M)) η) e
      ∙ turned-joined n (words.each_step nonzero s) (each_steps nonzero (drop (c + 1) L)) η) p)

-- from ω to η by k of the m steps L
abbrev pub StepsDone : Bool → (n : ℕ) (L : List (words.Step Number)) (m k : ℕ) (ω η : RowSet → Bool) → Type 0
StepsDone true n L m k ω η = Agree n (walk presence (transposed_word (present_steps n (drop k L))) η) (walk presence (transposed_word (present_steps n L)) ω)
StepsDone false n L m k ω η = Agree n η (walk presence (present_steps n (drop (m - k) L)) ω)

module _ (n : ℕ) (L : List (words.Step Number)) (m : ℕ) (none : drop m L ≡ []) (ω : RowSet → Bool) where
  pub steps-done-none : (b : Bool) → StepsDone b n L m 0 ω ω
  steps-done-none true = agree_refl _
  steps-done-none false =
      let all : m ≡ m - 0 = omega arith in
      joined-start L (m - 0) ω (subst (λ (i : ℕ). drop i L ≡ []) all none)

  pub steps-done-more : (b : Bool) (k : ℕ) → k < m → (c : ℕ) → c ≡ place_if b m k → (s : words.Step Number) → drop c L ≡ s ∷ drop (c + 1) L
      → (η θ : RowSet → Bool) → StepsDone b n L m k ω η → Agree n θ (walk presence (word_if b (step_word n (words.each_step nonzero s))) η)
      → StepsDone b n L m (k + 1) ω θ
  steps-done-more true k l c e s next η θ p q =
      turned-joined-next L s k (walk presence (transposed_word (present_steps n L)) ω) η θ (subst (λ (i : ℕ). drop i L ≡ s ∷ drop (i + 1) L) e next) p q
  steps-done-more false k l c e s next η θ p q =
      let before : m - k ≡ c + 1 = omega arith in
      let after : c ≡ m - (k + 1) = omega arith in
      let at : (i : ℕ) → (RowSet → Bool) → Type 0 = λ i ζ. Agree n ζ (walk presence (present_steps n (drop i L)) ω) in
      subst (λ (i : ℕ). at i θ) after (joined-next L s c ω η θ next (subst (λ (i : ℕ). at i η) before p) q)

  pub steps-done-all : (b : Bool) (k : ℕ) → k ≡ m → (η : RowSet → Bool) → StepsDone b n L m k ω η
      → Agree n η (walk presence (word_if b (present_steps n L)) ω)
  steps-done-all true k e η p =
      turned-joined-end L k η (walk presence (transposed_word (present_steps n L)) ω) (subst (λ (i : ℕ). drop i L ≡ []) (sym e) none) p
  steps-done-all false k e η p =
      let start : m - k ≡ 0 = omega arith in
      subst (λ (i : ℕ). Agree n η (walk presence (present_steps n (drop i L)) ω)) start p
