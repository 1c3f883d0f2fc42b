-- EVERY MINOR OF THE WORDS OF POSITIVE FACTORS IS POSITIVE: of the plain word (word-positive), the inverse's (inverse-positive), the converse's
-- (converse-positive), and so of joined steps (joined-positive).
use mathlib.Core.Path.{◌≡◌, sym, ap, ◌∙◌, subst}
use mathlib.Core.List.{List, [], ◌∷◌, reverse}
use Prim.Native.Nat.{ℕ, ◌-◌, ◌≤◌}
use native.Mathlib.Omega.{arith}
use lib.ListN.{length, length-map, length-reverse}
use Rattle.fraction.specs.Arithmetic.{Arithmetic}
use Rattle.fraction.specs.Ring.{CRing, Ordered, NonNegative, arithmetic, positive}
use Rattle.fraction.proofs.Ring.{ring, *-one}
use Rattle.fraction.proofs.Ordered.{inv-mul-pos}
use Rattle.words.specs.RowSet.{RowSet, count, rows}
use Rattle.words.specs.Word.{Factors, Letter, D, Word, word, exchanged, inverse_word, converse_word, transposed_word}
use Rattle.words.specs.Walk.{State, one_at, act, walk, minor}
use Rattle.words.specs.Operation.{Step, step, plain, inverted, conversed, transposed, step_word, joined_word}
use Rattle.words.proofs.RowSets.{length-rows}
use Rattle.words.proofs.Walks.{Rows, All, walk-append, one_at-same}
use Rattle.words.proofs.Stages.{stages, transposed-stages-all, stages-rows, word-stages, word_rows}
use Rattle.words.specs.Sources.{Weighted, Source, Sources}
use Rattle.words.proofs.Steps.{each-weighted, source-weaken, sources-weaken, step-weights, joined-weights}
use Rattle.minors.specs.Matrix.{Positive}
use Rattle.minors.proofs.Transpose.{transposed-word, minor-transposed}
use Rattle.minors.proofs.Nonnegative.{NonNegatives, KeepsSign, act-nonnegative, act-positive, walk-nonnegative, one_at-nonnegative, append-keeps}
use Rattle.minors.proofs.Complement.{complement, count-complement, Diagonal, word-diagonal, word_determinant, word_determinant-positive, minor-inverse}
use Rattle.minors.proofs.Converse.{count-reverse, minor-converse}
use Rattle.minors.proofs.Sorting.{PositiveBelow, stages-positive}
pub use Rattle.minors.proofs.Nonnegative.{AllPositive}

module _ (K : CRing) (O : Ordered K) where
  open K use {R, mul as ◌*◌}
  open O use {Pos, pos-one, pos-mul, inv, inv-pos}

  infixl 70 ◌*◌
  abbrev F : Arithmetic
  F = arithmetic K O

  -- the upper half of the word leads from every set to the lowest rows, the lower half from these to every set
  upper-keeps : (n : ℕ) (b : Factors R) → PositiveBelow K O n b → All (KeepsSign K O n) (transposed_word (stages n 1 (n - 1) b))
  upper-keeps n b p = transposed-stages-all (KeepsSign K O n) n 1 (n - 1) b (omega arith) (λ i j x y z. positive (p i j x y z))

  upper-positive : (n : ℕ) (b : Factors R) → PositiveBelow K O n b → (J : RowSet) → length J ≡ n
      → Pos (minor F (transposed_word (stages n 1 (n - 1) b)) (rows n 1 (count J)) J)
  unfolding minor
  upper-positive n b p J j =
      let B : RowSet = rows n 1 (count J) in
      subst Pos (minor-transposed K O n (stages n 1 (n - 1) b) (stages-rows n 1 (n - 1) b (omega arith)) J B j (length-rows n 1 (count J)))
      (stages-positive K O b n (one_at F B) J p j (one_at-nonnegative K O n B) (subst Pos (sym (one_at-same F B)) pos-one))

  pub word-positive : (n : ℕ) (b : Factors R) → Positive K O n b → AllPositive K O n (word n b)
  unfolding minor walk
  word-positive n b p I J i j c =
      let below : PositiveBelow K O n b = λ r k x y z. p r k (omega arith, z) (x, omega arith) in
      let above : PositiveBelow K O n (exchanged b) = λ r k x y z. p k r (x, omega arith) (omega arith, z) in
      let M : Word R = transposed_word (stages n 1 (n - 1) (exchanged b)) in
      let ω : State F = walk F M (one_at F J) in
      let h : NonNegatives K O n ω = walk-nonnegative K O n M (one_at F J) (upper-keeps n (exchanged b) above) (one_at-nonnegative K O n J) in
      let d : Letter R = D (λ k. b k k) in
      subst (λ W. Pos (walk F W (one_at F J) I)) (sym (word-stages n b))
      (subst Pos (sym (ap (λ η. η I) (walk-append F (stages n 1 (n - 1) b) (d ∷ M) (one_at F J))))
      (stages-positive K O b n (act F d ω) I below i (act-nonnegative K O n d ω (λ k x. p k k x x) h)
      (subst (λ m. Pos (act F d ω (rows n 1 m))) (sym c)
      (act-positive K O n d ω (λ k x. p k k x x) h (rows n 1 (count J)) (length-rows n 1 (count J)) (upper-positive n (exchanged b) above J j)))))

  -- a factor is positive if the product and the other factor are
  factor-positive : (c x : R) → Pos c → Pos (c * x) → Pos x
  factor-positive c x p q = subst Pos (regroup c x (inv c) ∙ ap (λ y. x * y) (inv-mul-pos K O c p) ∙ *-one K x) (pos-mul _ _ q (inv-pos c p))
    where
      regroup : (a b c : R) → a * b * c ≡ b * (a * c)
      regroup a b c = simp ring

  -- any word: its inverse's minors are its complementary ones
  pub inverse_word-positive : (n : ℕ) (W : Word R) → All (Rows n) W → All (Diagonal K O n) W → AllPositive K O n W → AllPositive K O n (inverse_word W)
  inverse_word-positive n W r d h I J i j c =
      let e : count (complement J) ≡ count (complement I) = omega (arith, count-complement I, count-complement J) in
      factor-positive (word_determinant K O n W) _ (word_determinant-positive K O n W d)
      (subst Pos (minor-inverse K O n W r d I J i j) (h (complement J) (complement I) (length-map J _ ∙ j) (length-map I _ ∙ i) e))

  pub inverse-positive : (n : ℕ) (b : Factors R) → Positive K O n b → AllPositive K O n (inverse_word (word n b))
  inverse-positive n b p = inverse_word-positive n (word n b) (word_rows n b) (word-diagonal K O n b (λ i x. p i i x x)) (word-positive n b p)

  pub converse-positive : (n : ℕ) (W : Word R) → All (Rows n) W → AllPositive K O n W → AllPositive K O n (converse_word n W)
  converse-positive n W h p I J i j c = subst Pos (sym (minor-converse K O n W h I J i j))
      (p (reverse I) (reverse J) (length-reverse I ∙ i) (length-reverse J ∙ j) (count-reverse I ∙ c ∙ sym (count-reverse J)))

  -- steps whose sources' factors are positive
  abbrev pub PositiveStep : ℕ → Step R → Type 0
  PositiveStep n = Source (Positive K O n)

  abbrev pub PositiveSteps : ℕ → List (Step R) → Type 0
  PositiveSteps n = Sources (Positive K O n)

  -- a letter of their words keeps numbers positive or zero
  positive-weighted : (n : ℕ) (b : Factors R) → Positive K O n b → Weighted (NonNegative K O) Pos n b
  positive-weighted = each-weighted Pos (NonNegative K O) Pos (λ x p. positive p) (λ x p. p)

  step_keeps : (n : ℕ) (s : Step R) → PositiveStep n s → All (KeepsSign K O n) (step_word n s)
  step_keeps n s p = step-weights (NonNegative K O) Pos n s (source-weaken (Positive K O n) (Weighted (NonNegative K O) Pos n) (positive-weighted n) s p)

  joined_keeps : (n : ℕ) (L : List (Step R)) → PositiveSteps n L → All (KeepsSign K O n) (joined_word n L)
  joined_keeps n L p =
      joined-weights (NonNegative K O) Pos n L (sources-weaken (Positive K O n) (Weighted (NonNegative K O) Pos n) (positive-weighted n) L p)

  pub step-positive : (n : ℕ) (s : Step R) → PositiveStep n s → AllPositive K O n (step_word n s)
  step-positive n (step plain b) p = word-positive n b p
  step-positive n (step inverted b) p = inverse-positive n b p
  step-positive n (step conversed b) p = converse-positive n (word n b) (word_rows n b) (word-positive n b p)
  step-positive n (step transposed b) p = subst (AllPositive K O n) (sym (transposed-word n b)) (word-positive n (exchanged b) (λ i j x y. p j i y x))

  -- of one step or more
  pub joined-positive : (n : ℕ) (L : List (Step R)) → 1 ≤ length L → PositiveSteps n L → AllPositive K O n (joined_word n L)
  unfolding joined_word
  joined-positive n [] l p = absurd (omega arith)
  joined-positive n (s ∷ []) l p = step-positive n s p.0
  joined-positive n (s ∷ t ∷ L) l p =
      append-keeps K O n (step_word n s) (joined_word n (t ∷ L)) (step_keeps n s p.0) (joined_keeps n (t ∷ L) p.1)
      (joined-positive n (t ∷ L) (omega arith) p.1)
