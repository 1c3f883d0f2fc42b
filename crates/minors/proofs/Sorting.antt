-- The stages of positive factors lead from the lowest rows to every set of as many rows (stages-positive): a stage is a step of insertion sort.
use mathlib.Core.Path.{◌≡◌, refl, sym, ap, ◌∙◌, subst}
use mathlib.Core.Bool.{Bool, true, false}
use mathlib.Core.List.{[], ◌∷◌}
use Prim.Native.Nat.{ℕ, zero, suc, ◌+◌ as ◌+ℕ◌, ◌-◌, ◌≤◌, ◌<◌}
use native.Mathlib.Omega.{arith}
use lib.ListN.{length}
use Rattle.fraction.specs.Arithmetic.{Arithmetic}
use Rattle.fraction.specs.Ring.{CRing, Ordered, arithmetic, positive}
use Rattle.fraction.proofs.Ordered.{nonnegative-add-positive}
use Rattle.words.specs.RowSet.{RowSet, count, rows}
use Rattle.words.specs.Word.{Factors, E}
use Rattle.words.specs.Walk.{State, act, walk}
use Rattle.words.proofs.Runs.{topped, length-topped, rows_run}
use Rattle.words.proofs.Walks.{All, under, walk-append, raise-top}
use Rattle.words.proofs.Stages.{stage, stages, stages-zero, stage-all, stages-all, stage-under, stage-false}
use Rattle.minors.proofs.Nonnegative.{NonNegatives, KeepsSign, act-nonnegative, walk-nonnegative, walk-positive}

topped-move : (x : Bool) (c : ℕ) (S : RowSet) → topped x c (x ∷ S) ≡ x ∷ topped x c S
topped-move x zero S = refl
topped-move x (suc c) S = ap (λ T. x ∷ T) (topped-move x c S)

-- S under c rows that are in, and these under a rows that are not
abbrev blocks : ℕ → ℕ → RowSet → RowSet
blocks a c S = topped false a (topped true c S)

length-blocks : (a c : ℕ) (S : RowSet) → length (blocks a c S) ≡ a +ℕ c +ℕ length S
length-blocks a c S = omega (arith, length-topped false a (topped true c S), length-topped true c S)

module _ (K : CRing) (O : Ordered K) where
  open K use {R}
  open O use {Pos, pos-mul}

  abbrev F : Arithmetic
  F = arithmetic K O

  -- positive factors below the diagonal
  abbrev pub PositiveBelow : ℕ → Factors R → Type 0
  PositiveBelow n b = (i j : ℕ) → 1 ≤ j → j < i → i ≤ n → Pos (b i j)

  module _ (b : Factors R) where
    below_less : (n : ℕ) → PositiveBelow (suc n) b → PositiveBelow n b
    below_less n p i j x y z = p i j x y (omega arith)

    stage-keeps : (n k : ℕ) → PositiveBelow n b → k < n → All (KeepsSign K O n) (stage n k b)
    stage-keeps n k p h = stage-all (KeepsSign K O n) n k b (λ i j e x y z. positive (p i j x (omega arith) z))

    stages-nonnegative : (n k m : ℕ) (ω : State F) → PositiveBelow n b → m ≤ n - k → NonNegatives K O n ω → NonNegatives K O n (walk F (stages n k m b) ω)
    stages-nonnegative n k m ω p h = walk-nonnegative K O n (stages n k m b) ω (stages-all (KeepsSign K O n) n k m b h (λ i j x y z. positive (p i j x y z)))

    -- c rows, all of them raised by one
    raised : (n c : ℕ) (ω : State F) (S : RowSet) → PositiveBelow n b → c +ℕ suc (length S) ≡ n → NonNegatives K O n ω
        → Pos (ω (false ∷ topped true c S)) → Pos (walk F (stage n c b) ω (topped true c (false ∷ S)))
    unfolding stage walk
    raised n zero ω S p s h q = q
    raised zero (suc c) ω S p s h q = absurd (omega arith)
    raised (suc n) (suc c) ω S p s h q =
        let w : R = b (suc n) (suc c) in
        let pw : Pos w = p (suc n) (suc c) (omega arith) (omega arith) (omega arith) in
        let l : length (topped true c (false ∷ S)) ≡ n = omega (arith, length-topped true c (false ∷ S)) in
        let t : suc n ≡ suc (suc (length (topped true c S))) = omega (arith, length-topped true c S) in
        subst Pos (sym (stage-under F n c b ω true (topped true c (false ∷ S)) l))
        (raised n c (under true (act F (E (suc n) w) ω)) S (below_less n p) (omega arith)
        (λ T e. act-nonnegative K O (suc n) (E (suc n) w) ω (positive pw) h (true ∷ T) (ap suc e))
        (subst Pos (sym (raise-top F (suc n) w ω true false (topped true c S) t))
        (nonnegative-add-positive K O _ _ (h _ (sym t)) (pos-mul _ _ pw q))))

    -- the next row, which is not in, goes to the rows that are not in
    inserted : (n k a c : ℕ) (ω : State F) (S : RowSet) → PositiveBelow n b → k ≡ a +ℕ c → k +ℕ suc (length S) ≡ n → NonNegatives K O n ω
        → Pos (ω (blocks (suc a) c S)) → Pos (walk F (stage n k b) ω (blocks a c (false ∷ S)))
    inserted n k zero c ω S p e s h q =
        let f : c ≡ k = omega arith in
        subst (λ i. Pos (walk F (stage n i b) ω (topped true c (false ∷ S)))) f (raised n c ω S p (omega arith) h q)
    inserted n zero (suc a) c ω S p e s h q = absurd (omega arith)
    inserted zero (suc k) (suc a) c ω S p e s h q = absurd (omega arith)
    inserted (suc n) (suc k) (suc a) c ω S p e s h q =
        let l : length (blocks a c (false ∷ S)) ≡ n = omega (arith, length-blocks a c (false ∷ S)) in
        subst Pos (sym (stage-false F n k b ω (blocks a c (false ∷ S)) l))
        (inserted n k a c (under false ω) S (below_less n p) (omega arith) (omega arith) (λ T t. h (false ∷ T) (ap suc t)) q)

    -- stage k, after the later ones
    stages-first : (n k m : ℕ) (ω : State F) (S : RowSet) → Pos (walk F (stage n k b) (walk F (stages n (suc k) m b) ω) S)
        → Pos (walk F (stages n k (suc m) b) ω S)
    unfolding stages
    stages-first n k m ω S q = subst Pos (sym (ap (λ η. η S) (walk-append F (stage n k b) (stages n (suc k) m b) ω))) q

    -- the highest k rows are sorted
    sorted : (n k a c : ℕ) (ω : State F) (S : RowSet) → PositiveBelow n b → k ≡ a +ℕ c → k +ℕ length S ≡ n → NonNegatives K O n ω
        → (q : ℕ) → q ≡ c +ℕ count S → Pos (ω (rows n 1 q)) → Pos (walk F (stages n k (length S) b) ω (blocks a c S))
    unfolding stages walk count
    sorted n k a c ω [] p e s h q f r =
        let g : q ≡ 0 +ℕ c = omega arith in
        subst (λ T. Pos (ω T)) (ap (rows n 1) g ∙ rows_run n a c 0 (omega arith)) r
    sorted n k a c ω (true ∷ S) p e s h q f r =
        stages-first n k (length S) ω (blocks a c (true ∷ S))
        (walk-positive K O n (stage n k b) _ (stage-keeps n k p (omega arith)) (stages-nonnegative n (suc k) (length S) ω p (omega arith) h)
        (blocks a c (true ∷ S)) (omega (arith, length-blocks a c (true ∷ S)))
        (subst (λ T. Pos (walk F (stages n (suc k) (length S) b) ω (topped false a T))) (sym (topped-move true c S))
        (sorted n (suc k) a (suc c) ω S p (omega arith) (omega arith) h q (omega arith) r)))
    sorted n k a c ω (false ∷ S) p e s h q f r =
        stages-first n k (length S) ω (blocks a c (false ∷ S))
        (inserted n k a c _ S p e s (stages-nonnegative n (suc k) (length S) ω p (omega arith) h)
        (sorted n (suc k) (suc a) c ω S p (omega arith) (omega arith) h q f r))

    pub stages-positive : (n : ℕ) (ω : State F) (S : RowSet) → PositiveBelow n b → length S ≡ n → NonNegatives K O n ω
        → Pos (ω (rows n 1 (count S))) → Pos (walk F (stages n 1 (n - 1) b) ω S)
    stages-positive n ω S p s h q =
        subst (λ W. Pos (walk F W ω S)) (ap (λ m. stages n 0 m b) s ∙ stages-zero n b)
        (sorted n 0 0 0 ω S p (omega arith) (omega arith) h (count S) (omega arith) q)
