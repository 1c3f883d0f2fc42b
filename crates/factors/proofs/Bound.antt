-- THE BOUND. Each step's source may be off by a count of unit roundings of its own (NearSteps); then a minor is within the sum over the steps of 2n² - n and n²
-- times the count (joined-near), and a new factor within the bound returned and 4n² times the sum of the counts (result-near, result-within). Stored sources
-- taken as exact have the count zero (near-exactly): what is left is 4 m (2n² - n) + 3.
use mathlib.Core.Path.{◌≡◌, refl, sym, ap, subst}
use mathlib.Core.Bool.{Bool, true, false, cond}
use mathlib.Core.List.{List, [], ◌∷◌}
use Prim.Native.Nat.{ℕ, ◌+◌, ◌-◌, ◌*◌, ◌≤◌, ◌<◌}
use native.Mathlib.Nat.{mul-le-mul}
use native.Mathlib.Omega.{arith}
use lib.ListN.{length}
use Rattle.fraction.specs.Fraction.{Fraction, exact}
use Rattle.fraction.specs.Within.{Within}
use Rattle.fraction.proofs.Within.{within-refl}
use Rattle.number.specs.declared.Number.{Number}
use Rattle.number.specs.Number.{bias, rounded, value, Stored, reach}
use Rattle.number.proofs.Value.{value-positive}
use Rattle.words.specs.RowSet.{RowSet, equal}
use Rattle.words.specs.Word.{Factors, total}
use Rattle.words.specs.Walk.{State, one_at, walk, minor}
use Rattle.words.specs.Formula.{new_factor, Divisible}
use Rattle.words.specs.Operation.{Step, step, plain, step_word, joined_word, Operation, joined, submatrix, schur, steps, bound_of, size, Fit, asked_minor, result}
use Rattle.words.specs.Operation.{each_steps}
use Rattle.words.specs.Sources.{Sources, Walkable}
use Rattle.words.proofs.Walks.{walk-append}
use Rattle.words.proofs.Operations.{length-rows_of}
use Rattle.words.proofs.Related.{letter_cost, after, after-measure, walk-related}
use Rattle.words.proofs.Alike.{AlikeStep, alike, letters-joined}
use Rattle.words.proofs.Counts.{joined-cost, joined-square, row-square}
use Rattle.minors.specs.Matrix.{In}
use Rattle.factors.specs.Demand.{exactly}
use Rattle.factors.proofs.Near.{Near, near-more, near-zero, near-one, near-stored}
use Rattle.factors.proofs.Error.{Grade, Room, NearBy, NearWeight, NearEntry, near-related, factor-near, divisible-near}

pub stored-positive : (a : Number) → Stored a → 0 < (value a).top
stored-positive a s = (value-positive a).0 (omega (arith, s.low))

-- THE STEPS: each source's factors within its count of the exact ones
abbrev pub NearSteps : ℕ → List ℕ → List (Step Number) → List (Step Fraction) → Type 0
NearSteps n [] [] [] = Unit {0}
NearSteps n [] [] (t ∷ M) = ⊥
NearSteps n [] (s ∷ L) M = ⊥
NearSteps n (c ∷ κ) [] M = ⊥
NearSteps n (c ∷ κ) (s ∷ L) [] = ⊥
NearSteps n (c ∷ κ) (s ∷ L) (t ∷ M) = AlikeStep (NearWeight c) (NearEntry c) n s t × NearSteps n κ L M

-- the roundings of a minor, and how far its exponent reaches
abbrev pub spent : ℕ → List ℕ → ℕ
spent n [] = 0
spent n (c ∷ κ) = (2 + c) * (n * n - n) + n * (1 + c) + spent n κ

abbrev pub reached : ℕ → List ℕ → ℕ
reached n [] = 31
reached n (c ∷ κ) = 1035 * (n * n) + reached n κ

-- the sum of the counts
unfoldable pub sum_of : List ℕ → ℕ
sum_of [] = 0
sum_of (c ∷ κ) = c + sum_of κ

-- ONE OPERATION ON NUMBERS AND ON FRACTIONS
pub data Beside (n : ℕ) (κ : List ℕ) : Operation Number → Operation Fraction → Type 0 where
  by-steps : {L : List (Step Number)} {M : List (Step Fraction)} → NearSteps n κ L M → Beside n κ (joined L) (joined M)
  by-chosen : {b : Factors Number} {c : Factors Fraction} {P Q : RowSet} → NearSteps n κ (step plain b ∷ []) (step plain c ∷ [])
      → Beside n κ (submatrix b P Q) (submatrix c P Q)
  by_first : {b : Factors Number} {c : Factors Fraction} {k : ℕ} → NearSteps n κ (step plain b ∷ []) (step plain c ∷ []) → Beside n κ (schur b k) (schur c k)

module _ (n : ℕ) (some : 1 ≤ n) where
  abbrev NearStates : Grade → State rounded → State exact → Type 0
  NearStates g ω η = (S : RowSet) → length S ≡ n → NearBy g (ω S) (η S)

  -- one step
  step-near : (c : ℕ) (s : Step Number) (t : Step Fraction) → AlikeStep (NearWeight c) (NearEntry c) n s t → (g : Grade) (ω : State rounded) (η : State exact)
      → NearStates g ω η
      → NearStates (g.0 + ((2 + c) * (n * n - n) + n * (1 + c)), g.1 + 1035 * (n * n)) (walk rounded (step_word n s) ω) (walk exact (step_word n t) η)
  unfolding joined_word
  step-near c s t h g ω η r S l room =
      let W = step_word n s in
      let e : (after rounded exact Grade NearBy (near-related c) n W g).0 ≡ g.0 + total (letter_cost (2 + c) (n * (1 + c))) W =
      after-measure rounded exact Grade NearBy (near-related c) n (λ g. g.0) (2 + c) (1 + c) (λ g. refl) (λ g. refl) W g in
      let f : (after rounded exact Grade NearBy (near-related c) n W g).1 ≡ g.1 + total (letter_cost 1035 (n * 1035)) W =
      after-measure rounded exact Grade NearBy (near-related c) n (λ g. g.1) 1035 1035 (λ g. refl) (λ g. refl) W g in
      let u : total (letter_cost (2 + c) (n * (1 + c))) W ≡ 1 * ((2 + c) * (n * n - n) + n * (1 + c)) = joined-cost (2 + c) (n * (1 + c)) n (s ∷ []) some in
      let v : total (letter_cost 1035 (n * 1035)) W ≡ 1035 * (1 * (n * n)) = joined-square 1035 n (s ∷ []) some in
      near-more (omega (arith, e, u)) (omega (arith, f, v))
      (walk-related rounded exact Grade NearBy (near-related c) n W (step_word n t) (letters-joined (NearWeight c) (NearEntry c) n (s ∷ []) (t ∷ []) (h, tt))
      g ω η r S l (omega (arith, f, v)))

  -- joined
  joined-states : (κ : List ℕ) (L : List (Step Number)) (M : List (Step Fraction)) → NearSteps n κ L M → (ω : State rounded) (η : State exact)
      → NearStates (0, 31) ω η
      → NearStates (spent n κ, reached n κ) (walk rounded (joined_word n L) ω) (walk exact (joined_word n M) η)
  unfolding joined_word walk
  joined-states [] [] [] h ω η r S l room = near-more (omega arith) (omega arith) (r S l (omega arith))
  joined-states (c ∷ []) (s ∷ []) (t ∷ []) h ω η r S l room = near-more (omega arith) (omega arith) (step-near c s t h.0 (0, 31) ω η r S l (omega arith))
  joined-states (c ∷ d ∷ κ) (s ∷ s' ∷ L) (t ∷ t' ∷ M) h ω η r S l room =
      both (walk-append rounded (step_word n s) (joined_word n (s' ∷ L)) ω) (walk-append exact (step_word n t) (joined_word n (t' ∷ M)) η)
      (near-more (omega arith) (omega arith)
      (step-near c s t h.0 (spent n (d ∷ κ), reached n (d ∷ κ)) _ _ (joined-states (d ∷ κ) (s' ∷ L) (t' ∷ M) h.1 ω η r) S l (omega arith)))
    where
      both : {k q : ℕ} {α α' : State rounded} {β β' : State exact} → α ≡ α' → β ≡ β' → Near k q (α' S) (β' S) → Near k q (α S) (β S)
      both {k} {q} {α} {α'} {β} {β'} e f x = subst (λ a. Near k q (a S) (β S)) (sym e) (subst (λ b. Near k q (α' S) (b S)) (sym f) x)
  joined-states (c ∷ []) (s ∷ []) (t ∷ t' ∷ M) h ω η r S l room = absurd h.1
  joined-states (c ∷ []) (s ∷ s' ∷ L) (t ∷ M) h ω η r S l room = absurd h.1
  joined-states (c ∷ d ∷ κ) (s ∷ []) (t ∷ M) h ω η r S l room = absurd h.1
  joined-states (c ∷ d ∷ κ) (s ∷ s' ∷ L) (t ∷ []) h ω η r S l room = absurd h.1
  joined-states [] [] (t ∷ M) h ω η r S l room = elim h [ ]
  joined-states [] (s ∷ _) M h ω η r S l room = elim h [ ]
  joined-states (c ∷ []) [] M h ω η r S l room = elim h [ ]
  joined-states (c ∷ []) (s ∷ []) [] h ω η r S l room = elim h [ ]
  joined-states (c ∷ []) (s ∷ (s' ∷ L)) [] h ω η r S l room = elim h [ ]
  joined-states (c ∷ (d ∷ κ)) [] M h ω η r S l room = elim h [ ]
  joined-states (c ∷ (d ∷ κ)) (s ∷ []) [] h ω η r S l room = elim h [ ]
  joined-states (c ∷ (d ∷ κ)) (s ∷ (s' ∷ L)) [] h ω η r S l room = elim h [ ]

  start-near : (J : RowSet) → NearStates (0, 31) (one_at rounded J) (one_at exact J)
  unfolding one_at
  start-near J S l room = by (equal J S)
    where
      by : (t : Bool) → Near 0 31 (cond t rounded.one rounded.zero) (cond t exact.one exact.zero)
      by true = near-one
      by false = near-zero 31

  -- A MINOR, at any sets
  pub joined-near : (κ : List ℕ) (L : List (Step Number)) (M : List (Step Fraction)) → NearSteps n κ L M → Room (reached n κ) → (I J : RowSet) → length I ≡ n
      → Near (spent n κ) (reached n κ) (minor rounded (joined_word n L) I J) (minor exact (joined_word n M) I J)
  unfolding minor
  joined-near κ L M h room I J i = joined-states κ L M h (one_at rounded J) (one_at exact J) (start-near J) I i room

  module _ (κ : List ℕ) (room : 4 * reached n κ + 194 ≤ bias) where
    pub asked-near : (o : Operation Number) (x : Operation Fraction) → Beside n κ o x → Fit n x → (I J : RowSet) → length I ≡ size n x
        → Near (spent n κ) (reached n κ) (asked_minor rounded n o I J) (asked_minor exact n x I J)
    asked-near (joined L) (joined M) (by-steps h) f I J i = joined-near κ L M h (omega arith) I J i
    asked-near (submatrix b P Q) (submatrix c P' Q') (by-chosen h) f I J i =
        joined-near κ (step plain b ∷ []) (step plain c ∷ []) h (omega arith) _ _ (length-rows_of n (submatrix c P' Q') f I i)
    asked-near (schur b k) (schur c k') (by_first h) f I J i =
        joined-near κ (step plain b ∷ []) (step plain c ∷ []) h (omega arith) _ _ (length-rows_of n (schur c k') f I i)
    asked-near (joined L) (submatrix c P' Q') x8 f I J i = elim x8 [ ]
    asked-near (joined L) (schur c k') x9 f I J i = elim x9 [ ]
    asked-near (submatrix b P Q) (joined M) x7 f I J i = elim x7 [ ]
    asked-near (submatrix b P Q) (schur c k') x8 f I J i = elim x8 [ ]
    asked-near (schur b k) (joined M) x8 f I J i = elim x8 [ ]
    asked-near (schur b k) (submatrix c P' Q') x9 f I J i = elim x9 [ ]

    same_size : (o : Operation Number) (x : Operation Fraction) → Beside n κ o x → size n o ≡ size n x
    same_size (joined L) (joined M) (by-steps h) = refl
    same_size (submatrix b P Q) (submatrix c P' Q') (by-chosen h) = refl
    same_size (schur b k) (schur c k') (by_first h) = refl
    same_size (joined L) (submatrix c P' Q') x4 = elim x4 [ ]
    same_size (joined L) (schur c k') x5 = elim x5 [ ]
    same_size (submatrix b P Q) (joined M) x5 = elim x5 [ ]
    same_size (submatrix b P Q) (schur c k') x6 = elim x6 [ ]
    same_size (schur b k) (joined M) x6 = elim x6 [ ]
    same_size (schur b k) (submatrix c P' Q') x7 = elim x7 [ ]

    -- A NEW FACTOR
    module _ (o : Operation Number) (x : Operation Fraction) (b : Beside n κ o x) (fit : Fit n x)
        (below : Divisible exact (size n x) (asked_minor exact n x)) (above : Divisible exact (size n x) (λ I J. asked_minor exact n x J I)) where
      pub result-near : (i j : ℕ) → In (size n x) i → In (size n x) j
          → Near (4 * spent n κ + 3) (4 * reached n κ + 98) (result rounded n o i j) (result exact n x i j)
      unfolding result
      result-near i j u v =
          subst (λ k. Near (4 * spent n κ + 3) (4 * reached n κ + 98) (new_factor rounded k (asked_minor rounded n o) i j)
          (new_factor exact (size n x) (asked_minor exact n x) i j)) (sym (same_size o x b))
          (factor-near (spent n κ) (reached n κ) (size n x) room (asked_minor rounded n o) (asked_minor exact n x)
          (λ I J i j. asked-near o x b fit I J i) below above i j u v)

      -- no divisor is zero
      pub rounded-below : Divisible rounded (size n o) (asked_minor rounded n o)
      rounded-below =
          subst (λ k. Divisible rounded k (asked_minor rounded n o)) (sym (same_size o x b))
          (divisible-near (spent n κ) (reached n κ) (size n x) room _ _ (λ I J i j. asked-near o x b fit I J i) below)

      pub rounded-above : Divisible rounded (size n o) (λ I J. asked_minor rounded n o J I)
      rounded-above =
          subst (λ k. Divisible rounded k (λ I J. asked_minor rounded n o J I)) (sym (same_size o x b))
          (divisible-near (spent n κ) (reached n κ) (size n x) room _ _ (λ I J i j. asked-near o x b fit J I j) above)

-- THE COUNT: the bound returned, and 4n² times the sum of the sources' counts
pub spent-bound : (n : ℕ) → 1 ≤ n → (κ : List ℕ) → 4 * spent n κ + 3 ≡ bound_of (length κ) n + 4 * (n * n) * sum_of κ
unfolding sum_of
spent-bound n o [] = omega arith
spent-bound n o (c ∷ κ) =
    let s : (2 + c) * (n * n - n) + n * (1 + c) ≡ 2 * n * n - n + n * n * c = one n c (row-square n o) in
    let r = spent-bound n o κ in
    omega (arith, s, r)
  where
    square : (d n c : ℕ) → d + n ≡ n * n → (2 + c) * d + n * (1 + c) ≡ 2 * n * n - n + n * n * c
    square d n c e = let f : c * (d + n) ≡ c * (n * n) = ap (λ (t : ℕ). c * t) e in omega (arith, e, f)

    one : (n c : ℕ) → n ≤ n * n → (2 + c) * (n * n - n) + n * (1 + c) ≡ 2 * n * n - n + n * n * c
    one n c e = square (n * n - n) n c (omega arith)

module _ (n : ℕ) where
  reached-is : (κ : List ℕ) → reached n κ ≡ 31 + 1035 * (length κ * (n * n))
  reached-is [] = omega arith
  reached-is (c ∷ κ) = omega (arith, reached-is κ)

  -- six sources of eight rows have room
  pub reached-room : (κ : List ℕ) → n ≤ 8 → length κ ≤ 6 → 4 * reached n κ + 98 ≤ reach
  reached-room κ few six = let h : length κ * (n * n) ≤ 6 * (8 * 8) = mul-le-mul six (mul-le-mul few few) in omega (arith, reached-is κ, h)

  -- SOURCES WITHIN THEIR COUNTS of exact ones
  pub result-within : 1 ≤ n → n ≤ 8 → (κ : List ℕ) → length κ ≤ 6 → (o : Operation Number) (x : Operation Fraction) → Beside n κ o x → Fit n x
      → Divisible exact (size n x) (asked_minor exact n x) → Divisible exact (size n x) (λ I J. asked_minor exact n x J I)
      → (i j : ℕ) → In (size n x) i → In (size n x) j
      → Within (bound_of (length κ) n + 4 * (n * n) * sum_of κ) (value (result rounded n o i j)) (result exact n x i j)
  result-within some few κ six o x b f below above i j u v =
      subst (λ k. Within k (value (result rounded n o i j)) (result exact n x i j)) (spent-bound n some κ)
      (result-near n some κ (omega (arith, reached-room κ few six)) o x b f below above i j u v).within

  -- SOURCES TAKEN AS EXACT: no count
  abbrev pub no_counts : List (Step Number) → List ℕ
  no_counts [] = []
  no_counts (s ∷ L) = 0 ∷ no_counts L

  pub counts-length : (L : List (Step Number)) → length (no_counts L) ≡ length L
  counts-length [] = refl
  counts-length (s ∷ L) = omega (arith, counts-length L)

  pub counts-sum : (L : List (Step Number)) → sum_of (no_counts L) ≡ 0
  unfolding sum_of
  counts-sum [] = refl
  counts-sum (s ∷ L) = omega (arith, counts-sum L)

  near-steps : (L : List (Step Number)) → Sources (Walkable n) L → NearSteps n (no_counts L) L (each_steps value L)
  near-steps [] h = tt
  near-steps (step w b ∷ L) h = (
    alike (record {
      off = λ i j p q r s e. record { ranged = h.0.off i j (p, q) (r, s) e; within = within-refl (value (b i j)) };
      on = λ i p q. (near-stored (h.0.on i (p, q)), stored-positive (b i i) (h.0.on i (p, q)));
    }),
    near-steps L h.1,
  )

  pub near-exactly : (o : Operation Number) → Sources (Walkable n) (steps o) → Beside n (no_counts (steps o)) o (exactly o)
  near-exactly (joined L) h = by-steps (near-steps L h)
  near-exactly (submatrix b P Q) h = by-chosen (near-steps (step plain b ∷ []) h)
  near-exactly (schur b k) h = by_first (near-steps (step plain b ∷ []) h)
