-- A minor from its start (joined-start) through the steps of a joined word, the last first (joined-next), within range (joined-working), to the number at
-- its row set (minor-held); the empty minor is 1 (minor-empty); the steps of a joined word as they are lent (joined_step).
use mathlib.Core.Path.{◌≡◌, refl, sym, ap, ap₂, ◌∙◌, subst}
use mathlib.Core.Bool.{Bool, true, false, not, cond, ◌&&◌}
use mathlib.Core.List.{List, [], ◌∷◌, map}
use Prim.Native.Nat.{ℕ, ◌+◌, ◌-◌, ◌*◌, ◌^◌, ◌≤◌, ◌<◌}
use native.Mathlib.Nat.{mul-le-mul, min-eq_left}
use native.Mathlib.Numerals.{add-one}
use native.Mathlib.Decide.{ℕ_discrete}
use native.Mathlib.Omega.{arith}
use borrow.Author.Tests.{eq-eqb, ne_eqb}
use lib.Dec.{T, eqb, leb, leb→le, eqb→eq}
use lib.ListN.{get_or, length, take, drop, set, replicate, length-map, length-take, length-drop, get_or-replicate, length-replicate, get_or-map}
use lib.Seq.{drop-cons, drop-length, get_or-take}
use Rattle.number.specs.Number.{rounded, zero_number, one_number}
use Rattle.number.specs.declared.Number.{Number}
use Rattle.number.proofs.Reach.{ranged-more}
use Rattle.fraction.specs.Arithmetic.{Arithmetic}
use Rattle.rowset.specs.Mask.{mask_has, count_to, mask_count, position_of}
use Rattle.rowset.proofs.Finite.{implies, implies-at, all, all-at}
use Rattle.rowset.proofs.Counts.{count-to, count_to-le, mask-count}
use Rattle.rowset.proofs.Masks.{mask-equal, of_mask-length}
use Rattle.rowset.proofs.Positions.{position-below}
use Rattle.words.specs.RowSet.{RowSet, has, count, equal, of_mask}
use Rattle.words.specs.Word.{Letter, E, Et, D, Dinv, Word}
use Rattle.words.specs.Walk.{State, one_at, moved, moved_if, scaled, act, walk, minor}
use Rattle.words.specs.Operation as words
use Rattle.words.specs.Operation.{step_word, joined_word}
use Rattle.words.proofs.RowSets.{has-none}
use Rattle.words.proofs.Steps.{sources-drop, step-rows, walk-joined}
use Rattle.words.specs.Sources.{Walkable, Sources}
use Rattle.words.proofs.Exponents.{walk-ranged}
use Rattle.table.specs.Table.{absent}
use Rattle.walk.specs.Lent.{step_at, numbered, steps_of}
use Rattle.walk.specs.declared.Joined.{Joined}
use Rattle.walk.specs.Held.{held_at, state_of, start_of, Agree, Working, step_reach}
use Rattle.walk.proofs.Held.{agree_trans, agree-masks, held_back}
use Rattle.walk.proofs.Walking.{walk-agree}
use Rattle.walk.proofs.Sweep.{below-256, held_same, held-other}

-- THE START
zeros : (s : ℕ) → s < 256 → held_at (replicate 70 zero_number) s ≡ zero_number
unfolding held_at
zeros s h = get_or-replicate 70 (position_of s) zero_number absent (position-below s h)

start-held : (n j s : ℕ) → n ≤ 8 → j < 2 ^ n → s < 2 ^ n → mask_count s ≡ mask_count j → held_at (start_of j) s ≡ cond (eqb j s) one_number zero_number
unfolding start_of
start-held n j s ln b l c = elim (ℕ_discrete j s) [
  | yes e ↦
      rw (eq-eqb j s e)
      (ap (held_at (set (replicate 70 zero_number) (position_of j) one_number)) (sym e)
      ∙ held_same (replicate 70 zero_number) j one_number (below-256 n j ln b) (length-replicate 70 zero_number))
  | no e ↦ rw (ne_eqb j s e) (held-other (replicate 70 zero_number) j s one_number c (λ f. e (sym f)) ∙ zeros s (below-256 n s ln l))
]

start-agree : (n j : ℕ) → n ≤ 8 → j < 2 ^ n → Agree n (mask_count j) (state_of (start_of j)) (one_at rounded (of_mask n j))
unfolding one_at
start-agree n j ln b =
    agree-masks n (mask_count j) (start_of j) (one_at rounded (of_mask n j)) ln
    (λ s l c. start-held n j s ln b l c ∙ ap (λ (x : Bool). cond x one_number zero_number) (sym (mask-equal n j s b l)))

-- before any step
pub joined-start : (n k j m : ℕ) (L : List (words.Step Number)) (v : List Number) → n ≤ 8 → j < 2 ^ n → k ≡ mask_count j → v ≡ start_of j → drop m L ≡ []
    → Agree n k (state_of v) (walk rounded (joined_word n (drop m L)) (one_at rounded (of_mask n j)))
unfolding joined_word walk
joined-start n k j m L v ln b ek ev e = rw (ek, ev, e) (start-agree n j ln b)

-- THE STEPS, the last first
pub joined-next : {n k : ℕ} (L : List (words.Step Number)) (s : words.Step Number) (c : ℕ) (ω η θ : State rounded) → n ≤ 8 → drop c L ≡ s ∷ drop (c + 1) L
    → Agree n k η (walk rounded (joined_word n (drop (c + 1) L)) ω) → Agree n k θ (walk rounded (step_word n s) η)
    → Agree n k θ (walk rounded (joined_word n (drop c L)) ω)
joined-next {n} {k} L s c ω η θ ln e p q =
    subst (Agree n k θ) (sym (ap (λ (M : List (words.Step Number)). walk rounded (joined_word n M) ω) e ∙ walk-joined rounded n s (drop (c + 1) L) ω))
    (agree_trans q (walk-agree ln (step_word n s) (step-rows n s) η (walk rounded (joined_word n (drop (c + 1) L)) ω) p))

-- the steps that a list of steps holds, from number c on
module _ {A : Type 0} (f : A → words.Step Number) (l : List A) (m : ℕ) (few : m ≤ length l) where
  pub steps-length : length (map f (take m l)) ≡ m
  steps-length = length-map (take m l) f ∙ length-take m l ∙ min-eq_left few

  pub steps-none : drop m (map f (take m l)) ≡ []
  steps-none = ap (λ (c : ℕ). drop c (map f (take m l))) (sym steps-length) ∙ drop-length (map f (take m l))

  pub steps_next : (c : ℕ) → c < m → (d : A) → drop c (map f (take m l)) ≡ f (get_or l c d) ∷ drop (c + 1) (map f (take m l))
  steps_next c h d =
      drop-cons (map f (take m l)) c (f d) (omega (arith, steps-length))
      ∙ ap₂ (λ (s : words.Step Number) (i : ℕ). s ∷ drop i (map f (take m l))) (get_or-map f (take m l) c d ∙ ap f (get_or-take m l c d h)) (sym (add-one c))

-- WITHIN RANGE
pub joined-working : (n k : ℕ) (L : List (words.Step Number)) (J : RowSet) → Sources (Walkable n) L → 1 ≤ n → n ≤ 8 → length L ≤ 6
    → (c : ℕ) → Working step_reach n k (walk rounded (joined_word n (drop c L)) (one_at rounded J))
joined-working n k L J walkable some ln six c =
    record {
      ranged = λ S e f.
          let M = drop c L in
          let g : length M ≤ 6 = omega (arith, length-drop c L) in
          let h : length M * (n * n) ≤ 6 * (8 * 8) = mul-le-mul g (mul-le-mul ln ln) in
          ranged-more (omega arith) (walk-ranged n M (sources-drop (Walkable n) L c walkable) some [] (joined_word n M) refl (omega arith) J S e);
    }

-- THE NUMBER AT I
pub minor-held : (n k i : ℕ) (L : List (words.Step Number)) (J : RowSet) (v : List Number) (p : ℕ) → n ≤ 8 → i < 2 ^ n → mask_count i ≡ k → p ≡ position_of i
    → Agree n k (state_of v) (walk rounded (joined_word n (drop 0 L)) (one_at rounded J)) → get_or v p absent ≡ minor rounded (joined_word n L) (of_mask n i) J
unfolding minor held_at
minor-held n k i L J v p ln b c e h =
    ap (λ (x : ℕ). get_or v x absent) e ∙ sym (held_back v n i b) ∙ h.same (of_mask n i) (of_mask-length n i) (mask-count n i ln b ∙ c)

-- THE EMPTY MINOR: no letter changes the number of a set without rows
none_equal : (S T : RowSet) → length S ≡ length T → count S ≡ 0 → count T ≡ 0 → equal S T ≡ true
unfolding equal count
none_equal [] [] e c d = refl
none_equal [] (y ∷ T) e c d = absurd (omega arith)
none_equal (x ∷ S) [] e c d = absurd (omega arith)
none_equal (true ∷ S) (y ∷ T) e c d = absurd (omega arith)
none_equal (false ∷ S) (true ∷ T) e c d = absurd (omega arith)
none_equal (false ∷ S) (false ∷ T) e c d = none_equal S T (omega arith) c d

module _ (K : Arithmetic) where
  open K use {Num, mul, div}

  none-moved : (a o : ℕ) (w : Num) (ω : State K) (S : RowSet) → count S ≡ 0 → moved K a o w ω S ≡ ω S
  unfolding moved
  none-moved a o w ω S e = ap (λ (b : Bool). moved_if K (b && not (has o S)) a o w ω S) (has-none a S e)

  none-scaled : (op : Num → Num → Num) (e : ℕ → Num) (S : RowSet) (x : Num) → count S ≡ 0 → scaled K op e S x ≡ x
  unfolding scaled count
  none-scaled op e [] x c = refl
  none-scaled op e (true ∷ S) x c = absurd (omega arith)
  none-scaled op e (false ∷ S) x c = none-scaled op e S x c

  none-act : (l : Letter Num) (ω : State K) (S : RowSet) → count S ≡ 0 → act K l ω S ≡ ω S
  unfolding act
  none-act (E j w) ω S e = none-moved j (j - 1) w ω S e
  none-act (Et j w) ω S e = none-moved (j - 1) j w ω S e
  none-act (D d) ω S e = none-scaled mul d S (ω S) e
  none-act (Dinv d) ω S e = none-scaled div d S (ω S) e

  none_walk : (W : Word Num) (ω : State K) (S : RowSet) → count S ≡ 0 → walk K W ω S ≡ ω S
  unfolding walk
  none_walk [] ω S e = refl
  none_walk (l ∷ W) ω S e = none-act l (walk K W ω) S e ∙ none_walk W ω S e

  pub minor-empty : (W : Word Num) (I J : RowSet) → length I ≡ length J → count I ≡ 0 → count J ≡ 0 → minor K W I J ≡ K.one
  unfolding minor one_at
  minor-empty W I J e c d = none_walk W (one_at K J) I c ∙ ap (λ (b : Bool). cond b K.one K.zero) (none_equal J I (sym e) d c)

pub empty-rows : mask_count 0 ≡ 0
unfolding mask_count count_to mask_has
empty-rows = refl

pub minor-none : (n i j : ℕ) (W : Word Number) → n ≤ 8 → i < 2 ^ n → j < 2 ^ n → mask_count i ≡ mask_count j → j ≡ 0
    → minor rounded W (of_mask n i) (of_mask n j) ≡ one_number
minor-none n i j W ln bi bj c z =
    let e : mask_count j ≡ 0 = ap mask_count z ∙ empty-rows in
    minor-empty rounded W (of_mask n i) (of_mask n j) (of_mask-length n i ∙ sym (of_mask-length n j)) (mask-count n i ln bi ∙ c ∙ e) (mask-count n j ln bj ∙ e)

-- a mask that is not 0 has rows, and at most n
some : ℕ → Bool
some s = implies (not (eqb s 0)) (leb 1 (mask_count s))

some-all : T (all 256 some)
unfolding some mask_count count_to mask_has
some-all = tt

pub rows-some : (n j : ℕ) → n ≤ 8 → j < 2 ^ n → (j ≡ 0 → ⊥) → 1 ≤ mask_count j
unfolding some
rows-some n j ln b z = leb→le _ _ (implies-at (not (eqb j 0)) _ (all-at 256 some some-all j (below-256 n j ln b)) (rw (ne_eqb j 0 z)))

pub rows_few : (n j : ℕ) → n ≤ 8 → j < 2 ^ n → mask_count j ≤ n
rows_few n j ln b = omega (arith, mask-count n j ln b, count-to n j, count_to-le n j)

-- THE STEPS OF A JOINED WORD with factors b
numbered-at : (c : ℕ) → c < 6 → get_or numbered c 0 ≡ c
numbered-at c h = eqb→eq _ _ (all-at 6 (λ i. eqb (get_or numbered i 0) i) tt c h)

module _ (j : Joined) (b : List ℕ) (six : j.count ≤ 6) where
  pub joined_length : length (steps_of j b) ≡ j.count
  joined_length = steps-length (step_at j b) numbered j.count six

  pub joined-none : drop j.count (steps_of j b) ≡ []
  joined-none = steps-none (step_at j b) numbered j.count six

  pub joined_step : (c : ℕ) → c < j.count → drop c (steps_of j b) ≡ step_at j b c ∷ drop (c + 1) (steps_of j b)
  joined_step c h = steps_next (step_at j b) numbered j.count six c h 0
      ∙ ap (λ (i : ℕ). step_at j b i ∷ drop (c + 1) (steps_of j b)) (numbered-at c (omega arith))
