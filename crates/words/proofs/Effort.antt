-- HOW MANY STEPS. A letter updates as many sets of k + 1 out of n rows as there are sets of k out of n - 2 (letter-updates), and none of no rows
-- (empty-updates); so an empty minor takes none (empty-steps), and the walk of a joined word what is foretold of its sizes (walk_steps_lem).
use mathlib.Core.Path.{◌≡◌, refl, sym, ap, ap₂, ◌∙◌}
use mathlib.Core.Bool.{Bool, true, false, not, cond, ◌&&◌}
use mathlib.Core.List.{List, [], ◌∷◌}
use Prim.Native.Nat.{ℕ, zero, suc, ◌+◌, ◌-◌, ◌*◌, ◌≤◌}
use native.Mathlib.Decide.{ℕ_discrete}
use native.Mathlib.Omega.{arith}
use borrow.Author.Tests.{eq-eqb, ne_eqb, eqb-true}
use lib.Dec.{eqb}
use lib.ListN.{length}
use Rattle.words.specs.RowSet.{RowSet, has, count}
use Rattle.words.specs.Word.{Letter, E, Et, D, Dinv, Word, total}
use Rattle.words.specs.Walk.{moves}
use Rattle.words.specs.Operation.{Step, joined_word}
use Rattle.words.specs.Effort.{sets_with, updated, letter_steps, walk_steps, choose, minor_foretold}
use Rattle.words.proofs.RowSets.{has-top, has-under, has-none}
use Rattle.words.proofs.Walks.{Rows, All}
use Rattle.words.proofs.Steps.{joined-rows}
use Rattle.words.proofs.Related.{letter_cost}
use Rattle.words.proofs.Counts.{joined-cost}

-- SETS THAT PASS A TEST
sets-agree : (n : ℕ) (t u : RowSet → Bool) → ((S : RowSet) → length S ≡ n → t S ≡ u S) → sets_with n t ≡ sets_with n u
unfolding sets_with
sets-agree zero t u h = ap (λ b. cond b 1 0) (h [] refl)
sets-agree (suc n) t u h = ap₂ ◌+◌ (sets-agree n _ _ (λ S s. h (true ∷ S) (ap suc s))) (sets-agree n _ _ (λ S s. h (false ∷ S) (ap suc s)))

no-sets : (n : ℕ) (t : RowSet → Bool) → ((S : RowSet) → length S ≡ n → t S ≡ false) → sets_with n t ≡ 0
unfolding sets_with
no-sets zero t h = ap (λ b. cond b 1 0) (h [] refl)
no-sets (suc n) t h = ap₂ ◌+◌ (no-sets n _ (λ S s. h (true ∷ S) (ap suc s))) (no-sets n _ (λ S s. h (false ∷ S) (ap suc s)))

eqb-suc : (a b : ℕ) → eqb (suc a) (suc b) ≡ eqb a b
eqb-suc a b =
    elim (ℕ_discrete a b) [
      | yes e ↦ eq-eqb (suc a) (suc b) (ap suc e) ∙ sym (eq-eqb a b e)
      | no e ↦ ne_eqb (suc a) (suc b) (λ f. e (omega arith)) ∙ sym (ne_eqb a b e)
    ]

never : (b : Bool) → (b && false) ≡ false
never true = refl
never false = refl

always : (b : Bool) → (b && true) ≡ b
always true = refl
always false = refl

-- the sets of k out of n rows
sets-choose : (n k : ℕ) → sets_with n (λ S. eqb (count S) k) ≡ choose n k
unfolding sets_with choose count
sets-choose zero zero = refl
sets-choose zero (suc k) = ap (λ b. cond b 1 0) (ne_eqb 0 (suc k) (λ f. omega arith))
sets-choose (suc n) zero = ap₂ ◌+◌ (no-sets n _ (λ S s. ne_eqb (suc (count S)) 0 (λ f. omega arith))) (sets-choose n zero)
sets-choose (suc n) (suc k) = ap₂ ◌+◌ (sets-agree n _ _ (λ S s. eqb-suc (count S) k) ∙ sets-choose n k) (sets-choose n (suc k))

-- UPDATED SETS
-- a set without rows has none to move
empty-updates : (n a o : ℕ) → updated n 0 a o ≡ 0
unfolding updated
empty-updates n a o = no-sets n _ (λ S s. by S (eqb (count S) 0) refl)
  where
    by : (S : RowSet) (b : Bool) → eqb (count S) 0 ≡ b → (b && moves a o S) ≡ false
    by S true e = ap (λ x. x && not (has o S)) (has-none a S (eqb-true (count S) 0 e))
    by S false e = refl

-- a row more, above both: it is in the set or not
module _ (a o : ℕ) where
  under : (n : ℕ) (x : Bool) (S : RowSet) → a ≤ n → o ≤ n → length S ≡ n → moves a o (x ∷ S) ≡ moves a o S
  under n x S p q s = ap₂ (λ y z. y && not z) (has-under a x S (omega arith)) (has-under o x S (omega arith))

  more-updates : (n k : ℕ) → a ≤ n → o ≤ n → updated (suc n) (suc k) a o ≡ updated n k a o + updated n (suc k) a o
  unfolding updated sets_with count
  more-updates n k p q =
      ap₂ ◌+◌
      (sets-agree n _ _ (λ S s. ap₂ ◌&&◌ (eqb-suc (count S) k) (under n true S p q s)))
      (sets-agree n _ _ (λ S s. ap (λ t. eqb (count S) (suc k) && t) (under n false S p q s)))

-- the two highest rows, of which a letter asks for one and not for the other (f): the other rows are any
module _ (m k a o : ℕ) (f : Bool → Bool → Bool) (asks : (x y : Bool) (S : RowSet) → length S ≡ m → moves a o (x ∷ y ∷ S) ≡ f x y) where
  -- the updated sets with x and y at the two rows: none, or those whose other rows are k
  abbrev kind : Bool → Bool → ℕ
  kind x y = sets_with m (λ S. eqb (count (x ∷ y ∷ S)) (suc k) && moves a o (x ∷ y ∷ S))

  none : (x y : Bool) → f x y ≡ false → kind x y ≡ 0
  none x y e = no-sets m _ (λ S s. ap (λ t. eqb (count (x ∷ y ∷ S)) (suc k) && t) (asks x y S s ∙ e) ∙ never (eqb (count (x ∷ y ∷ S)) (suc k)))

  some : (x y : Bool) → f x y ≡ true → ((S : RowSet) → count (x ∷ y ∷ S) ≡ suc (count S)) → kind x y ≡ choose m k
  some x y e c =
      sets-agree m _ _
      (λ S s. ap₂ ◌&&◌ (ap (λ i. eqb i (suc k)) (c S) ∙ eqb-suc (count S) k) (asks x y S s ∙ e) ∙ always (eqb (count S) k)) ∙ sets-choose m k

  top-updates : f true true ≡ false → f false false ≡ false → f true false ≡ not (f false true) → updated (suc (suc m)) (suc k) a o ≡ choose m k
  unfolding updated sets_with count
  top-updates both neither either = by (f false true) refl
    where
      by : (b : Bool) → f false true ≡ b → (kind true true + kind true false) + (kind false true + kind false false) ≡ choose m k
      by true e = ap₂ ◌+◌ (ap₂ ◌+◌ (none true true both) (none true false (either ∙ ap not e)))
          (ap₂ ◌+◌ (some false true e (λ S. refl)) (none false false neither)) ∙ omega arith
      by false e = ap₂ ◌+◌ (ap₂ ◌+◌ (none true true both) (some true false (either ∙ ap not e) (λ S. refl)))
          (ap₂ ◌+◌ (none false true e) (none false false neither)) ∙ omega arith

module _ (m : ℕ) where
  high : (x y : Bool) (S : RowSet) → length S ≡ m → has (suc (suc m)) (x ∷ y ∷ S) ≡ x
  high x y S s = ap (λ i. has (suc (suc i)) (x ∷ y ∷ S)) (sym s) ∙ has-top x (y ∷ S)

  low : (x y : Bool) (S : RowSet) → length S ≡ m → has (suc m) (x ∷ y ∷ S) ≡ y
  low x y S s = ap (λ i. has (suc i) (x ∷ y ∷ S)) (sym s) ∙ has-under (suc (length S)) x (y ∷ S) (omega arith) ∙ has-top y S

  top-raised : (k : ℕ) → updated (suc (suc m)) (suc k) (suc (suc m)) (suc m) ≡ choose m k
  top-raised k =
      top-updates m k (suc (suc m)) (suc m) (λ x y. x && not y) (λ x y S s. ap₂ (λ p q. p && not q) (high x y S s) (low x y S s)) refl refl refl

  top-lowered : (k : ℕ) → updated (suc (suc m)) (suc k) (suc m) (suc (suc m)) ≡ choose m k
  top-lowered k =
      top-updates m k (suc m) (suc (suc m)) (λ x y. y && not x) (λ x y S s. ap₂ (λ p q. p && not q) (low x y S s) (high x y S s)) refl refl refl

-- neighbours a and o, the higher of them row m + 2, and d rows above
module _ (a o m : ℕ) (la : a ≤ suc (suc m)) (lo : o ≤ suc (suc m)) (top : (k : ℕ) → updated (suc (suc m)) (suc k) a o ≡ choose m k) where
  above : (d n c k : ℕ) → n ≡ d + suc (suc m) → c ≡ d + m → updated n (suc k) a o ≡ choose c k
  unfolding choose
  above zero n c k e f =
      let g : n ≡ suc (suc m) = omega arith in
      let h : m ≡ c = omega arith in
      ap (λ i. updated i (suc k) a o) g ∙ top k ∙ ap (λ i. choose i k) h
  above (suc d) zero c k e f = absurd (omega arith)
  above (suc d) (suc n) zero k e f = absurd (omega arith)
  above (suc d) (suc n) (suc c) zero e f =
      more-updates a o n 0 (omega arith) (omega arith) ∙ ap₂ ◌+◌ (empty-updates n a o) (above d n c 0 (omega arith) (omega arith))
  above (suc d) (suc n) (suc c) (suc k) e f =
      more-updates a o n (suc k) (omega arith) (omega arith)
      ∙ ap₂ ◌+◌ (above d n c k (omega arith) (omega arith)) (above d n c (suc k) (omega arith) (omega arith))

-- raised by E j, lowered by Et j
both-updates : (n j k : ℕ) → 2 ≤ j → j ≤ n → (updated n (suc k) j (j - 1) ≡ choose (n - 2) k) × (updated n (suc k) (j - 1) j ≡ choose (n - 2) k)
both-updates n zero k l h = absurd (omega arith)
both-updates n (suc zero) k l h = absurd (omega arith)
both-updates n (suc (suc m)) k l h =
    let e : suc (suc m) - 1 ≡ suc m = omega arith in (
      ap (updated n (suc k) (suc (suc m))) e
          ∙ above (suc (suc m)) (suc m) m (omega arith) (omega arith) (top-raised m) (n - suc (suc m)) n (n - 2) k (omega arith) (omega arith),
      ap (λ i. updated n (suc k) i (suc (suc m))) e
          ∙ above (suc m) (suc (suc m)) m (omega arith) (omega arith) (top-lowered m) (n - suc (suc m)) n (n - 2) k (omega arith) (omega arith),
    )

-- A LETTER, AND A WALK
-- how many sets of p out of n rows a letter E or Et updates
abbrev pub letter_foretold : (n p : ℕ) → ℕ
letter_foretold n zero = 0
letter_foretold n (suc k) = choose (n - 2) k

module _ {A : Type 0} (n : ℕ) where
  pub letter-updates : (p : ℕ) (l : Letter A) → Rows n l → letter_steps n p l ≡ letter_cost (letter_foretold n p) 0 l
  letter-updates zero (E j w) h = empty-updates n j (j - 1)
  letter-updates zero (Et j w) h = empty-updates n (j - 1) j
  letter-updates (suc k) (E j w) h = (both-updates n j k h.0 h.1).0
  letter-updates (suc k) (Et j w) h = (both-updates n j k h.0 h.1).1
  letter-updates p (D e) h = refl
  letter-updates p (Dinv e) h = refl

  word-updates : (p : ℕ) (W : Word A) → All (Rows n) W → walk_steps n p W ≡ total (letter_cost (letter_foretold n p) 0) W
  unfolding total
  word-updates p [] h = refl
  word-updates p (l ∷ W) h = ap₂ ◌+◌ (letter-updates p l h.0) (word-updates p W h.1)

  -- AN EMPTY MINOR takes none
  pub empty-steps : (W : Word A) → walk_steps n 0 W ≡ 0
  unfolding total
  empty-steps [] = refl
  empty-steps (l ∷ W) = ap₂ ◌+◌ (none l) (empty-steps W)
    where
      none : (l : Letter A) → letter_steps n 0 l ≡ 0
      none (E j w) = empty-updates n j (j - 1)
      none (Et j w) = empty-updates n (j - 1) j
      none (D e) = refl
      none (Dinv e) = refl

  pub walk_steps_lem : (p : ℕ) (L : List (Step A)) → 1 ≤ n → walk_steps n p (joined_word n L) ≡ minor_foretold (length L) n p
  walk_steps_lem p L l = word-updates p (joined_word n L) (joined-rows n L) ∙ joined-cost (letter_foretold n p) 0 n L l ∙ by p
    where
      by : (p : ℕ) → length L * (letter_foretold n p * (n * n - n) + 0) ≡ minor_foretold (length L) n p
      by zero = omega arith
      by (suc k) = ap (λ i. length L * i) (omega arith)
