-- WHAT AN OPERATION MAKES IS WHAT ITS SIZES FORETELL (steps-foretold): the sets R of a formula have as many rows as those just before (alone-steps,
-- with-steps), so that each factor takes the steps of two or four minors of so many rows, whatever the numbers are, zero or not (factor-foretold).
use mathlib.Core.Path.{◌≡◌, refl, sym, ap, ap₂, ◌∙◌}
use mathlib.Core.Bool.{Bool, true, false, cond, ◌&&◌}
use mathlib.Core.List.{[], ◌∷◌}
use Prim.Native.Nat.{ℕ, zero, suc, ◌+◌, ◌-◌, ◌≤◌, ◌<◌, min}
use native.Mathlib.Nat.{min-eq_left, min-eq_right}
use native.Mathlib.Decide.{ℕ_discrete}
use native.Mathlib.Omega.{arith}
use borrow.Author.Tests.{lt-ltb, ltb-true, ltb-false, eqb-false, leb-true}
use lib.Dec.{eqb, leb, ltb}
use lib.ListN.{length}
use Rattle.fraction.specs.Arithmetic.{Arithmetic}
use Rattle.number.proofs.Tests.{both}
use Rattle.words.specs.RowSet.{In, RowSet, put, count, all_before, rows}
use Rattle.words.specs.Formula.{latest_before, on_diagonal, below_diagonal, factor_by, factors_by, Divisible}
use Rattle.words.specs.Operation.{Operation, joined, submatrix, schur, steps, rows_of, size, Fit, asked_minor}
use Rattle.words.specs.Effort.{counted, factor_steps, steps_made, minor_foretold, four_steps, quotient_steps, walked_rows, steps_foretold}
use Rattle.words.proofs.RowSets.{length-put, length-rows, put-top, put_under}
use Rattle.words.proofs.Runs.{count-rows}
use Rattle.words.proofs.Chosen.{count-among}
use Rattle.words.proofs.FirstRows.{count-first}
use Rattle.words.proofs.Formulas.{Candidate, latest-candidate, length-latest_before}
use Rattle.words.proofs.Sums.{sums_same}
use Rattle.words.proofs.Effort.{walk_steps_lem}

-- ROWS BEFORE ROW i
pub rows_before : (k a b i : ℕ) → b < i → all_before i (rows k a b) ≡ true
unfolding all_before rows
rows_before zero a b i l = refl
rows_before (suc n) a b i l = by (leb a (suc n) && leb (suc n) b) refl (rows_before n a b i l)
  where
    by : (x : Bool) → (leb a (suc n) && leb (suc n) b) ≡ x → all_before i (rows n a b) ≡ true → all_before i (x ∷ rows n a b) ≡ true
    by true e h =
        let g : suc n ≤ b = leb-true (suc n) b (both (leb a (suc n)) (leb (suc n) b) e).1 in
        ap₂ ◌&&◌ (lt-ltb (suc (length (rows n a b))) i (omega (arith, length-rows n a b))) h
    by false e h = h

-- row i put to rows before it is one row more
pub count-put : (i : ℕ) (S : RowSet) → 1 ≤ i → i ≤ length S → all_before i S ≡ true → count (put i true S) ≡ suc (count S)
unfolding count all_before
count-put i [] l h b = absurd (omega arith)
count-put i (true ∷ S) l h b = absurd (let g = ltb-true (suc (length S)) i (both (ltb (suc (length S)) i) (all_before i S) b).0 in omega arith)
count-put i (false ∷ S) l h b =
    elim (ℕ_discrete i (suc (length S))) [
      | yes e ↦ ap (λ k. count (put k true (false ∷ S))) e ∙ ap count (put-top true false S)
      | no e ↦ ap count (put_under i true false S (omega arith)) ∙ count-put i S l (omega arith) b
    ]

-- ONE FACTOR. T gives the steps of minors, by how many rows they have
module _ (K : Arithmetic) (k : ℕ) (w : ℕ → ℕ) where
  abbrev Steps : (RowSet → RowSet → ℕ) → Type 0
  Steps T = (I J : RowSet) → length I ≡ k → length J ≡ k → count I ≡ count J → T I J ≡ w (count I)

  -- the minors M with these steps
  abbrev paired : (RowSet → RowSet → K.Num) → (RowSet → RowSet → ℕ) → RowSet → RowSet → K.Num × ℕ
  paired M T I J = (M I J, T I J)

  module _ (M : RowSet → RowSet → K.Num) (T : RowSet → RowSet → ℕ) (t : Steps T) (d : Divisible K k M) where
    -- with as many leading columns
    at : (I : RowSet) (p : ℕ) → length I ≡ k → p ≤ k → count I ≡ p → T I (rows k 1 p) ≡ w p
    at I p i l c =
        let f : count (rows k 1 p) ≡ p = count-rows k 1 p (omega arith) (omega arith) ∙ omega arith in
        t I (rows k 1 p) i (length-rows k 1 p) (omega arith) ∙ ap w c

    lead : (p : ℕ) → p ≤ k → T (rows k 1 p) (rows k 1 p) ≡ w p
    lead p l = at (rows k 1 p) p (length-rows k 1 p) l (count-rows k 1 p (omega arith) l ∙ omega arith)

    on-steps : (i : ℕ) → i ≤ k → (on_diagonal (counted K) k (paired M T) i).1 ≡ w i + w (i - 1)
    unfolding on_diagonal
    on-steps i l = ap₂ ◌+◌ (lead i l) (lead (i - 1) (omega arith))

    module _ (i j : ℕ) (low : 1 ≤ j) (order : j ≤ i) (high : i ≤ k) where
      abbrev chosen : RowSet
      chosen = latest_before (counted K) k (paired M T) i j

      candidate : Candidate (counted K) k (paired M T) i j chosen
      candidate =
          latest-candidate (counted K) k (paired M T) i j (rows k 1 (j - 1)) (length-rows k 1 (j - 1))
          (record {
            before = rows_before k 1 (j - 1) i (omega arith);
            many = count-rows k 1 (j - 1) (omega arith) (omega arith) ∙ omega arith;
            nonzero = d.leading (j - 1) (omega arith);
          })

      long : length chosen ≡ k
      long = length-latest_before (counted K) k (paired M T) i j

      alone-steps : T chosen (rows k 1 (j - 1)) ≡ w (j - 1)
      alone-steps = at chosen (j - 1) long (omega arith) candidate.many

      with-steps : T (put i true chosen) (rows k 1 j) ≡ w j
      with-steps =
          let e : count (put i true chosen) ≡ suc (count chosen) = count-put i chosen (omega arith) (omega (arith, long)) candidate.before in
          at (put i true chosen) j (length-put i true chosen ∙ long) (omega arith) (omega (arith, candidate.many))

    below_steps : (i j : ℕ) → 1 ≤ j → j < i → i ≤ k
        → (below_diagonal (counted K) k (latest_before (counted K) k) (paired M T) i j).1 ≡ four_steps w j
    unfolding below_diagonal
    below_steps i j low order high =
        ap₂ ◌+◌ (ap₂ ◌+◌ (with-steps i j low (omega arith) high) (alone-steps (i - 1) j low (omega arith) (omega arith)))
        (ap₂ ◌+◌ (alone-steps i j low (omega arith) high) (with-steps (i - 1) j low (omega arith) (omega arith)))

  -- the quotients' formula
  abbrev quotient : (RowSet → RowSet → K.Num × ℕ) → ℕ → ℕ → K.Num × ℕ
  quotient = below_diagonal (counted K) k (latest_before (counted K) k)

  module _ (M : RowSet → RowSet → K.Num) (T : RowSet → RowSet → ℕ) (t : Steps T) (d : Divisible K k M) (d' : Divisible K k (λ I J. M J I)) where
    factor-foretold : (i j : ℕ) → In k i → In k j → (factors_by (counted K) k quotient (paired M T) i j).1 ≡ quotient_steps w i j
    unfolding factors_by quotient_steps
    factor-foretold i j p q = by (eqb i j) (ltb j i) refl refl
      where
        lt : (i j : ℕ) → i ≤ j → (i ≡ j → ⊥) → i < j
        lt i j g f = elim (ℕ_discrete i j) [ yes e ↦ absurd (f e) | no e ↦ omega arith ]

        by : (x y : Bool) → eqb i j ≡ x → ltb j i ≡ y → (factor_by (counted K) k x y quotient (paired M T) i j).1
            ≡ cond x (w i + w (i - 1)) (four_steps w (min i j))
        by true y u v = on-steps M T t d i p.1
        by false true u v =
            let l = ltb-true j i v in
            below_steps M T t d i j q.0 l p.1 ∙ ap (four_steps w) (sym (min-eq_right (omega arith)))
        by false false u v =
            let l = lt i j (ltb-false j i v) (eqb-false i j u) in
            below_steps (λ I J. M J I) (λ I J. T J I) (λ I J x y e. t J I y x (sym e) ∙ ap w (sym e)) d' j i p.0 l q.1
            ∙ ap (four_steps w) (sym (min-eq_left (omega arith)))

-- AN OPERATION: its sets have as many rows as those of the formulas, and the clamped ones
asked-many : {A : Type 0} (n : ℕ) (o : Operation A) → Fit n o → (I : RowSet) → length I ≡ size n o → count (rows_of o I) ≡ walked_rows o (count I)
asked-many n (joined L) h I i = refl
asked-many n (submatrix b P Q) h I i = count-among P I i
asked-many n (schur b k) h I i = count-first k I

pub steps-foretold : (K : Arithmetic) (n : ℕ) (o : Operation K.Num) → 1 ≤ n → Fit n o
    → Divisible K (size n o) (asked_minor K n o) → Divisible K (size n o) (λ I J. asked_minor K n o J I) → steps_made K n o ≡ steps_foretold n o
unfolding steps_made factor_steps
steps-foretold K n o l h d d' =
    sums_same (size n o) _ _
    (factor-foretold K (size n o) (λ p. minor_foretold (length (steps o)) n (walked_rows o p)) (asked_minor K n o) _
    (λ I J i j e. walk_steps_lem n (count (rows_of o I)) (steps o) l ∙ ap (minor_foretold (length (steps o)) n) (asked-many n o h I i)) d d')
