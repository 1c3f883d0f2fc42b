-- WHERE NO MINOR IS ZERO the latest set is the run of rows just before row i (latest-run), and the rule with zeros is document 01's (old-factor), over any
-- arithmetic: every old result stays, bit for bit.
use mathlib.Core.Path.{◌≡◌, refl, sym, ap, ap₂, ◌∙◌, subst}
use mathlib.Core.Bool.{true, false, cond}
use Prim.Native.Nat.{ℕ, zero, suc, ◌+◌, ◌-◌, ◌≤◌, ◌<◌, min}
use native.Mathlib.Decide.{ℕ_discrete, dec_le}
use native.Mathlib.Omega.{arith}
use lib.ListN.{length}
use Rattle.fraction.specs.Arithmetic.{Arithmetic}
use Rattle.words.specs.RowSet.{In, RowSet, put, count, rows}
use Rattle.words.specs.Formula.{run_before, just_before, below_diagonal, new_factor, old_factor, latest_before, banded_below}
use Rattle.words.proofs.RowSets.{length-put, length-rows}
use Rattle.words.proofs.Runs.{rows_in, rows_out, rows-beyond, count-rows}
use Rattle.words.proofs.Formulas.{corner-is, length-latest_before, Candidate, latest-candidate, candidate-last, factors-related}
use Rattle.bands.proofs.Heights.{stands, above}
use Rattle.bands.proofs.Lattice.{above-count, before-le, not-after-equal}
use Rattle.bands.proofs.Chosen.{before-true, true-before}

-- the rows a .. b of n
above-past : (n a b x : ℕ) → n < a → above (rows n a b) x ≡ 0
unfolding rows
above-past zero a b x g = refl
above-past (suc n) a b x g = ap (λ S. above S x) (rows_out n a b (λ p q. omega arith)) ∙ above-past n a b x (omega arith)

one_more_lem : (p q : ℕ) → min p q + 1 ≡ min (p + 1) (q + 1)
one_more_lem p q = omega arith

min-zero : (p : ℕ) → min p 0 ≡ 0
min-zero p = omega arith

above-last : (n a x y s : ℕ) → a ≤ suc n → y ≡ min (suc n - a) (n - x) → s ≡ stands (suc n) x → y + s ≡ min (suc (suc n) - a) (suc n - x)
above-last n a x y s g p q = elim (dec_le x n) [
  | yes l ↦
      let u : s ≡ 1 = omega arith in
      let v : suc (suc n) - a ≡ suc n - a + 1 = omega arith in
      let w : suc n - x ≡ n - x + 1 = omega arith in
      ap₂ ◌+◌ p u ∙ one_more_lem (suc n - a) (n - x) ∙ ap₂ min (sym v) (sym w)
  | no l ↦
      let u : s ≡ 0 = omega arith in
      let v : n - x ≡ 0 = omega arith in
      let w : suc n - x ≡ 0 = omega arith in
      ap₂ ◌+◌ (p ∙ ap (min (suc n - a)) v ∙ min-zero (suc n - a)) u ∙ sym (ap (min (suc (suc n) - a)) w ∙ min-zero (suc (suc n) - a))
]

above-run : (n a b x : ℕ) → 1 ≤ a → b ≤ n → a ≤ suc b → above (rows n a b) x ≡ min (suc b - a) (b - x)
unfolding rows
above-run zero a b x o l h = omega arith
above-run (suc n) a b x o l h = elim (ℕ_discrete b (suc n)) [
  | yes e ↦ elim (dec_le a (suc n)) [
    | yes g ↦
        ap (λ S. above S x) (rows_in n a b g (omega arith))
        ∙ above-last n a x (above (rows n a b) x) (stands (suc (length (rows n a b))) x) g
        (ap (λ S. above S x) (rows-beyond n a b n (omega arith) (omega arith)) ∙ above-run n a n x o (omega arith) g)
        (ap (λ m. stands (suc m) x) (length-rows n a b))
        ∙ ap (λ m. min (suc m - a) (m - x)) (sym e)
    | no g ↦ ap (λ S. above S x) (rows_out n a b (λ p q. g p)) ∙ above-past n a b x (omega arith) ∙ omega arith
  ]
  | no e ↦ ap (λ S. above S x) (rows_out n a b (λ p q. e (omega arith))) ∙ above-run n a b x o (omega arith) h
]

least : (a p q : ℕ) → a ≤ p → a ≤ q → a ≤ min p q
least a p q h g = omega arith

module _ (K : Arithmetic) (k : ℕ) (M : RowSet → RowSet → K.Num)
    (nonzero : (I J : RowSet) → length I ≡ k → length J ≡ k → count I ≡ count J → K.is_zero (M I J) ≡ false) where
  open K use {is_zero}

  module _ (i j : ℕ) (o : 1 ≤ j) (l : j ≤ i) (p : i ≤ k) where
    abbrev run : RowSet
    run = run_before k i j

    run_is : (x : ℕ) → above run x ≡ min (j - 1) (i - 1 - x)
    run_is x =
        above-run k (i - j + 1) (i - 1) x (omega arith) (omega arith) (omega arith)
        ∙ ap (λ m. min m (i - 1 - x)) (let e : suc (i - 1) - (i - j + 1) ≡ j - 1 = omega arith in e)

    run-count : count run ≡ j - 1
    run-count = count-rows k (i - j + 1) (i - 1) (omega arith) (omega arith) ∙ (let e : suc (i - 1) - (i - j + 1) ≡ j - 1 = omega arith in e)

    run-candidate : Candidate K k M i j run
    run-candidate = record {
      before = true-before i run (omega arith) (run_is (i - 1) ∙ (let e : i - 1 - (i - 1) ≡ 0 = omega arith in omega (arith, e)));
      many = run-count;
      nonzero = nonzero run (rows k 1 (j - 1)) (length-rows k _ _) (length-rows k 1 (j - 1))
          (run-count ∙ sym (count-rows k 1 (j - 1) (omega arith) (omega arith) ∙ (let e : suc (j - 1) - 1 ≡ j - 1 = omega arith in e)));
    }

    -- THE LATEST SET IS THE RUN
    pub latest-run : latest_before K k M i j ≡ run_before k i j
    latest-run =
        let S : RowSet = latest_before K k M i j in
        let c = latest-candidate K k M i j run (length-rows k _ _) run-candidate in
        sym (not-after-equal S run (length-latest_before K k M i j ∙ sym (length-rows k _ _))
        (λ x. subst (λ m. above S x ≤ m) (sym (run_is x)) (least (above S x) (j - 1) (i - 1 - x) (omega (arith, above-count S x, c.many))
        (before-le S i x (before-true i S (omega arith) c.before))))
        (candidate-last K k M i j run (length-rows k _ _) run-candidate))

  -- BELOW THE DIAGONAL
  old_below : (i j : ℕ) → 1 ≤ j → j < i → i ≤ k → banded_below K k M i j ≡ below_diagonal K k (just_before k) M i j
  unfolding banded_below below_diagonal
  old_below i j o l p =
      ap (λ t. cond t K.zero (below_diagonal K k (latest_before K k) M i j))
      (ap (λ S. is_zero (M (put i true S) (rows k 1 j))) (latest-run i j o (omega arith) p)
      ∙ nonzero (put i true (run_before k i j)) (rows k 1 j) (length-put i true (run_before k i j) ∙ length-rows k _ _) (length-rows k 1 j) corner-count)
      ∙ ap₂ (λ S T. K.div (K.mul (M (put i true S) (rows k 1 j)) (M T (rows k 1 (j - 1))))
      (K.mul (M S (rows k 1 (j - 1))) (M (put (i - 1) true T) (rows k 1 j))))
      (latest-run i j o (omega arith) p) (latest-run (i - 1) j o (omega arith) (omega arith))
    where
      corner-count : count (put i true (run_before k i j)) ≡ count (rows k 1 j)
      corner-count =
          ap count (corner-is k i j o l p) ∙ count-rows k (i - j + 1) i (omega arith) p ∙ (let e : suc i - (i - j + 1) ≡ suc j - 1 = omega arith in e)
          ∙ sym (count-rows k 1 j (omega arith) (omega arith))

-- EVERY OLD RESULT STAYS
pub old-factor : (K : Arithmetic) (k : ℕ) (M : RowSet → RowSet → K.Num)
    → ((I J : RowSet) → length I ≡ k → length J ≡ k → count I ≡ count J → K.is_zero (M I J) ≡ false)
    → (i j : ℕ) → In k i → In k j → new_factor K k M i j ≡ old_factor K k M i j
old-factor K k M h =
    factors-related K K k ◌≡◌ (banded_below K k) (below_diagonal K k (just_before k)) M M (λ i p. refl) (old_below K k M h)
    (old_below K k (λ I J. M J I) (λ I J i j c. h J I j i (sym c)))
