-- THE FORMULAS OVER RELATED MINORS: where minors are related and zero together, the sets R are the same (latest-same), no divisor is zero where none of the
-- others is (divisible-related), and the new factors are related (new_factor-related); of equal minors all this is equal (divisible-equal, new_factor-equal).
-- R is one of the sets that it is sought among (latest-candidate), and none of them comes after it (candidate-last). The rows that document 01's formulas take,
-- as it writes them (corner-is, corner-before, before-is).
use mathlib.Core.Path.{◌≡◌, refl, sym, ap, ap₂, ◌∙◌, subst}
use mathlib.Core.Bool.{Bool, true, false, not, cond, ◌&&◌}
use Prim.Native.Nat.{ℕ, ◌+◌, ◌-◌, ◌≤◌, ◌<◌}
use native.Mathlib.Decide.{ℕ_discrete}
use native.Mathlib.Omega.{arith}
use lib.Dec.{eqb, ltb}
use lib.ListN.{length}
use borrow.Author.Tests.{eq-eqb, eqb-true, eqb-false, ltb-true, ltb-false, not-true}
use Rattle.fraction.specs.Arithmetic.{Arithmetic}
use Rattle.number.proofs.Tests.{both}
use Rattle.words.specs.RowSet.{In, RowSet, put, count, all_before, rows}
use Rattle.words.specs.Formula.{run_before, on_diagonal, below_diagonal, latest_before, banded_below, factor_by, factors_by, new_factor, Divisible}
use Rattle.words.proofs.RowSets.{length-put, length-rows}
use Rattle.words.proofs.Runs.{put-rows}
use Rattle.words.proofs.Latest.{NotAfter, length-latest, some-passes, latest-passes, latest-last, latest-equal}

-- the sets of the formula below the diagonal, as document 01 writes them
module _ (k i j : ℕ) (low : 1 ≤ j) (order : j < i) (high : i ≤ k) where
  pub corner-is : put i true (run_before k i j) ≡ rows k (i - j + 1) i
  corner-is = put-rows k (i - j + 1) i (omega arith) high (omega arith)

  pub corner-before : put (i - 1) true (run_before k (i - 1) j) ≡ rows k (i - j) (i - 1)
  corner-before =
      let e : i - 1 - j + 1 ≡ i - j = omega arith in
      put-rows k (i - 1 - j + 1) (i - 1) (omega arith) (omega arith) (omega arith) ∙ ap (λ a. rows k a (i - 1)) e

  pub before-is : run_before k (i - 1) j ≡ rows k (i - j) (i - 2)
  before-is =
      let e : i - 1 - j + 1 ≡ i - j = omega arith in
      let f : i - 1 - 1 ≡ i - 2 = omega arith in
      ap₂ (rows k) e f

pub length-latest_before : (A : Arithmetic) (k : ℕ) (M : RowSet → RowSet → A.Num) (i j : ℕ) → length (latest_before A k M i j) ≡ k
unfolding latest_before
length-latest_before A k M i j = length-latest k _

-- row i put to a set that is chosen before it
pub length-with : (A : Arithmetic) (k : ℕ) (M : RowSet → RowSet → A.Num) (i j : ℕ) → length (put i true (latest_before A k M i j)) ≡ k
length-with A k M i j = length-put i true _ ∙ length-latest_before A k M i j

-- R AS IT IS DEFINED: the latest of the sets of j - 1 rows, all before row i, whose minors with the columns 1 .. j - 1 are not zero
module _ (A : Arithmetic) (k : ℕ) (M : RowSet → RowSet → A.Num) (i j : ℕ) where
  pub record Candidate (S : RowSet) : Type 0 where
    pub before : all_before i S ≡ true
    pub many : count S ≡ j - 1
    pub nonzero : A.is_zero (M S (rows k 1 (j - 1))) ≡ false

  abbrev test : RowSet → Bool
  test S = all_before i S && (eqb (count S) (j - 1) && not (A.is_zero (M S (rows k 1 (j - 1)))))

  candidate-passes : (S : RowSet) → Candidate S → test S ≡ true
  candidate-passes S c = ap₂ ◌&&◌ c.before (ap₂ (λ x y. x && not y) (eq-eqb (count S) (j - 1) c.many) c.nonzero)

  passing-candidate : (S : RowSet) → test S ≡ true → Candidate S
  passing-candidate S e =
      let a = both (all_before i S) (eqb (count S) (j - 1) && not (A.is_zero (M S (rows k 1 (j - 1))))) e in
      let b = both (eqb (count S) (j - 1)) (not (A.is_zero (M S (rows k 1 (j - 1))))) a.1 in
      record { before = a.0; many = eqb-true (count S) (j - 1) b.0; nonzero = not-true _ b.1 }

  pub latest-candidate : (S : RowSet) → length S ≡ k → Candidate S → Candidate (latest_before A k M i j)
  unfolding latest_before
  latest-candidate S s c = passing-candidate _ (latest-passes k test (some-passes k test S s (candidate-passes S c)))

  pub candidate-last : (S : RowSet) → length S ≡ k → Candidate S → NotAfter S (latest_before A k M i j)
  unfolding latest_before
  candidate-last S s c = latest-last k test S s (candidate-passes S c)

-- ONE FACTOR by its place: on the diagonal, below it, above it
module _ (A B : Arithmetic) (k : ℕ) (R : A.Num → B.Num → Type 0)
    (F : (RowSet → RowSet → A.Num) → ℕ → ℕ → A.Num) (G : (RowSet → RowSet → B.Num) → ℕ → ℕ → B.Num)
    (M : RowSet → RowSet → A.Num) (N : RowSet → RowSet → B.Num)
    (on : (i : ℕ) → In k i → R (on_diagonal A k M i) (on_diagonal B k N i))
    (below : (i j : ℕ) → 1 ≤ j → j < i → i ≤ k → R (F M i j) (G N i j))
    (above : (i j : ℕ) → 1 ≤ j → j < i → i ≤ k → R (F (λ I J. M J I) i j) (G (λ I J. N J I) i j)) where
  pub factors-related : (i j : ℕ) → In k i → In k j → R (factors_by A k F M i j) (factors_by B k G N i j)
  unfolding factors_by
  factors-related i j p q = by (eqb i j) (ltb j i) refl refl
    where
      lt : (i j : ℕ) → i ≤ j → (i ≡ j → ⊥) → i < j
      lt i j g f = elim (ℕ_discrete i j) [ yes e ↦ absurd (f e) | no e ↦ omega arith ]

      by : (s t : Bool) → eqb i j ≡ s → ltb j i ≡ t → R (factor_by A k s t F M i j) (factor_by B k s t G N i j)
      by true t u v = on i p
      by false true u v = below i j q.0 (ltb-true j i v) p.1
      by false false u v = above j i p.0 (lt i j (ltb-false j i v) (eqb-false i j u)) q.1

-- THE FORMULAS: minors in P, new factors in R
module _ (A B : Arithmetic) (k : ℕ) (P R : A.Num → B.Num → Type 0)
    (zeros : (x : A.Num) (y : B.Num) → P x y → A.is_zero x ≡ B.is_zero y)
    (nothing : R A.zero B.zero)
    (quotients : (x₁ x₂ x₃ x₄ : A.Num) (y₁ y₂ y₃ y₄ : B.Num) → P x₁ y₁ → P x₂ y₂ → P x₃ y₃ → P x₄ y₄ → B.is_zero y₃ ≡ false → B.is_zero y₄ ≡ false
    → R (A.div (A.mul x₁ x₂) (A.mul x₃ x₄)) (B.div (B.mul y₁ y₂) (B.mul y₃ y₄)))
    (ratios : (x x' : A.Num) (y y' : B.Num) → P x y → P x' y' → B.is_zero y' ≡ false → R (A.div x x') (B.div y y')) where
  -- minors related at sets of k rows
  abbrev pub Minors : (RowSet → RowSet → A.Num) → (RowSet → RowSet → B.Num) → Type 0
  Minors M N = (I J : RowSet) → length I ≡ k → length J ≡ k → P (M I J) (N I J)

  module _ (M : RowSet → RowSet → A.Num) (N : RowSet → RowSet → B.Num) (h : Minors M N) where
    -- the sets are the same
    pub latest-same : (i j : ℕ) → latest_before A k M i j ≡ latest_before B k N i j
    unfolding latest_before
    latest-same i j = latest-equal k _ _
        (λ S s. ap (λ t. all_before i S && (eqb (count S) (j - 1) && not t)) (zeros _ _ (h S (rows k 1 (j - 1)) s (length-rows k 1 (j - 1)))))

    at : (S : RowSet) (j : ℕ) → length S ≡ k → P (M S (rows k 1 j)) (N S (rows k 1 j))
    at S j s = h S (rows k 1 j) s (length-rows k 1 j)

    -- at the set chosen before row i, alone and with row i
    chosen_at : (i j m : ℕ) → P (M (latest_before A k M i j) (rows k 1 m)) (N (latest_before B k N i j) (rows k 1 m))
    chosen_at i j m =
        subst (λ S. P (M (latest_before A k M i j) (rows k 1 m)) (N S (rows k 1 m))) (latest-same i j) (at _ m (length-latest_before A k M i j))

    with_at : (i j m : ℕ) → P (M (put i true (latest_before A k M i j)) (rows k 1 m)) (N (put i true (latest_before B k N i j)) (rows k 1 m))
    with_at i j m =
        subst (λ S. P (M (put i true (latest_before A k M i j)) (rows k 1 m)) (N (put i true S) (rows k 1 m))) (latest-same i j)
        (at _ m (length-with A k M i j))

    -- and so are the divisors that are not zero
    pub divisible-related : Divisible B k N → Divisible A k M
    divisible-related d = record {
      leading = λ j l. zeros _ _ (at (rows k 1 j) j (length-rows k 1 j)) ∙ d.leading j l;
      run = λ i j o l p. zeros _ _ (chosen_at i j (j - 1)) ∙ d.run i j o l p;
      before = λ i j o l p e. zeros _ _ (with_at (i - 1) j j) ∙ d.before i j o l p (sym (zeros _ _ (with_at i j j)) ∙ e);
    }

    pub below-related : Divisible B k N → (i j : ℕ) → 1 ≤ j → j < i → i ≤ k → R (banded_below A k M i j) (banded_below B k N i j)
    unfolding banded_below below_diagonal
    below-related d i j o l p =
        subst (λ t. R (cond t A.zero (below_diagonal A k (latest_before A k) M i j)) (banded_below B k N i j)) (sym (zeros _ _ (with_at i j j)))
        (by (B.is_zero (N (put i true (latest_before B k N i j)) (rows k 1 j))) refl)
      where
        by : (t : Bool) → B.is_zero (N (put i true (latest_before B k N i j)) (rows k 1 j)) ≡ t
            → R (cond t A.zero (below_diagonal A k (latest_before A k) M i j)) (cond t B.zero (below_diagonal B k (latest_before B k) N i j))
        by true e = nothing
        by false e = quotients _ _ _ _ _ _ _ _ (with_at i j j) (chosen_at (i - 1) j (j - 1)) (chosen_at i j (j - 1)) (with_at (i - 1) j j)
            (d.run i j o l p) (d.before i j o l p e)

    pub diagonal-related : Divisible B k N → (i : ℕ) → In k i → R (on_diagonal A k M i) (on_diagonal B k N i)
    unfolding on_diagonal
    diagonal-related d i p =
        ratios _ _ _ _ (at _ i (length-rows k 1 i)) (at _ (i - 1) (length-rows k 1 (i - 1))) (d.leading (i - 1) (omega (arith, p.1)))

  -- THE NEW FACTORS ARE RELATED
  pub new_factor-related : (M : RowSet → RowSet → A.Num) (N : RowSet → RowSet → B.Num) → Minors M N → Divisible B k N → Divisible B k (λ I J. N J I)
      → (i j : ℕ) → In k i → In k j → R (new_factor A k M i j) (new_factor B k N i j)
  new_factor-related M N h d d' =
      factors-related A B k R (banded_below A k) (banded_below B k) M N (diagonal-related M N h d) (below-related M N h d)
      (below-related (λ I J. M J I) (λ I J. N J I) (λ I J x y. h J I y x) d')

-- EQUAL MINORS
module _ (K : Arithmetic) (k : ℕ) (M N : RowSet → RowSet → K.Num) (same : (I J : RowSet) → length I ≡ k → length J ≡ k → M I J ≡ N I J) where
  quotients_equal : (x₁ x₂ x₃ x₄ y₁ y₂ y₃ y₄ : K.Num) → x₁ ≡ y₁ → x₂ ≡ y₂ → x₃ ≡ y₃ → x₄ ≡ y₄ → K.is_zero y₃ ≡ false → K.is_zero y₄ ≡ false
      → K.div (K.mul x₁ x₂) (K.mul x₃ x₄) ≡ K.div (K.mul y₁ y₂) (K.mul y₃ y₄)
  quotients_equal x₁ x₂ x₃ x₄ y₁ y₂ y₃ y₄ e₁ e₂ e₃ e₄ z₃ z₄ = ap₂ K.div (ap₂ K.mul e₁ e₂) (ap₂ K.mul e₃ e₄)

  pub divisible-equal : Divisible K k N → Divisible K k M
  divisible-equal =
      divisible-related K K k ◌≡◌ ◌≡◌ (λ x y e. ap K.is_zero e) refl quotients_equal (λ x x' y y' e e' z. ap₂ K.div e e') M N same

  pub new_factor-equal : Divisible K k N → Divisible K k (λ I J. N J I) → (i j : ℕ) → In k i → In k j → new_factor K k M i j ≡ new_factor K k N i j
  new_factor-equal =
      new_factor-related K K k ◌≡◌ ◌≡◌ (λ x y e. ap K.is_zero e) refl quotients_equal (λ x x' y y' e e' z. ap₂ K.div e e') M N same
