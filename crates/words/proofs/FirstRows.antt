-- The rows 1 .. k joined to a set, whose own rows then count from k + 1 (with_first): its length and count (length-first, long-first, count-first), which rows
-- it has (has_first, has-own), its own rows put in and replaced (put-own, replaced-own), sets that are equal with them (equal-first); the first rows with them
-- (first_rows), they alone (first_alone), and none joined (first-none).
use mathlib.Core.Path.{◌≡◌, refl, sym, ap, ap₂, ◌∙◌}
use mathlib.Core.Bool.{Bool, true, false, cond}
use mathlib.Core.List.{[], ◌∷◌, append-nil}
use Prim.Native.Nat.{ℕ, zero, suc, ◌+◌, ◌≤◌, ◌<◌}
use native.Mathlib.Decide.{ℕ_discrete}
use native.Mathlib.Omega.{arith}
use lib.ListN.{length, length-append}
use borrow.Author.Tests.{eq-eqb, ne_eqb}
use Rattle.words.specs.RowSet.{In, RowSet, has, put, replaced, count, equal, rows, with_first}
use Rattle.words.proofs.RowSets.{has-top, has-under, put-top, put_under, length-put, length-rows, equal-same}
use Rattle.words.proofs.Runs.{rows_above, rows_last}
use Rattle.words.proofs.Chosen.{count-all}

-- the rows of a run from 1 are in it, and rows past a set's length are not
first-own : (m i : ℕ) → In m i → has i (rows m 1 m) ≡ true
first-own zero i p = absurd (omega (arith, p.0, p.1))
first-own (suc m) i p = ap (has i) (rows_last m 1 (omega arith)) ∙ elim (ℕ_discrete i (suc m)) [
  | yes e ↦ ap (λ j. has j (true ∷ rows m 1 m)) (e ∙ ap suc (sym (length-rows m 1 m))) ∙ has-top true (rows m 1 m)
  | no e ↦ has-under i true (rows m 1 m) (omega (arith, p.1, length-rows m 1 m)) ∙ first-own m i (p.0, omega (arith, p.1))
]

has-past : (S : RowSet) (i : ℕ) → length S < i → has i S ≡ false
unfolding has
has-past [] i l = refl
has-past (x ∷ S) i l = ap (λ t. cond t x (has i S)) (ne_eqb i (suc (length S)) (λ e. omega arith)) ∙ has-past S i (omega arith)

module _ (k : ℕ) where
  pub length-first : (I : RowSet) → length (with_first k I) ≡ k + length I
  length-first I = length-append I (rows k 1 k) ∙ omega (arith, length-rows k 1 k)

  pub long-first : {m : ℕ} (I : RowSet) → length I ≡ m → length (with_first k I) ≡ k + m
  long-first I e = length-first I ∙ ap (λ c. k + c) e

  pub count-first : (I : RowSet) → count (with_first k I) ≡ k + count I
  unfolding count
  count-first [] = count-all k ∙ omega arith
  count-first (true ∷ I) = omega (arith, count-first I)
  count-first (false ∷ I) = count-first I

  -- the rows 1 .. k are in it
  pub has_first : (I : RowSet) (i : ℕ) → In k i → has i (with_first k I) ≡ true
  has_first [] i p = first-own k i p
  has_first (x ∷ I) i p = has-under i x (with_first k I) (omega (arith, p.1, length-first I)) ∙ has_first I i p

  -- beyond them are the set's own
  pub has-own : (I : RowSet) (i : ℕ) → 1 ≤ i → has (k + i) (with_first k I) ≡ has i I
  unfolding has
  has-own [] i o = has-past (rows k 1 k) (k + i) (omega (arith, length-rows k 1 k))
  has-own (x ∷ I) i o = elim (ℕ_discrete i (suc (length I))) [
    | yes e ↦
        ap (λ t. cond t x (has (k + i) (with_first k I))) (eq-eqb (k + i) (suc (length (with_first k I))) (omega (arith, length-first I)))
        ∙ sym (ap (λ t. cond t x (has i I)) (eq-eqb i (suc (length I)) e))
    | no e ↦
        ap (λ t. cond t x (has (k + i) (with_first k I))) (ne_eqb (k + i) (suc (length (with_first k I))) (λ f. e (omega (arith, length-first I))))
        ∙ has-own I i o ∙ sym (ap (λ t. cond t x (has i I)) (ne_eqb i (suc (length I)) e))
  ]

  pub put-own : (I : RowSet) (i : ℕ) (y : Bool) → In (length I) i → put (k + i) y (with_first k I) ≡ with_first k (put i y I)
  put-own [] i y p = absurd (omega (arith, p.0, p.1))
  put-own (x ∷ I) i y p = elim (ℕ_discrete i (suc (length I))) [
    | yes e ↦
        let f : k + i ≡ suc (length (with_first k I)) = omega (arith, length-first I) in
        ap (λ m. put m y (x ∷ with_first k I)) f ∙ put-top y x (with_first k I) ∙ ap (with_first k) (sym (ap (λ m. put m y (x ∷ I)) e ∙ put-top y x I))
    | no e ↦
        put_under (k + i) y x (with_first k I) (omega (arith, p.1, length-first I)) ∙ ap (λ S. x ∷ S) (put-own I i y (p.0, omega (arith, p.1)))
        ∙ ap (with_first k) (sym (put_under i y x I (omega (arith, p.1))))
  ]

  pub replaced-own : (I : RowSet) (a o : ℕ) → In (length I) a → In (length I) o → replaced (k + a) (k + o) (with_first k I) ≡ with_first k (replaced a o I)
  replaced-own I a o p q =
      ap (put (k + o) true) (put-own I a false p) ∙ put-own (put a false I) o true (q.0, omega (arith, q.1, length-put a false I))

  pub equal-first : (I J : RowSet) → length I ≡ length J → equal (with_first k I) (with_first k J) ≡ equal I J
  unfolding equal
  equal-first [] [] e = equal-same (rows k 1 k)
  equal-first [] (y ∷ J) e = absurd (omega arith)
  equal-first (x ∷ I) [] e = absurd (omega arith)
  equal-first (true ∷ I) (true ∷ J) e = equal-first I J (omega arith)
  equal-first (false ∷ I) (false ∷ J) e = equal-first I J (omega arith)
  equal-first (true ∷ I) (false ∷ J) e = refl
  equal-first (false ∷ I) (true ∷ J) e = refl

-- the first j rows of m with them are the first k + j
pub first_rows : (k m j : ℕ) → j ≤ m → with_first k (rows m 1 j) ≡ rows (k + m) 1 (k + j)
unfolding rows
first_rows k zero j l =
    let e : k ≡ k + zero = omega arith in
    let f : j ≡ zero = omega arith in
    ap₂ (λ (a b : ℕ). rows a 1 b) e (e ∙ ap (λ (a : ℕ). k + a) (sym f))
first_rows k (suc m) j l =
    let e : suc (k + m) ≡ k + suc m = omega arith in
    elim (ℕ_discrete j (suc m)) [
      | yes f ↦
          ap (λ i. with_first k (rows (suc m) 1 i)) f ∙ ap (with_first k) (rows_last m 1 (omega arith)) ∙ ap (λ S. true ∷ S) (first_rows k m m (omega arith))
          ∙ sym (rows_last (k + m) 1 (omega arith)) ∙ ap₂ (λ (a b : ℕ). rows a 1 b) e (e ∙ ap (λ (a : ℕ). k + a) (sym f))
      | no f ↦
          ap (with_first k) (rows_above m 1 j (omega arith)) ∙ ap (λ S. false ∷ S) (first_rows k m j (omega arith))
          ∙ sym (rows_above (k + m) 1 (k + j) (omega arith)) ∙ ap (λ (a : ℕ). rows a 1 (k + j)) e
    ]

-- they alone
pub first_alone : (k m : ℕ) → with_first k (rows m 1 0) ≡ rows (k + m) 1 k
first_alone k m = let e : k + 0 ≡ k = omega arith in first_rows k m 0 (omega arith) ∙ ap (rows (k + m) 1) e

-- no rows joined
pub first-none : (I : RowSet) → with_first 0 I ≡ I
unfolding rows
first-none I = append-nil I
