-- THE RULE AS DOCUMENT 02 (e) WRITES IT: the set that it takes is the highest (latest-chosen), and what it gives is by the rule (banded-by-rule).
use mathlib.Core.Path.{◌≡◌, refl, sym, ap, ap₂, ◌∙◌, subst, fun_ext}
use mathlib.Core.Bool.{Bool, true, false, cond, ◌&&◌, false≢true}
use mathlib.Core.List.{[], ◌∷◌}
use Prim.Native.Nat.{ℕ, suc, ◌-◌, ◌≤◌, ◌<◌}
use native.Mathlib.Omega.{arith}
use lib.Dec.{ltb}
use lib.ListN.{length}
use borrow.Author.Tests.{lt-ltb, ltb-true}
use Rattle.fraction.specs.Arithmetic.{Arithmetic}
use Rattle.fraction.specs.Ring.{CRing, Ordered, arithmetic}
use Rattle.fraction.proofs.Ring.{ring, *-one, one-*, zero-*}
use Rattle.fraction.proofs.Ordered.{pos-nonzero, nonzero-mul, inv-mul-pos, quotient-unique}
use Rattle.words.specs.RowSet.{RowSet, put, count, all_before, rows}
use Rattle.words.specs.Formula.{below_diagonal, latest_before, banded_below}
use Rattle.words.proofs.RowSets.{length-put, length-rows}
use Rattle.words.proofs.Formulas.{length-latest_before, Candidate, latest-candidate, candidate-last}
use Rattle.minors.specs.Matrix.{Matrix}
use Rattle.minors.proofs.Determinant.{determinant}
use Rattle.bands.proofs.Heights.{above, above_rows}
use Rattle.bands.proofs.Nonzero.{positive-present, present-positive, absent-zero}
use Rattle.bands.proofs.Lattice.{Before, Stands, Highest, leading, latest-highest}
use Rattle.bands.proofs.Banded.{Zeroed, value_of, ByRule, under-positive, before-positive, value-times}

-- all rows before row i: none above row i - 1
pub before-true : (i : ℕ) (S : RowSet) → 1 ≤ i → all_before i S ≡ true → Before i S
unfolding all_before
before-true i [] o h = refl
before-true i (true ∷ S) o h = by (ltb (suc (length S)) i) refl h (before-true i S o)
  where
    by : (t : Bool) → ltb (suc (length S)) i ≡ t → t && all_before i S ≡ true → (all_before i S ≡ true → above S (i - 1) ≡ 0) → above (true ∷ S) (i - 1) ≡ 0
    by true e h f = omega (arith, ltb-true (suc (length S)) i e, f h)
    by false e h f = absurd (false≢true h)
before-true i (false ∷ S) o h = before-true i S o h

pub true-before : (i : ℕ) (S : RowSet) → 1 ≤ i → Before i S → all_before i S ≡ true
unfolding all_before
true-before i [] o b = refl
true-before i (true ∷ S) o b = ap₂ ◌&&◌ (lt-ltb (suc (length S)) i (omega arith)) (true-before i S o (omega arith))
true-before i (false ∷ S) o b = true-before i S o b

module _ (K : CRing) (O : Ordered K) (k : ℕ) (A : Matrix K) (Z : Zeroed K O k A)
    (counts : (j : ℕ) (I : RowSet) → length I ≡ k → Z.Rel (λ x. j - x) (above I) → count I ≡ j)
    (M : RowSet → RowSet → K.R) (is : (I : RowSet) (j : ℕ) → length I ≡ k → j ≤ k → M I (rows k 1 j) ≡ determinant K A I (rows k 1 j)) where
  open K use {R, 𝟘, 𝟙, add as ◌+◌, mul as ◌*◌}
  open O use {Pos, pos-mul, inv, inv-pos, is_zero}

  infixl 70 ◌*◌
  abbrev F : Arithmetic
  F = arithmetic K O

  abbrev C : ℕ → ℕ → RowSet
  C = latest_before F k M

  module _ (i j : ℕ) (o : 1 ≤ j) (l : j ≤ i) (p : i ≤ k) where
    -- the sets that R is sought among are those before row i that stand
    stands-candidate : (T : RowSet) → length T ≡ k → Before i T → Stands k Z.Rel Z.closed Z.whole (j - 1) T → Candidate F k M i j T
    stands-candidate T t b s = record {
      before = true-before i T (omega arith) b;
      many = counts (j - 1) T t s;
      nonzero = positive-present K O _ (subst Pos (sym (is T (j - 1) t (omega arith))) (Z.from (j - 1) T (omega arith) t s));
    }

    candidate-stands : (T : RowSet) → length T ≡ k → Candidate F k M i j T → Before i T × Stands k Z.Rel Z.closed Z.whole (j - 1) T
    candidate-stands T t c = (
      before-true i T (omega arith) c.before,
      Z.to (j - 1) T (omega arith) t
          (present-positive K O _ (Z.nonnegative (j - 1) T (omega arith) t) (ap is_zero (sym (is T (j - 1) t (omega arith))) ∙ c.nonzero)),
    )

    -- THE SET TAKEN IS THE HIGHEST
    pub latest-chosen : Highest k Z.Rel Z.closed Z.whole i j (C i j)
    latest-chosen =
        let e : (x : ℕ) → above (rows k 1 (j - 1)) x ≡ j - 1 - x = λ x. above_rows k (j - 1) x (omega arith) in
        let c : Candidate F k M i j (rows k 1 (j - 1)) = stands-candidate (rows k 1 (j - 1)) (length-rows k 1 (j - 1)) (omega (arith, e (i - 1)))
        (subst (Z.Rel (λ x. j - 1 - x)) (sym (fun_ext e)) (leading k Z.Rel Z.closed Z.whole (j - 1) (omega arith))) in
        let f = candidate-stands (C i j) (length-latest_before F k M i j) (latest-candidate F k M i j (rows k 1 (j - 1)) (length-rows k 1 (j - 1)) c) in
        latest-highest k Z.Rel Z.closed Z.whole i j (C i j) (length-latest_before F k M i j) f.0 f.1
        (λ T t b s. candidate-last F k M i j T t (stands-candidate T t b s))

  -- (a / b) / (c / d) is (a d) / (b c)
  cross : (a b c d : R) → Pos b → Pos c → Pos d → (a * d) * inv (b * c) ≡ (a * inv b) * inv (c * inv d)
  cross a b c d pb pc pd =
      sym (quotient-unique K O (a * d) (b * c) _ (nonzero-mul K O b c (pos-nonzero K O b pb) (pos-nonzero K O c pc))
      (regroup a (inv b) (inv (c * inv d)) b c ∙ ap₂ (λ y z. a * y * z) (inv-mul-pos K O b pb) half ∙ ap (λ y. y * d) (*-one K a)))
    where
      regroup : (a i x b c : R) → a * i * x * (b * c) ≡ a * (b * i) * (c * x)
      regroup a i x b c = simp ring

      apart : (c x d i : R) → c * x * (d * i) ≡ (c * i) * x * d
      apart c x d i = simp ring

      half : c * inv (c * inv d) ≡ d
      half = sym (*-one K _) ∙ ap (λ y. c * inv (c * inv d) * y) (sym (inv-mul-pos K O d pd)) ∙ apart c (inv (c * inv d)) d (inv d)
          ∙ ap (λ y. y * d) (inv-mul-pos K O (c * inv d) (pos-mul _ _ pc (inv-pos d pd))) ∙ one-* K d

  -- WHAT THE FORMULA GIVES IS BY THE RULE
  pub banded-by-rule : (g : ℕ → ℕ → R) (i j : ℕ) → 1 ≤ j → j < i → i ≤ k → g i j ≡ banded_below F k M i j → ByRule K O k A C g i j
  unfolding banded_below below_diagonal
  banded-by-rule g i j o l p e = record {
    zero = λ z.
        e ∙ ap (λ t. cond t 𝟘 (below_diagonal F k (latest_before F k) M i j))
        (absent-zero K O _ (corner ∙ value-times K O k A Z C highest i j o (omega arith) p ∙ ap (λ y. y * determinant K A (C i j) (rows k 1 (j - 1))) z
        ∙ zero-* K _));
    positive = λ q. e ∙ ap (λ t. cond t 𝟘 (below_diagonal F k (latest_before F k) M i j)) (positive-present K O _ (corner-positive q))
        ∙ ap₂ (λ x y. x * inv y) (ap₂ ◌*◌ corner before) (ap₂ ◌*◌ run corner')
        ∙ cross _ _ _ _ (under i j o (omega arith) p) (over (i - 1) j o (omega arith) (omega arith) (before-positive K O k A Z C highest i j o l p q))
        (under (i - 1) j o (omega arith) (omega arith));
  }
    where
      highest : (i j : ℕ) → 1 ≤ j → j ≤ i → i ≤ k → Highest k Z.Rel Z.closed Z.whole i j (C i j)
      highest = latest-chosen

      under : (i j : ℕ) → 1 ≤ j → j ≤ i → i ≤ k → Pos (determinant K A (C i j) (rows k 1 (j - 1)))
      under = under-positive K O k A Z C highest

      over : (i j : ℕ) → 1 ≤ j → j ≤ i → i ≤ k → Pos (value_of K O k A C i j) → Pos (determinant K A (put i true (C i j)) (rows k 1 j))
      over i j o l p q = subst Pos (sym (value-times K O k A Z C highest i j o l p)) (pos-mul _ _ q (under i j o l p))

      corner : M (put i true (C i j)) (rows k 1 j) ≡ determinant K A (put i true (C i j)) (rows k 1 j)
      corner = is _ j (length-put i true (C i j) ∙ (highest i j o (omega arith) p).size) (omega arith)

      before : M (C (i - 1) j) (rows k 1 (j - 1)) ≡ determinant K A (C (i - 1) j) (rows k 1 (j - 1))
      before = is _ (j - 1) (highest (i - 1) j o (omega arith) (omega arith)).size (omega arith)

      run : M (C i j) (rows k 1 (j - 1)) ≡ determinant K A (C i j) (rows k 1 (j - 1))
      run = is _ (j - 1) (highest i j o (omega arith) p).size (omega arith)

      corner' : M (put (i - 1) true (C (i - 1) j)) (rows k 1 j) ≡ determinant K A (put (i - 1) true (C (i - 1) j)) (rows k 1 j)
      corner' = is _ j (length-put (i - 1) true (C (i - 1) j) ∙ (highest (i - 1) j o (omega arith) (omega arith)).size) (omega arith)

      corner-positive : Pos (value_of K O k A C i j) → Pos (M (put i true (C i j)) (rows k 1 j))
      corner-positive q = subst Pos (sym corner) (over i j o (omega arith) p q)
