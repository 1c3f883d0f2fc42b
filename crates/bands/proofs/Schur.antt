-- SCHUR'S FORMULA. With a left inverse Y of the leading block of a matrix, the minor of the first k rows and columns and one more of each is the complement's
-- entry times the leading minor (schur-formula): a combination of rows kills the first k columns, and on one more gives that entry. A matrix has one Schur
-- complement (schur-same).
use mathlib.Core.Path.{◌≡◌, refl, sym, ap, ap₂, ◌∙◌}
use mathlib.Core.Bool.{Bool, true, false, cond, true≢false}
use mathlib.Core.List.{[], ◌∷◌, ◌++◌}
use Prim.Native.Nat.{ℕ, zero, suc, ◌-◌, ◌≤◌, ◌+◌ as ◌+ℕ◌}
use native.Mathlib.Decide.{dec_le}
use native.Mathlib.Omega.{arith}
use lib.Dec.{leb}
use lib.ListN.{length, length-append}
use borrow.Author.Tests.{eq-eqb, ne_eqb, lt-leb}
use Rattle.fraction.specs.Ring.{CRing}
use Rattle.fraction.proofs.Ring.{ring, +-zero, +-neg}
use Rattle.words.specs.RowSet.{In, RowSet, has, put, rows, with_first}
use Rattle.words.proofs.RowSets.{length-rows}
use Rattle.words.proofs.Runs.{rows_last, rows-own, rows_none, rows_empty, put-rows}
use Rattle.words.proofs.FirstRows.{long-first, has_first, put-own, first_alone}
use Rattle.minors.specs.Matrix.{Matrix, Equal, identity, sum, times}
use Rattle.minors.proofs.Sums.{sum-equal, sum-add, sum-short, sum-neg}
use Rattle.minors.proofs.Products.{identity-sum, times-assoc, times-identity, times-equal-right}
use Rattle.minors.proofs.Determinant.{wedges, columns, determinant}
use Rattle.minors.proofs.Inverse.{inverse-unique}
use Rattle.bands.specs.Schur.{lower_left, schur_by, SchurComplement}
use Rattle.bands.proofs.Heights.{above, above_rows}
use Rattle.bands.proofs.Lattice.{Before}
use Rattle.bands.proofs.Contraction.{combined, kills-first, combined-minor}

module _ (K : CRing) where
  open K use {R, 𝟘, 𝟙, add as ◌+◌, mul as ◌*◌, neg}

  infixl 65 ◌+◌
  infixl 70 ◌*◌
  -- columns of a set above the first rows
  columns-above : (M : Matrix K) (J T : RowSet) → columns K M (J ++ T) ≡ columns K (λ i c. M i (length T +ℕ c)) J ++ columns K M T
  unfolding columns
  columns-above M [] T = refl
  columns-above M (true ∷ J) T =
      let e : suc (length (J ++ T)) ≡ length T +ℕ suc (length J) = omega (arith, length-append J T) in
      ap₂ (λ m vs. (λ i. M i m) ∷ vs) e (columns-above M J T)
  columns-above M (false ∷ J) T = columns-above M J T

  columns-one : (M : Matrix K) (m j : ℕ) → In m j → columns K M (rows m j j) ≡ (λ i. M i j) ∷ []
  unfolding columns
  columns-one M m zero p = absurd (omega (arith, p.0))
  columns-one M m (suc j) p =
      rows-own (columns K M) (λ S. refl) m (suc j) (suc j) p.1 ∙ ap (columns K M) (rows_last j (suc j) (omega arith))
      ∙ ap₂ (λ c vs. (λ i. M i (suc c)) ∷ vs) (length-rows j (suc j) j) (rows_none (columns K M) (λ S. refl) j (suc j) j (omega arith))

  -- A of k + m rows, and Y a left inverse of its leading block
  module _ (k m : ℕ) (some : 1 ≤ k) (A Y : Matrix K) (inverse : Equal K k (times K k Y A) (identity K)) (i : ℕ) (x : In m i) where
    -- what takes row k + i down to the complement: that row, and the first k rows by their weights
    weight : ℕ → R
    weight r = times K k (lower_left K k A) Y i r

    combination : ℕ → R
    combination r = identity K (k +ℕ i) r + cond (leb r k) (neg (weight r)) 𝟘

    combination-is : (v : ℕ → R) → combined K (k +ℕ m) combination v ≡ v (k +ℕ i) + neg (sum K k (λ r. weight r * v r))
    unfolding combination
    combination-is v =
        sum-equal K (k +ℕ m) _ _ (λ r p. part (identity K (k +ℕ i) r) (v r) (leb r k) (weight r))
        ∙ sum-add K (k +ℕ m) _ _
        ∙ ap₂ ◌+◌ (identity-sum K (k +ℕ m) v (k +ℕ i) (omega (arith, x.0), omega (arith, x.1)))
        (sum-short K (k +ℕ m) k (λ r. neg (weight r * v r)) (omega arith) ∙ sum-neg K k (λ r. weight r * v r))
      where
        part : (a b : R) (t : Bool) (w : R) → (a + cond t (neg w) 𝟘) * b ≡ a * b + cond t (neg (w * b)) 𝟘
        part a b true w = simp ring
        part a b false w = simp ring

    -- it kills the first k columns
    row : Matrix K
    row r c = A (k +ℕ i) c

    kills : (q : ℕ) → 1 ≤ q → q ≤ k → combined K (k +ℕ m) combination (λ r. A r q) ≡ 𝟘
    unfolding weight row times
    kills q p h =
        combination-is (λ r. A r q)
        ∙ ap (λ y. A (k +ℕ i) q + neg y)
        (times-assoc K k row Y A 1 q ∙ times-equal-right K k row (times K k Y A) (identity K) inverse 1 q (omega arith, some) (p, h)
        ∙ times-identity K k row 1 q (omega arith, some) (p, h))
        ∙ +-neg K _

    -- the set of the first k rows
    abbrev S : RowSet
    S = with_first k (rows m 1 0)

    before : Before (k +ℕ i) S
    before = ap (λ T. above T (k +ℕ i - 1)) (first_alone k m) ∙ above_rows (k +ℕ m) k (k +ℕ i - 1) (omega arith) ∙ omega (arith, x.0)

    -- no other row has a part in the combination
    outside : (r : ℕ) → In (k +ℕ m) r → (r ≡ k +ℕ i → ⊥) → has r S ≡ false → combination r ≡ 𝟘
    unfolding combination
    outside r p e f = elim (dec_le r k) [
      | yes l ↦ absurd (true≢false (sym (has_first k (rows m 1 0) r (p.0, l)) ∙ f))
      | no l ↦ ap₂ (λ s t. cond s 𝟙 𝟘 + cond t (neg (weight r)) 𝟘) (ne_eqb (k +ℕ i) r (λ z. e (sym z))) (lt-leb r k (omega arith)) ∙ +-zero K 𝟘
    ]

    own : combination (k +ℕ i) ≡ 𝟙
    unfolding combination
    own =
        ap₂ (λ s t. cond s 𝟙 𝟘 + cond t (neg (weight (k +ℕ i))) 𝟘) (eq-eqb (k +ℕ i) (k +ℕ i) refl) (lt-leb (k +ℕ i) k (omega (arith, x.0))) ∙ +-zero K 𝟙

    -- on column k + j it gives the complement's entry
    combined-schur : (j : ℕ) → combined K (k +ℕ m) combination (λ r. A r (k +ℕ j)) ≡ schur_by K k Y A i j
    unfolding weight times
    combined-schur j = combination-is (λ r. A r (k +ℕ j))

    -- THE MINOR of the first k rows and columns and one more of each
    pub schur-formula : (j : ℕ) → In m j
        → determinant K A (with_first k (rows m i i)) (with_first k (rows m j j))
        ≡ schur_by K k Y A i j * determinant K A (with_first k (rows m 1 0)) (with_first k (rows m 1 0))
    unfolding determinant columns
    schur-formula j y =
        ap₂ (λ I vs. wedges K vs I) one-row
        (columns-above A (rows m j j) (rows k 1 k) ∙ ap (λ vs. vs ++ columns K A (rows k 1 k)) (columns-one (λ r c. A r (length (rows k 1 k) +ℕ c)) m j y)
        ∙ ap (λ l. (λ r. A r (l +ℕ j)) ∷ columns K A (rows k 1 k)) (length-rows k 1 k))
        ∙ combined-minor K (k +ℕ m) combination (λ r. A r (k +ℕ j)) (columns K A (rows k 1 k)) S (k +ℕ i) (long-first k (rows m 1 0) (length-rows m 1 0))
        (omega (arith, x.0), omega (arith, x.1))
        before own outside (kills-first K (k +ℕ m) k A combination k (omega arith) kills)
        ∙ ap₂ ◌*◌ (combined-schur j)
        (ap (λ vs. wedges K vs S)
        (sym (columns-above A (rows m 1 0) (rows k 1 k) ∙ ap (λ vs. vs ++ columns K A (rows k 1 k)) (rows_none (columns K (λ r c. A r (length (rows k 1 k) +ℕ c))) (λ S. refl) m 1 0 (omega arith)))))
      where
        one-row : with_first k (rows m i i) ≡ put (k +ℕ i) true S
        one-row =
            ap (with_first k) (sym (ap (put i true) (sym (rows_empty m i (i - 1) (omega (arith, x.0)))) ∙ put-rows m i i x.0 x.1 (omega arith)))
            ∙ sym (put-own k (rows m 1 0) i true (x.0, omega (arith, x.1, length-rows m 1 0)))

  -- the leading block has one inverse
  pub schur-same : (k m : ℕ) (A X Y : Matrix K) → SchurComplement K k m A X → SchurComplement K k m A Y → Equal K m X Y
  unfolding times
  schur-same k m A X Y h g i j x y =
      h.entries i j x y
      ∙ ap (λ z. A (k +ℕ i) (k +ℕ j) + neg z)
      (sum-equal K k _ _ (λ r p. ap (λ z. z * A r (k +ℕ j)) (sum-equal K k _ _ (λ c q. ap (λ z. A (k +ℕ i) c * z)
      (inverse-unique K k A h.inverse g.inverse h.left g.right c r q p)))))
      ∙ sym (g.entries i j x y)
