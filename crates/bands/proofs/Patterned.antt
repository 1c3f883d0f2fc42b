-- WORDS WITH ZEROS: of any word with weights positive or zero and positive diagonals, and of any rows and columns of it whose minor is not zero, it is known
-- which minors are zero (zeroed). The idea: the heights of a set among the chosen rows are those of the rows themselves, counted among the chosen ones
-- (above-among), and so reaching in the word is a lattice of the chosen rows and columns too.
use mathlib.Core.Path.{◌≡◌, refl, sym, ap, ◌∙◌, subst, subst₂, fun_ext}
use mathlib.Core.Bool.{Bool, true, false, not, cond}
use mathlib.Core.List.{[], ◌∷◌}
use Prim.Native.Nat.{ℕ, suc, ◌+◌, ◌-◌, ◌≤◌}
use native.Mathlib.Decide.{dec_le}
use native.Mathlib.Omega.{arith}
use lib.ListN.{length}
use Rattle.fraction.specs.Arithmetic.{Arithmetic}
use Rattle.fraction.specs.Ring.{CRing, Ordered, arithmetic, NonNegative}
use Rattle.words.specs.RowSet.{In, RowSet, count, among, rows}
use Rattle.words.specs.Word.{Letter, E, Et, D, Dinv, Word}
use Rattle.words.specs.Walk.{one_at, minor}
use Rattle.words.proofs.RowSets.{length-rows}
use Rattle.words.proofs.Chosen.{length-among, chosen-in}
use Rattle.words.proofs.Walks.{Rows, All}
use Rattle.minors.specs.Matrix.{Matrix, submatrix_of, chosen, word_matrix}
use Rattle.minors.proofs.Determinant.{determinant, matrix_of, minor-determinant, determinant-equal, determinant-among}
use Rattle.minors.proofs.Multiply.{word_matrix-carried}
use Rattle.minors.proofs.Nonnegative.{KeepsSign, walk-nonnegative, one_at-nonnegative}
use Rattle.bands.proofs.Heights.{stands, above, above-le, count-above, above_rows}
use Rattle.bands.proofs.Reach.{Step, Reach, reach-topical}
use Rattle.bands.proofs.Nonzero.{present, present_letter, positive-reached, reached-positive}
use Rattle.bands.proofs.Lattice.{above-count}
use Rattle.bands.proofs.Banded.{Zeroed}

-- HEIGHTS OF SETS AMONG CHOSEN ROWS: row x of all is, or stands right above, row count P - above P x of the chosen ones
pub above-among : (P I : RowSet) → length I ≡ count P → (x : ℕ) → above (among P I) x ≡ above I (count P - above P x)
unfolding among count
above-among [] [] e x = refl
above-among [] (b ∷ I) e x = absurd (omega arith)
above-among (false ∷ P) I e x = above-among P I e x
above-among (true ∷ P) [] e x = absurd (omega arith)
above-among (true ∷ P) (b ∷ I) e x = elim (dec_le x (length P)) [
  | yes l ↦
      let y : suc (count P) - (above P x + stands (suc (length P)) x) ≡ count P - above P x = omega arith in
      inner b (count P - above P x) (omega arith) l (above-among P I (omega arith) x) ∙ ap (above (b ∷ I)) (sym y)
  | no l ↦
      let y : suc (count P) - (above P x + stands (suc (length P)) x) ≡ suc (count P) = omega (arith, above-le P x) in
      outer b l ∙ ap (above (b ∷ I)) (sym y)
]
  where
    s : length (among P I) ≡ length P
    s = length-among P I (omega arith)

    inner : (b : Bool) (y : ℕ) → y ≤ count P → x ≤ length P → above (among P I) x ≡ above I y → above (b ∷ among P I) x ≡ above (b ∷ I) y
    inner true y h l f =
        let u : stands (suc (length (among P I))) x ≡ 1 = omega (arith, s) in
        let v : stands (suc (length I)) y ≡ 1 = omega arith in
        omega (arith, u, v, f)
    inner false y h l f = f

    outer : (b : Bool) → (x ≤ length P → ⊥) → above (b ∷ among P I) x ≡ above (b ∷ I) (suc (count P))
    outer true l =
        let u : stands (suc (length (among P I))) x ≡ 0 = omega (arith, s) in
        let v : stands (suc (length I)) (suc (count P)) ≡ 0 = omega arith in
        omega (arith, u, v, above-le (among P I) x, above-le I (suc (count P)), s)
    outer false l = omega (arith, above-le (among P I) x, above-le I (suc (count P)), s)

-- LETTERS KEEP THE NUMBER OF ROWS: both rows of a letter stand above row 0
none-at : (b : Bool) (j : ℕ) → 2 ≤ j → cond b (stands j 0 - stands (j - 1) 0) 0 ≡ 0
none-at true j h = omega arith
none-at false j h = refl

module _ (K : CRing) (O : Ordered K) where
  open O use {is_zero}

  step_count : (n : ℕ) (l : Letter K.R) → Rows n l → (f g : ℕ → ℕ) → Step (present_letter K O l) f g → f 0 ≡ g 0
  step_count n (E j w) r f g s = omega (arith, s 0, none-at (not (is_zero w)) j r.0)
  step_count n (Et j w) r f g s = omega (arith, s 0, none-at (not (is_zero w)) j r.0)
  step_count n (D e) r f g s = omega (arith, s 0)
  step_count n (Dinv e) r f g s = omega (arith, s 0)

  pub reach-count : (n : ℕ) (W : Word K.R) → All (Rows n) W → (f g : ℕ → ℕ) → Reach n (present K O W) f g → f 0 ≡ g 0
  reach-count n [] r f g h = h 0
  reach-count n (l ∷ W) r f g h = reach-count n W r.1 f h.0 h.2 ∙ step_count n l r.0 h.0 g h.3

-- A WORD OF N ROWS, and k rows P and columns Q of it
module _ (K : CRing) (O : Ordered K) (N : ℕ) (W : Word K.R) (inside : All (Rows N) W) (signs : All (KeepsSign K O N) W)
    (k : ℕ) (P Q : RowSet) (length_p : length P ≡ N) (length_q : length Q ≡ N) (count_p : count P ≡ k) (count_q : count Q ≡ k) where
  open K use {R}
  open O use {Pos}

  abbrev F : Arithmetic
  F = arithmetic K O

  -- the minor at sets among them, and the matrix that has these minors
  abbrev pub minor_at : RowSet → RowSet → R
  minor_at I J = minor (arithmetic K O) W (among P I) (among Q J)

  abbrev pub chosen_matrix : Matrix K
  chosen_matrix = submatrix_of K P Q (word_matrix K O N W)

  pub among-rows : (I : RowSet) → length I ≡ k → length (among P I) ≡ N
  among-rows I i = length-among P I (i ∙ sym count_p) ∙ length_p

  pub among-columns : (J : RowSet) → length J ≡ k → length (among Q J) ≡ N
  among-columns J j = length-among Q J (j ∙ sym count_q) ∙ length_q

  pub chosen-row : (S : RowSet) (r : ℕ) → length S ≡ N → count S ≡ k → In k r → In N (chosen S r)
  chosen-row S r s c x = subst (λ m. In m (chosen S r)) s (chosen-in S r (subst (λ m. In m r) (sym c) x))

  pub minor_at-determinant : (I J : RowSet) → length I ≡ k → length J ≡ k → minor_at I J ≡ determinant K chosen_matrix I J
  minor_at-determinant I J i j =
      minor-determinant K O N W inside (among P I) (among Q J) (among-rows I i) (among-columns J j)
      ∙ determinant-among K (matrix_of K O W) P Q I J (i ∙ sym count_p) (j ∙ sym count_q)
      ∙ determinant-equal K k (submatrix_of K P Q (matrix_of K O W)) chosen_matrix
      (λ r c x y. sym (word_matrix-carried K O N W inside (chosen P r) (chosen Q c) (chosen-row P r length_p count_p x) (chosen-row Q c length_q count_q y))) I J i j

  pub minor_at-nonnegative : (I J : RowSet) → length I ≡ k → NonNegative K O (minor_at I J)
  unfolding minor
  minor_at-nonnegative I J i = walk-nonnegative K O N W (one_at F (among Q J)) signs (one_at-nonnegative K O N (among Q J)) (among P I) (among-rows I i)

  -- the heights of sets of chosen rows as heights of all
  abbrev Rel : (ℕ → ℕ) → (ℕ → ℕ) → Type 0
  Rel f g = Reach N (present K O W) (λ x. f (k - above Q x)) (λ x. g (k - above P x))

  heights-rows : (I : RowSet) → length I ≡ k → above (among P I) ≡ (λ x. above I (k - above P x))
  heights-rows I i = fun_ext (λ x. above-among P I (i ∙ sym count_p) x ∙ ap (λ m. above I (m - above P x)) count_p)

  heights-columns : (j : ℕ) → j ≤ k → above (among Q (rows k 1 j)) ≡ (λ x. j - (k - above Q x))
  heights-columns j l = fun_ext (λ x. above-among Q (rows k 1 j) (length-rows k 1 j ∙ sym count_q) x
      ∙ ap (λ m. above (rows k 1 j) (m - above Q x)) count_q ∙ above_rows k j (k - above Q x) l)

  heights-all : (S : RowSet) → count S ≡ k → above S ≡ (λ x. k - (k - above S x))
  heights-all S e = fun_ext (λ x. omega (arith, above-count S x))

  module _ (regular : Pos (minor F W P Q)) where
    pub zeroed : Zeroed K O k chosen_matrix
    zeroed = record {
      Rel = Rel;
      closed = λ φ t f g f' g' r s. reach-topical φ t N (present K O W) _ _ _ _ r s;
      whole = subst₂ (Reach N (present K O W)) (heights-all Q count_q) (heights-all P count_p) (positive-reached K O N W inside signs Q P length_p regular);
      nonnegative = λ j I l i. subst (NonNegative K O) (minor_at-determinant I (rows k 1 j) i (length-rows k 1 j)) (minor_at-nonnegative I (rows k 1 j) i);
      to = λ j I l i h. subst₂ (Reach N (present K O W)) (heights-columns j l) (heights-rows I i)
          (positive-reached K O N W inside signs (among Q (rows k 1 j)) (among P I) (among-rows I i)
          (subst Pos (sym (minor_at-determinant I (rows k 1 j) i (length-rows k 1 j))) h));
      from = λ j I l i h. subst Pos (minor_at-determinant I (rows k 1 j) i (length-rows k 1 j))
          (reached-positive K O N W inside signs (among Q (rows k 1 j)) (among P I) (among-columns (rows k 1 j) (length-rows k 1 j)) (among-rows I i)
          (subst₂ (Reach N (present K O W)) (sym (heights-columns j l)) (sym (heights-rows I i)) h));
    }

    pub zeroed-counts : (j : ℕ) (I : RowSet) → length I ≡ k → zeroed.Rel (λ x. j - x) (above I) → count I ≡ j
    unfolding zeroed
    zeroed-counts j I i h =
        let e : j - (k - above Q 0) ≡ above I (k - above P 0) = reach-count K O N W inside (λ x. j - (k - above Q x)) (λ x. above I (k - above P x)) h in
        let f : k - above P 0 ≡ 0 = omega (arith, count-above P) in
        omega (arith, e, ap (above I) f, count-above I, count-above Q)
