-- THE FACTOR THEOREM FOR WORDS with weights positive or zero and positive diagonals. Chosen rows and columns whose minor is not zero are factored by document
-- 02's new factors (chosen-factored), and so is every word by itself (whole-regular, whole-factored). The minor of all chosen rows and columns is the
-- determinant of the chosen entries (chosen-determinant), so that they are singular where it is zero (chosen-singular).
use mathlib.Core.Path.{◌≡◌, refl, sym, ap, ap₂, ◌∙◌}
use mathlib.Core.Bool.{true, false}
use Prim.Native.Nat.{ℕ}
use lib.ListN.{length}
use Rattle.fraction.specs.Arithmetic.{Arithmetic}
use Rattle.fraction.specs.Ring.{CRing, Ordered, arithmetic}
use Rattle.words.specs.RowSet.{RowSet, count, among, rows}
use Rattle.words.specs.Word.{Word}
use Rattle.words.specs.Walk.{one_at, minor}
use Rattle.words.proofs.RowSets.{length-rows}
use Rattle.words.proofs.Chosen.{count-all, chosen-all, among-all, among-whole}
use Rattle.words.proofs.Walks.{Rows, All}
use Rattle.minors.specs.Matrix.{Equal, submatrix_of, word_matrix}
use Rattle.minors.proofs.Determinant.{determinant}
use Rattle.minors.proofs.Nonnegative.{KeepsSign, walk-nonnegative, one_at-nonnegative}
use Rattle.bands.specs.Factored.{MatrixFactored}
use Rattle.bands.proofs.Heights.{above, above-heights}
use Rattle.bands.proofs.Reach.{reach-stays}
use Rattle.bands.proofs.Nonzero.{present, absent-zero, positive-present, present-positive, reached-positive}
use Rattle.bands.proofs.Patterned.{minor_at-determinant}
use Rattle.bands.proofs.Words.{chosen-banded, banded-multiplied, banded-unique, banded-divisible, banded-divisible'}

module _ (K : CRing) (O : Ordered K) where
  open K use {R, 𝟘, mul as ◌*◌}
  open O use {Pos, is_zero, inv}

  abbrev F : Arithmetic
  F = arithmetic K O

  module _ (n : ℕ) (W : Word R) (inside : All (Rows n) W) (signs : All (KeepsSign K O n) W) where
    -- A WHOLE WORD IS REGULAR
    pub whole-regular : (S : RowSet) → length S ≡ n → Pos (minor F W S S)
    whole-regular S s = reached-positive K O n W inside signs S S s s (reach-stays n (present K O W) (above S) (above-heights S n s))

    -- ROWS AND COLUMNS OF IT
    module _ (k : ℕ) (P Q : RowSet) (length_p : length P ≡ n) (length_q : length Q ≡ n) (count_p : count P ≡ k) (count_q : count Q ≡ k) where
      pub chosen-determinant : minor F W P Q ≡ determinant K (submatrix_of K P Q (word_matrix K O n W)) (rows k 1 k) (rows k 1 k)
      chosen-determinant =
          sym (ap₂ (minor F W) (ap (λ c. among P (rows c 1 c)) (sym count_p) ∙ among-whole P) (ap (λ c. among Q (rows c 1 c)) (sym count_q) ∙ among-whole Q))
          ∙ minor_at-determinant K O n W inside signs k P Q length_p length_q count_p count_q (rows k 1 k) (rows k 1 k) (length-rows k 1 k) (length-rows k 1 k)

      -- they are singular where their minor is zero
      abbrev Singular : Type 0
      Singular = determinant K (submatrix_of K P Q (word_matrix K O n W)) (rows k 1 k) (rows k 1 k) ≡ 𝟘

      pub chosen-singular : (is_zero (minor F W P Q) ≡ true → Singular) × (Singular → is_zero (minor F W P Q) ≡ true)
      chosen-singular = (λ e. sym chosen-determinant ∙ O.zero-yes _ e, λ e. absent-zero K O _ (chosen-determinant ∙ e))

      minor-positive : is_zero (minor F W P Q) ≡ false → Pos (minor F W P Q)
      unfolding minor
      minor-positive = present-positive K O (minor F W P Q) (walk-nonnegative K O n W (one_at F Q) signs (one_at-nonnegative K O n Q) P length_p)

      -- what is asked may be written otherwise, as long as it is the minor at sets of chosen rows and columns
      part-factored : (M : RowSet → RowSet → R) → ((I J : RowSet) → length I ≡ k → length J ≡ k → M I J ≡ minor F W (among P I) (among Q J))
          → is_zero (minor F W P Q) ≡ false → MatrixFactored K O k M (submatrix_of K P Q (word_matrix K O n W))
      part-factored M same e =
          let r : Pos (minor F W P Q) = minor-positive e in
          record {
            divisible = banded-divisible K O n W inside signs k P Q length_p length_q count_p count_q r M same;
            divisible-exchanged = banded-divisible' K O n W inside signs k P Q length_p length_q count_p count_q r M same;
            banded = chosen-banded K O n W inside signs k P Q length_p length_q count_p count_q r M same;
            multiplied-out = banded-multiplied K O n W inside signs k P Q length_p length_q count_p count_q r M same;
            only = banded-unique K O n W inside signs k P Q length_p length_q count_p count_q r M same;
          }

      pub chosen-factored : is_zero (minor F W P Q) ≡ false
          → MatrixFactored K O k (λ I J. minor F W (among P I) (among Q J)) (submatrix_of K P Q (word_matrix K O n W))
      chosen-factored = part-factored _ (λ I J i j. refl)

    -- THE WORD ITSELF
    pub whole-factored : MatrixFactored K O n (minor F W) (word_matrix K O n W)
    whole-factored =
        let e : Equal K n (submatrix_of K (rows n 1 n) (rows n 1 n) (word_matrix K O n W)) (word_matrix K O n W) =
        λ i j x y. ap₂ (word_matrix K O n W) (chosen-all n i x) (chosen-all n j y) in
        let f = part-factored n (rows n 1 n) (rows n 1 n) (length-rows n 1 n) (length-rows n 1 n) (count-all n) (count-all n) (minor F W)
        (λ I J i j. sym (ap₂ (minor F W) (among-all n I i) (among-all n J j))) (positive-present K O _ (whole-regular (rows n 1 n) (length-rows n 1 n))) in
        record {
          divisible = f.divisible;
          divisible-exchanged = f.divisible-exchanged;
          banded = f.banded;
          multiplied-out = λ i j x y. f.multiplied-out i j x y ∙ e i j x y;
          only = λ c h g. f.only c h (λ i j x y. g i j x y ∙ sym (e i j x y));
        }
