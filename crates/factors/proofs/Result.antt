-- THE FACTOR THEOREM FOR OPERATIONS, over any ordered ring: where the sources' weights are positive or zero, their diagonals positive, and the determinant that
-- is asked for is not zero, the matrix of the operation's words (operation_matrix) is factored by the new factors (solved). The minors that are asked for are
-- that matrix's determinants (asked-determinant), of a Schur complement times M(1..k).
use mathlib.Core.Path.{◌≡◌, refl, sym, ap, ap₂, ◌∙◌, subst}
use Prim.Native.Nat.{ℕ, ◌-◌, ◌<◌, ◌+◌ as ◌+ℕ◌}
use native.Mathlib.Omega.{arith}
use lib.ListN.{length}
use Rattle.fraction.specs.Ring.{CRing, Ordered, arithmetic, NonNegative}
use Rattle.fraction.proofs.Ring.{one-*}
use Rattle.words.specs.RowSet.{RowSet, rows, count, among, with_first}
use Rattle.words.specs.Word.{Factors, word}
use Rattle.words.specs.Walk.{minor}
use Rattle.words.specs.Operation.{Operation, joined, submatrix, schur, joined_word, steps, size, Fit, asked_minor}
use Rattle.words.specs.Sources.{Weighted, Sources}
use Rattle.words.proofs.Chosen.{length-among, among-whole}
use Rattle.words.proofs.Stages.{word_rows}
use Rattle.words.proofs.Steps.{word-weights, joined-weights, joined-rows}
use Rattle.minors.specs.Matrix.{Matrix, submatrix_of, word_matrix, multiplied}
use Rattle.minors.proofs.Determinant.{determinant, determinant-among}
use Rattle.minors.proofs.Multiply.{word-determinant}
use Rattle.bands.specs.Factored.{MatrixFactored}
use Rattle.bands.proofs.Nonzero.{positive-present}
use Rattle.bands.proofs.Theorem.{whole-factored, chosen-factored}
use Rattle.bands.proofs.Clamped.{remains}
use Rattle.bands.proofs.Remains.{clamped-positive, schur-determinant, schur-factored}

-- a source of n rows is one of k and n - k
parted : (n k : ℕ) → k < n → k +ℕ (n - k) ≡ n
parted n k l = omega arith

pub at_parted : (n k : ℕ) → k < n → (T : ℕ → Type 0) → T (k +ℕ (n - k)) → T n
at_parted n k l T t = subst T (parted n k l) t

module _ (K : CRing) (O : Ordered K) where
  open K use {R, 𝟙, mul as ◌*◌}
  open O use {Pos, pos-one}

  infixl 70 ◌*◌
  -- THE MATRIX that the steps' words multiply out to, of a submatrix its chosen entries, of a Schur complement what remains of the word
  abbrev pub operation_matrix : ℕ → Operation R → Matrix K
  operation_matrix n (joined L) = word_matrix K O n (joined_word n L)
  operation_matrix n (submatrix b P Q) = submatrix_of K P Q (multiplied K O n b)
  operation_matrix n (schur b k) = word_matrix K O (n - k) (remains k (n - k) b)

  -- THE OPERATIONS
  abbrev pub WeightedSources : ℕ → Operation R → Type 0
  WeightedSources n o = Sources (Weighted (NonNegative K O) Pos n) (steps o)

  -- the minor that stands for the empty one: 1, and M(1..k) of a Schur complement
  abbrev pub empty_minor : ℕ → Operation R → R
  empty_minor n (joined L) = 𝟙
  empty_minor n (submatrix b P Q) = 𝟙
  empty_minor n (schur b k) = minor (arithmetic K O) (word n b) (rows n 1 k) (rows n 1 k)

  pub parted-weighted : (n k : ℕ) (b : Factors R) → k < n → Weighted (NonNegative K O) Pos n b → Weighted (NonNegative K O) Pos (k +ℕ (n - k)) b
  parted-weighted n k b l h = subst (λ q. Weighted (NonNegative K O) Pos q b) (sym (parted n k l)) h

  pub empty-positive : (n : ℕ) (o : Operation R) → WeightedSources n o → Fit n o → Pos (empty_minor n o)
  empty-positive n (joined L) h f = pos-one
  empty-positive n (submatrix b P Q) h f = pos-one
  empty-positive n (schur b k) h f =
      at_parted n k f.1 (λ q. Pos (minor (arithmetic K O) (word q b) (rows q 1 k) (rows q 1 k)))
      (clamped-positive K O k (n - k) b (parted-weighted n k b f.1 h.0))

  pub asked-determinant : (n : ℕ) (o : Operation R) → WeightedSources n o → Fit n o → (I J : RowSet) → length I ≡ size n o → length J ≡ size n o
      → asked_minor (arithmetic K O) n o I J ≡ empty_minor n o * determinant K (operation_matrix n o) I J
  unfolding joined_word
  asked-determinant n (joined L) h f I J i j = word-determinant K O n (joined_word n L) (joined-rows n L) I J i j ∙ sym (one-* K _)
  asked-determinant n (submatrix b P Q) h f I J i j =
      word-determinant K O n (word n b) (word_rows n b) (among P I) (among Q J) (length-among P I i ∙ f.0) (length-among Q J (j ∙ sym f.2) ∙ f.1)
      ∙ determinant-among K (multiplied K O n b) P Q I J i (j ∙ sym f.2) ∙ sym (one-* K _)
  asked-determinant n (schur b k) h f I J i j =
      at_parted n k f.1 (λ q. minor (arithmetic K O) (word q b) (with_first k I) (with_first k J)
      ≡ minor (arithmetic K O) (word q b) (rows q 1 k) (rows q 1 k)
      * determinant K (word_matrix K O (n - k) (remains k (n - k) b)) I J)
      (schur-determinant K O k (n - k) b (parted-weighted n k b f.1 h.0) I J i j)

  pub solved : (n : ℕ) (o : Operation R) → WeightedSources n o → Fit n o
      → Pos (asked_minor (arithmetic K O) n o (rows (size n o) 1 (size n o)) (rows (size n o) 1 (size n o)))
      → MatrixFactored K O (size n o) (asked_minor (arithmetic K O) n o) (operation_matrix n o)
  unfolding joined_word
  solved n (joined L) h f g = whole-factored K O n (joined_word n L) (joined-rows n L) (joined-weights (NonNegative K O) Pos n L h)
  solved n (submatrix b P Q) h f g =
      chosen-factored K O n (word n b) (word_rows n b) (word-weights (NonNegative K O) Pos n b h.0) (count P) P Q f.0 f.1 refl f.2
      (positive-present K O _
      (subst Pos (ap₂ (minor (arithmetic K O) (word n b)) (among-whole P) (ap (λ k. among Q (rows k 1 k)) (sym f.2) ∙ among-whole Q)) g))
  solved n (schur b k) h f g =
      at_parted n k f.1 (λ q. MatrixFactored K O (n - k) (λ I J. minor (arithmetic K O) (word q b) (with_first k I) (with_first k J))
      (word_matrix K O (n - k) (remains k (n - k) b)))
      (schur-factored K O k (n - k) b (parted-weighted n k b f.1 h.0))
