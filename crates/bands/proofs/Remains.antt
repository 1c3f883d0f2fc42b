-- WHAT REMAINS OF A SOURCE after its first k rows and columns. The minors with these joined are those of the word that remains, times one positive number,
-- which cancels in the new factors (scaled-factored, schur-factored). That word multiplies out to the Schur complement (remains-schur), by Schur's formula at
-- sets of one row (schur-entries); the leading block has an inverse, since it is multiplied out by factors with a positive diagonal (leading-left,
-- leading-right). So the complement's minors are the joined ones, divided by M(1..k) (schur-determinant, schur-minors).
use mathlib.Core.Path.{◌≡◌, refl, sym, ap, ap₂, ◌∙◌, subst}
use mathlib.Core.Bool.{Bool, true, false}
use Prim.Native.Nat.{ℕ, ◌-◌, ◌≤◌, ◌<◌, ◌+◌ as ◌+ℕ◌}
use native.Mathlib.Omega.{arith}
use lib.ListN.{length}
use Rattle.fraction.specs.Arithmetic.{Arithmetic}
use Rattle.fraction.specs.Ring.{CRing, Ordered, arithmetic, NonNegative}
use Rattle.fraction.proofs.Ring.{ring, *-one, *-comm, *-zero}
use Rattle.fraction.proofs.Ordered.{pos-nonzero, pos-cancel, nonzero-mul, quotient-cancel}
use Rattle.words.specs.RowSet.{RowSet, count, among, rows, with_first}
use Rattle.words.specs.Word.{Factors, word, inverse_word, exchanged}
use Rattle.words.specs.Walk.{minor}
use Rattle.words.specs.Formula.{new_factor}
use Rattle.words.specs.Sources.{Weighted}
use Rattle.words.proofs.RowSets.{length-rows}
use Rattle.words.proofs.Runs.{count-rows}
use Rattle.words.proofs.Chosen.{chosen-first}
use Rattle.words.proofs.FirstRows.{long-first, first_alone}
use Rattle.words.proofs.Walks.{All, all_append}
use Rattle.words.proofs.Stages.{stages-all, word_rows}
use Rattle.words.proofs.Steps.{word-weights}
use Rattle.words.proofs.Banded.{banded-same}
use Rattle.words.proofs.Formulas.{divisible-related, new_factor-related}
use Rattle.minors.specs.Matrix.{In, Matrix, Equal, identity, times, resigned, submatrix_of, word_matrix, multiplied}
use Rattle.minors.proofs.Products.{times-equal-left, times-equal-right}
use Rattle.minors.proofs.Determinant.{determinant, determinant-none, empty-none, determinant-entry, determinant-equal}
use Rattle.minors.proofs.Multiply.{word-determinant, multiplied-equal}
use Rattle.minors.proofs.Entries.{entry_product-positive}
use Rattle.minors.proofs.Complement.{word-diagonal}
use Rattle.minors.proofs.Inverse.{inverse_left, inverse-right}
use Rattle.minors.proofs.Nonnegative.{KeepsSign}
use Rattle.bands.specs.Factored.{MatrixFactored}
use Rattle.bands.specs.Schur.{schur_by, SchurComplement}
use Rattle.bands.proofs.Nonzero.{positive-present, absent-zero}
use Rattle.bands.proofs.Words.{transposed-signs}
use Rattle.bands.proofs.Theorem.{whole-regular, chosen-factored, whole-factored}
use Rattle.bands.proofs.Clamped.{cut, cut_all, lower_half, lower-raises, remains, remains-rows, scale, clamped-minor}
use Rattle.bands.proofs.Schur.{schur-formula, schur-same}

module _ (K : CRing) (O : Ordered K) where
  open K use {R, 𝟘, 𝟙, mul as ◌*◌}
  open O use {Pos, pos-mul, inv, is_zero}

  infixl 70 ◌*◌
  abbrev F : Arithmetic
  F = arithmetic K O

  -- MINORS THAT DIFFER BY A POSITIVE FACTOR have the same new factors
  module _ (n : ℕ) (c : R) (positive : Pos c) (M N : RowSet → RowSet → R) (A : Matrix K)
      (scaled : (I J : RowSet) → length I ≡ n → length J ≡ n → M I J ≡ c * N I J) where
    zeros : (x y : R) → x ≡ c * y → is_zero x ≡ is_zero y
    zeros x y e = by (is_zero y) refl
      where
        by : (t : Bool) → is_zero y ≡ t → is_zero x ≡ t
        by true z = absent-zero K O x (e ∙ ap (λ u. c * u) (O.zero-yes y z) ∙ *-zero K c)
        by false z = other (is_zero x) refl
          where
            other : (t : Bool) → is_zero x ≡ t → t ≡ false
            other true w = absurd (nonzero-mul K O c y (pos-nonzero K O c positive) (O.zero-no y z) (sym e ∙ O.zero-yes x w))
            other false w = refl

    quotients : (x₁ x₂ x₃ x₄ y₁ y₂ y₃ y₄ : R) → x₁ ≡ c * y₁ → x₂ ≡ c * y₂ → x₃ ≡ c * y₃ → x₄ ≡ c * y₄ → is_zero y₃ ≡ false → is_zero y₄ ≡ false
        → x₁ * x₂ * inv (x₃ * x₄) ≡ y₁ * y₂ * inv (y₃ * y₄)
    quotients x₁ x₂ x₃ x₄ y₁ y₂ y₃ y₄ e₁ e₂ e₃ e₄ z₃ z₄ =
        ap₂ (λ u v. u * inv v) (ap₂ ◌*◌ e₁ e₂ ∙ regroup c y₁ y₂) (ap₂ ◌*◌ e₃ e₄ ∙ regroup c y₃ y₄)
        ∙ quotient-cancel K O (c * c) (y₁ * y₂) (y₃ * y₄) (pos-nonzero K O _ (pos-mul c c positive positive))
        (nonzero-mul K O y₃ y₄ (O.zero-no y₃ z₃) (O.zero-no y₄ z₄))
      where
        regroup : (c x y : R) → c * x * (c * y) ≡ x * y * (c * c)
        regroup c x y = simp ring

    ratios : (x x' y y' : R) → x ≡ c * y → x' ≡ c * y' → is_zero y' ≡ false → x * inv x' ≡ y * inv y'
    ratios x x' y y' e e' z =
        ap₂ (λ u v. u * inv v) (e ∙ *-comm K c y) (e' ∙ *-comm K c y') ∙ quotient-cancel K O c y y' (pos-nonzero K O c positive) (O.zero-no y' z)

    scaled-factored : MatrixFactored K O n N A → MatrixFactored K O n M A
    scaled-factored h = record {
      divisible = divisible-related F F n (λ x y. x ≡ c * y) ◌≡◌ zeros refl quotients ratios M N scaled h.divisible;
      divisible-exchanged = divisible-related F F n (λ x y. x ≡ c * y) ◌≡◌ zeros refl quotients ratios (λ I J. M J I) (λ I J. N J I)
          (λ I J i j. scaled J I j i) h.divisible-exchanged;
      banded = banded-same Pos (λ x. x ≡ 𝟘) n (λ i j x y. sym (same i j x y)) h.banded;
      multiplied-out = λ i j x y. multiplied-equal K O n _ _ same i j x y ∙ h.multiplied-out i j x y;
      only = λ b t g i j x y. h.only b t g i j x y ∙ sym (same i j x y);
    }
      where
        same : (i j : ℕ) → In n i → In n j → new_factor F n M i j ≡ new_factor F n N i j
        same = new_factor-related F F n (λ x y. x ≡ c * y) ◌≡◌ zeros refl quotients ratios M N scaled h.divisible h.divisible-exchanged

  -- A SOURCE of k + m rows, its weights positive or zero and its diagonal positive
  module _ (k m : ℕ) (b : Factors R) (h : Weighted (NonNegative K O) Pos (k +ℕ m) b) where
    abbrev n : ℕ
    n = k +ℕ m

    remains-signs : All (KeepsSign K O m) (remains k m b)
    unfolding remains
    remains-signs =
        all_append (KeepsSign K O m) (cut k (lower_half n b)) _ (half b (λ i j x y z. h.off i j (omega arith, z) (x, omega arith) (λ e. omega arith))) (
          λ i p. h.on (k +ℕ i) (omega (arith, p.0), omega (arith, p.1)),
          transposed-signs K O m (cut k (lower_half n (exchanged b)))
              (half (exchanged b) (λ i j x y z. h.off j i (x, omega arith) (omega arith, z) (λ e. omega arith))),
        )
      where
        half : (c : Factors R) → ((i j : ℕ) → 1 ≤ j → j < i → i ≤ k +ℕ m → NonNegative K O (c i j)) → All (KeepsSign K O m) (cut k (lower_half (k +ℕ m) c))
        half c g =
            cut_all (KeepsSign K O (k +ℕ m)) (KeepsSign K O m) k (λ j w l p. p) (lower_half (k +ℕ m) c) (k +ℕ m) (lower-raises (k +ℕ m) c)
            (stages-all (KeepsSign K O (k +ℕ m)) (k +ℕ m) 1 (k +ℕ m - 1) c (omega arith) g)

    scale-positive : Pos (scale K k b)
    unfolding scale
    scale-positive = entry_product-positive K O (λ i. b i i) (rows k 1 k) (λ i p. h.on i (p.0, omega (arith, p.1, length-rows k 1 k)))

    -- THE MINORS WITH THE FIRST k ROWS AND COLUMNS JOINED factor what remains
    pub schur-factored : MatrixFactored K O m (λ I J. minor F (word (k +ℕ m) b) (with_first k I) (with_first k J)) (word_matrix K O m (remains k m b))
    schur-factored =
        scaled-factored m (scale K k b) scale-positive _ (minor F (remains k m b)) (word_matrix K O m (remains k m b)) (clamped-minor K O k m b)
        (whole-factored K O m (remains k m b) (remains-rows k m b) remains-signs)

    abbrev A : Matrix K
    A = multiplied K O (k +ℕ m) b

    scaled-minor : (I J : RowSet) → length I ≡ m → length J ≡ m
        → minor F (word (k +ℕ m) b) (with_first k I) (with_first k J) ≡ scale K k b * determinant K (word_matrix K O m (remains k m b)) I J
    scaled-minor I J i j =
        clamped-minor K O k m b I J i j ∙ ap (λ x. scale K k b * x) (word-determinant K O m (remains k m b) (remains-rows k m b) I J i j)

    -- M(1..k)
    alone-scale : minor F (word (k +ℕ m) b) (with_first k (rows m 1 0)) (with_first k (rows m 1 0)) ≡ scale K k b
    alone-scale =
        scaled-minor (rows m 1 0) (rows m 1 0) (length-rows m 1 0) (length-rows m 1 0)
        ∙ ap (λ x. scale K k b * x) (determinant-none K _ (rows m 1 0) m 1 0 (omega arith) ∙ empty-none K m 1 0 (omega arith)) ∙ *-one K _

    leading-scale : minor F (word (k +ℕ m) b) (rows (k +ℕ m) 1 k) (rows (k +ℕ m) 1 k) ≡ scale K k b
    leading-scale = sym (ap (λ S. minor F (word (k +ℕ m) b) S S) (first_alone k m)) ∙ alone-scale

    -- the minors with the first k rows and columns joined, by those of what remains
    pub schur-determinant : (I J : RowSet) → length I ≡ m → length J ≡ m
        → minor F (word (k +ℕ m) b) (with_first k I) (with_first k J)
        ≡ minor F (word (k +ℕ m) b) (rows (k +ℕ m) 1 k) (rows (k +ℕ m) 1 k) * determinant K (word_matrix K O m (remains k m b)) I J
    schur-determinant I J i j = scaled-minor I J i j ∙ ap (λ x. x * determinant K (word_matrix K O m (remains k m b)) I J) (sym leading-scale)

    joined-determinant : (I J : RowSet) → length I ≡ m → length J ≡ m
        → minor F (word (k +ℕ m) b) (with_first k I) (with_first k J) ≡ determinant K A (with_first k I) (with_first k J)
    joined-determinant I J i j = word-determinant K O n (word n b) (word_rows n b) (with_first k I) (with_first k J) (long-first k I i) (long-first k J j)

    -- the entries of what remains, whatever left inverse the leading block has
    schur-entries : 1 ≤ k → (Y : Matrix K) → Equal K k (times K k Y (multiplied K O (k +ℕ m) b)) (identity K)
        → Equal K m (word_matrix K O m (remains k m b)) (schur_by K k Y (multiplied K O (k +ℕ m) b))
    schur-entries some Y g i j p y =
        pos-cancel K O (scale K k b) _ _ scale-positive
        (*-comm K _ _ ∙ ap (λ x. scale K k b * x) (sym (determinant-entry K m (word_matrix K O m (remains k m b)) i j p y))
        ∙ sym (scaled-minor (rows m i i) (rows m j j) (length-rows m i i) (length-rows m j j))
        ∙ joined-determinant (rows m i i) (rows m j j) (length-rows m i i) (length-rows m j j)
        ∙ schur-formula K k m some A Y g i p j y
        ∙ ap (λ x. schur_by K k Y A i j * x)
        (sym (joined-determinant (rows m 1 0) (rows m 1 0) (length-rows m 1 0) (length-rows m 1 0)) ∙ alone-scale))

    -- THE LEADING BLOCK HAS AN INVERSE: it is multiplied out by factors with a positive diagonal, whose word is inverted
    abbrev P : RowSet
    P = rows (k +ℕ m) 1 k

    count_p : count P ≡ k
    count_p = count-rows (k +ℕ m) 1 k (omega arith) (omega arith) ∙ omega arith

    length_p : length P ≡ k +ℕ m
    length_p = length-rows (k +ℕ m) 1 k

    signs : All (KeepsSign K O (k +ℕ m)) (word (k +ℕ m) b)
    signs = word-weights (NonNegative K O) Pos (k +ℕ m) b h

    abbrev block_minor : RowSet → RowSet → R
    block_minor I J = minor F (word (k +ℕ m) b) (among P I) (among P J)

    block : MatrixFactored K O k block_minor (submatrix_of K P P A)
    block =
        chosen-factored K O n (word n b) (word_rows n b) signs k P P length_p length_p count_p count_p
        (positive-present K O _ (whole-regular K O n (word n b) (word_rows n b) signs P length_p))

    abbrev block_factors : Factors R
    block_factors = new_factor F k block_minor

    block-is : Equal K k A (multiplied K O k block_factors)
    block-is i j x y =
        sym (ap₂ A (chosen-first n k i (omega arith) x) (chosen-first n k j (omega arith) y)) ∙ sym (block.multiplied-out i j x y)

    block_inverse : Matrix K
    block_inverse = resigned K (word_matrix K O k (inverse_word (word k (new_factor F k block_minor))))

    leading-left : Equal K k (times K k block_inverse (multiplied K O (k +ℕ m) b)) (identity K)
    unfolding block_inverse
    leading-left i j x y =
        times-equal-right K k _ A (multiplied K O k block_factors) block-is i j x y
        ∙ inverse_left K O k (word k block_factors) (word_rows k block_factors) (word-diagonal K O k block_factors block.banded.diagonal) i j x y

    leading-right : Equal K k (times K k (multiplied K O (k +ℕ m) b) block_inverse) (identity K)
    unfolding block_inverse
    leading-right i j x y =
        times-equal-left K k A (multiplied K O k block_factors) _ block-is i j x y
        ∙ inverse-right K O k (word k block_factors) (word_rows k block_factors) (word-diagonal K O k block_factors block.banded.diagonal) i j x y

    pub clamped-positive : Pos (minor F (word (k +ℕ m) b) (rows (k +ℕ m) 1 k) (rows (k +ℕ m) 1 k))
    clamped-positive = whole-regular K O n (word n b) (word_rows n b) signs P length_p

    pub clamped-determinant : Pos (determinant K (multiplied K O (k +ℕ m) b) (rows (k +ℕ m) 1 k) (rows (k +ℕ m) 1 k))
    clamped-determinant = subst Pos (word-determinant K O n (word n b) (word_rows n b) P P length_p length_p) clamped-positive

    -- WHAT REMAINS IS THE SCHUR COMPLEMENT
    pub remains-schur : 1 ≤ k → SchurComplement K k m (multiplied K O (k +ℕ m) b) (word_matrix K O m (remains k m b))
    remains-schur some = record {
      inverse = block_inverse;
      left = leading-left;
      right = leading-right;
      entries = schur-entries some block_inverse leading-left;
    }

    -- ITS MINORS are those with the first k rows and columns joined, divided by M(1..k)
    pub schur-minors : 1 ≤ k → (X : Matrix K) → SchurComplement K k m (multiplied K O (k +ℕ m) b) X → (I J : RowSet) → length I ≡ m → length J ≡ m
        → determinant K (multiplied K O (k +ℕ m) b) (with_first k I) (with_first k J)
        ≡ determinant K (multiplied K O (k +ℕ m) b) (rows (k +ℕ m) 1 k) (rows (k +ℕ m) 1 k) * determinant K X I J
    schur-minors some X h I J i j =
        sym (joined-determinant I J i j) ∙ schur-determinant I J i j
        ∙ ap₂ ◌*◌ (word-determinant K O n (word n b) (word_rows n b) P P length_p length_p)
        (determinant-equal K m _ X (schur-same K k m A _ X (remains-schur some) h) I J i j)
