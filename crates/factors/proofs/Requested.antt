-- THE REQUESTED MATRIX of an operation is one matrix (requested-same, multiplied-same): that of the operation's words (requested-is), to which the exact
-- factors multiply out (exact-requested). Its minors are those that are asked for, of a Schur complement divided by M(1..k) (minors-requested,
-- determinant-requested): so it is singular where the minor with all rows and columns is zero (singular-requested). The papers' sentences say the same
-- (sentences).
use mathlib.Core.Path.{◌≡◌, refl, sym, ap, ◌∙◌, subst}
use mathlib.Core.Logic.{◌↔◌}
use mathlib.Core.Bool.{true}
use mathlib.Core.List.{List, [], ◌∷◌}
use Prim.Native.Nat.{ℕ, ◌-◌, ◌≤◌, ◌<◌, ◌+◌ as ◌+ℕ◌}
use lib.ListN.{length}
use borrow.Author.Tests.{eqb-true, eq-eqb}
use Rattle.fraction.specs.Fraction.{Fraction, exact}
use Rattle.fraction.specs.Ring.{CRing, Ordered, NonNegative}
use Rattle.fraction.specs.Rational.{rationals, rationals-ordered, rational}
use Rattle.fraction.proofs.Ring.{*-assoc, *-comm, one-*, *-zero, zero-*}
use Rattle.fraction.proofs.Ordered.{pos-nonzero, pos-cancel, quotient-unique}
use Rattle.words.specs.RowSet.{RowSet, rows, with_first}
use Rattle.words.specs.Word.{Factors, word, inverse_word}
use Rattle.words.specs.Operation.{Step, step, plain, inverted, conversed, transposed, step_word, joined_word, Operation, joined, submatrix, schur}
use Rattle.words.specs.Operation.{size, Fit, asked_minor, result, each_source}
use Rattle.words.specs.Sources.{Weighted, Source, Sources}
use Rattle.words.proofs.RowSets.{length-rows}
use Rattle.words.proofs.Walks.{All}
use Rattle.words.proofs.Stages.{word_rows}
use Rattle.words.proofs.Operations.{size-each}
use Rattle.minors.specs.Matrix.{Matrix, Equal, identity, times, sign, resigned, word_matrix, multiplied}
use Rattle.minors.proofs.Products.{times-equal, times-equal-left, times-equal-right}
use Rattle.minors.specs.Determinant.{determinant}
use Rattle.minors.proofs.Determinant.{determinant-equal}
use Rattle.minors.proofs.Complement.{Diagonal, word-diagonal}
use Rattle.minors.proofs.Multiply.{word_matrix-converse, word_matrix-transposed, joined-multiplied}
use Rattle.minors.proofs.Inverse.{inverse-unique, inverse_left, inverse-right, sign-square}
use Rattle.factors.specs.Requested.{ResignedInverse, StepMatrix, StepsMatrix, Requested, Sentences}
use Rattle.factors.specs.Demand.{Proper, BandedFractions, multiplied_out, GivesRequested, determinant_of, Regular}
use Rattle.bands.proofs.Clamped.{remains}
use Rattle.bands.specs.Schur.{SchurComplement}
use Rattle.bands.proofs.Schur.{schur-same}
use Rattle.bands.proofs.Remains.{clamped-determinant, remains-schur, schur-minors}
use Rattle.factors.proofs.Result.{operation_matrix, WeightedSources, empty_minor, parted-weighted, at_parted, empty-positive, asked-determinant}
use Rattle.factors.proofs.Exact.{zero-rational, rational-zero-back, rational-weighted, rational-fit, asked-rational, exact-multiplied}

-- a positive number times another is zero only where that is
positive-zero : (K : CRing) (O : Ordered K) (x y : K.R) → O.Pos x → K.mul x y ≡ K.𝟘 → y ≡ K.𝟘
positive-zero K O x y p e = pos-cancel K O x y K.𝟘 p (*-comm K y x ∙ e ∙ sym (zero-* K x))

-- THE RE-SIGNED INVERSE: the matrix of the inverse's word is it
module _ (K : CRing) (O : Ordered K) where
  open K use {R, mul as ◌*◌}

  infixl 70 ◌*◌
  signed-twice : (i : ℕ) (x y : R) → y ≡ sign K i * x → x ≡ sign K i * y
  signed-twice i x y e = sym (one-* K x) ∙ ap (λ z. z * x) (sym (sign-square K i)) ∙ *-assoc K _ _ _ ∙ ap (λ z. sign K i * z) (sym e)

  pub inverse-resigned : (n : ℕ) (b : Factors R) → All (Diagonal K O n) (word n b) → (X : Matrix K) → Equal K n X (word_matrix K O n (inverse_word (word n b)))
      → ResignedInverse K n (multiplied K O n b) X
  inverse-resigned n b p X e =
      record {
        left = left;
        right = right;
        only-left = λ Y h i j x y. signed-twice (i +ℕ j) (X i j) (Y i j) (inverse-unique K n (multiplied K O n b) Y (resigned K X) h right i j x y);
        only-right = λ Y h i j x y. signed-twice (i +ℕ j) (X i j) (Y i j) (sym (inverse-unique K n (multiplied K O n b) (resigned K X) Y left h i j x y));
      }
    where
      signs : Equal K n (resigned K X) (resigned K (word_matrix K O n (inverse_word (word n b))))
      signs i j x y = ap (λ z. sign K (i +ℕ j) * z) (e i j x y)

      left : Equal K n (times K n (resigned K X) (multiplied K O n b)) (identity K)
      left i j x y = times-equal-left K n _ _ (multiplied K O n b) signs i j x y
          ∙ inverse_left K O n (word n b) (word_rows n b) p i j x y

      right : Equal K n (times K n (multiplied K O n b) (resigned K X)) (identity K)
      right i j x y = times-equal-right K n (multiplied K O n b) _ _ signs i j x y
          ∙ inverse-right K O n (word n b) (word_rows n b) p i j x y

module _ (K : CRing) (O : Ordered K) (n : ℕ) where
  open K use {R}

  -- THE MATRIX OF THE WORDS is requested
  step-requested : (s : Step R) → Source (Weighted (NonNegative K O) O.Pos n) s → (X : Matrix K) → Equal K n X (word_matrix K O n (step_word n s))
      → StepMatrix K O n s X
  step-requested (step plain b) h X e = e
  step-requested (step inverted b) h X e = inverse-resigned K O n b (word-diagonal K O n b h.on) X e
  step-requested (step conversed b) h X e = λ i j x y. e i j x y ∙ word_matrix-converse K O n (word n b) (word_rows n b) i j x y
  step-requested (step transposed b) h X e = λ i j x y. e i j x y ∙ word_matrix-transposed K O n (word n b) i j x y

  steps-requested : (L : List (Step R)) → Sources (Weighted (NonNegative K O) O.Pos n) L → (X : Matrix K)
      → Equal K n X (word_matrix K O n (joined_word n L)) → StepsMatrix K O n L X
  unfolding joined_word word_matrix
  steps-requested [] h X e = e
  steps-requested (s ∷ []) h X e = step-requested s h.0 X e
  steps-requested (s ∷ t ∷ L) h X e = (
    word_matrix K O n (step_word n s),
    word_matrix K O n (joined_word n (t ∷ L)),
    step-requested s h.0 _ (λ i j x y. refl),
    steps-requested (t ∷ L) h.1 _ (λ i j x y. refl),
    λ i j x y. e i j x y ∙ joined-multiplied K O n s t L i j x y,
  )

  -- of a Schur complement: what remains of the source's word
  schur-is : (b : Factors R) (k : ℕ) → Weighted (NonNegative K O) O.Pos n b → 1 ≤ k → k < n → (X : Matrix K)
      → Equal K (n - k) X (word_matrix K O (n - k) (remains k (n - k) b)) → SchurComplement K k (n - k) (multiplied K O n b) X
  schur-is b k h o l X e =
      let s = remains-schur K O k (n - k) b (parted-weighted K O n k b l h) o in
      at_parted n k l (λ q. SchurComplement K k (n - k) (multiplied K O q b) X)
      (record { inverse = s.inverse; left = s.left; right = s.right; entries = λ i j x y. e i j x y ∙ s.entries i j x y })

  schur-divided : (b : Factors R) (k : ℕ) (X : Matrix K) → Weighted (NonNegative K O) O.Pos n b → 1 ≤ k → k < n
      → SchurComplement K k (n - k) (multiplied K O n b) X → (I J : RowSet) → length I ≡ n - k → length J ≡ n - k
      → determinant K X I J
      ≡ K.mul (determinant K (multiplied K O n b) (with_first k I) (with_first k J)) (O.inv (determinant K (multiplied K O n b) (rows n 1 k) (rows n 1 k)))
  schur-divided b k X h o l s I J i j =
      let c = determinant K (multiplied K O n b) (rows n 1 k) (rows n 1 k) in
      let g = parted-weighted K O n k b l h in
      let p : O.Pos c
      = at_parted n k l (λ q. O.Pos (determinant K (multiplied K O q b) (rows q 1 k) (rows q 1 k))) (clamped-determinant K O k (n - k) b g) in
      let e : determinant K (multiplied K O n b) (with_first k I) (with_first k J) ≡ K.mul c (determinant K X I J)
      = at_parted n k l (λ q. SchurComplement K k (n - k) (multiplied K O q b) X → determinant K (multiplied K O q b) (with_first k I) (with_first k J)
      ≡ K.mul (determinant K (multiplied K O q b) (rows q 1 k) (rows q 1 k)) (determinant K X I J))
      (λ s. schur-minors K O k (n - k) b g o X s I J i j) s in
      quotient-unique K O _ c (determinant K X I J) (pos-nonzero K O c p) (*-comm K _ c ∙ sym e)

  pub requested-is : (o : Operation R) → WeightedSources K O n o → Fit n o → (X : Matrix K) → Equal K (size n o) X (operation_matrix K O n o)
      → Requested K O n o X
  requested-is (joined L) h f X e = steps-requested L h X e
  requested-is (submatrix b P Q) h f X e = e
  requested-is (schur b k) h f X e = schur-is b k h.0 f.0 f.1 X e

  -- AND NO OTHER
  resigned-same : (A X Y : Matrix K) → ResignedInverse K n A X → ResignedInverse K n A Y → Equal K n X Y
  resigned-same A X Y h g i j x y = h.only-left (resigned K Y) g.left i j x y ∙ sym (signed-twice K O (i +ℕ j) (Y i j) (resigned K Y i j) refl)

  equal-same : (k : ℕ) (A X Y : Matrix K) → Equal K k X A → Equal K k Y A → Equal K k X Y
  equal-same k A X Y h g i j x y = h i j x y ∙ sym (g i j x y)

  step_same : (s : Step R) (X Y : Matrix K) → StepMatrix K O n s X → StepMatrix K O n s Y → Equal K n X Y
  step_same (step plain b) X Y h g = equal-same n _ X Y h g
  step_same (step inverted b) X Y h g = resigned-same (multiplied K O n b) X Y h g
  step_same (step conversed b) X Y h g = equal-same n _ X Y h g
  step_same (step transposed b) X Y h g = equal-same n _ X Y h g

  steps-same : (L : List (Step R)) (X Y : Matrix K) → StepsMatrix K O n L X → StepsMatrix K O n L Y → Equal K n X Y
  steps-same [] X Y h g = equal-same n _ X Y h g
  steps-same (s ∷ []) X Y h g = step_same s X Y h g
  steps-same (s ∷ t ∷ L) X Y h g = λ i j x y.
      h.4 i j x y
      ∙ times-equal K n h.0 g.0 h.1 g.1 (step_same s h.0 g.0 h.2 g.2) (steps-same (t ∷ L) h.1 g.1 h.3 g.3) i j x y
      ∙ sym (g.4 i j x y)

  pub requested-same : (o : Operation R) (X Y : Matrix K) → Requested K O n o X → Requested K O n o Y → Equal K (size n o) X Y
  requested-same (joined L) X Y h g = steps-same L X Y h g
  requested-same (submatrix b P Q) X Y h g = equal-same _ _ X Y h g
  requested-same (schur b k) X Y h g = schur-same K k (n - k) (multiplied K O n b) X Y h g

  -- THE PAPERS' SENTENCES
  pub sentences : Sentences K O n
  sentences = record {
    product-requested = λ b c X. (
      λ h i j x y. h.4 i j x y ∙ times-equal K n h.0 (multiplied K O n b) h.1 (multiplied K O n c) h.2 h.3 i j x y,
      λ e. (multiplied K O n b, multiplied K O n c, λ i j x y. refl, λ i j x y. refl, e),
    );
    inverse-requested = λ b X. (λ h. h, λ h. h);
    converse-requested = λ b X. (λ h. h, λ h. h);
    submatrix-requested = λ b P Q X. (λ h. h, λ h. h);
    recipe-requested = λ s t L X. (λ h. h, λ h. h);
    transposed-requested = λ b X. (λ h. h, λ h. h);
    schur-requested = λ b k X. (λ h. h, λ h. h);
    schur-divided = schur-divided;
  }

module _ (n : ℕ) (o : Operation Fraction) where
  same : size n (each_source rational o) ≡ size n o
  same = size-each rational n o

  module _ (proper : Proper (BandedFractions n) n o) where
    -- the matrix of the words
    words-requested : (X : Matrix rationals) → Equal rationals (size n o) X (operation_matrix rationals rationals-ordered n (each_source rational o))
        → Requested rationals rationals-ordered n (each_source rational o) X
    words-requested X e =
        requested-is rationals rationals-ordered n (each_source rational o) (rational-weighted n o proper) (rational-fit n o proper) X
        (subst (λ k. Equal rationals k X (operation_matrix rationals rationals-ordered n (each_source rational o))) (sym same) e)

    pub exact-requested : Regular n o → GivesRequested n o (result exact n o)
    exact-requested g = words-requested _ (exact-multiplied n o proper g)

    -- THE MINORS that are asked for are those of the requested matrix, times M(1..k) of a Schur complement and times 1 else
    abbrev empty_of : rationals.R
    empty_of = empty_minor rationals rationals-ordered n (each_source rational o)

    pub minors-requested : (X : Matrix rationals) → Requested rationals rationals-ordered n (each_source rational o) X
        → (I J : RowSet) → length I ≡ size n o → length J ≡ size n o
        → rational (asked_minor exact n o I J) ≡ rationals.mul (empty_minor rationals rationals-ordered n (each_source rational o)) (determinant rationals X I J)
    minors-requested X h I J i j =
        asked-rational n o proper I J i
        ∙ asked-determinant rationals rationals-ordered n (each_source rational o) (rational-weighted n o proper) (rational-fit n o proper) I J
        (i ∙ sym same) (j ∙ sym same)
        ∙ ap (rationals.mul empty_of) (determinant-equal rationals (size n o) A X
        (subst (λ m. Equal rationals m A X) same
        (requested-same rationals rationals-ordered n (each_source rational o) A X (words-requested A (λ i j x y. refl)) h))
        I J i j)
      where
        A : Matrix rationals
        A = operation_matrix rationals rationals-ordered n (each_source rational o)

    -- THE DETERMINANT
    pub determinant-requested : (X : Matrix rationals) → Requested rationals rationals-ordered n (each_source rational o) X
        → rational (determinant_of n o) ≡ rationals.mul (empty_minor rationals rationals-ordered n (each_source rational o))
        (determinant rationals X (rows (size n o) 1 (size n o)) (rows (size n o) 1 (size n o)))
    determinant-requested X h =
        minors-requested X h (rows (size n o) 1 (size n o)) (rows (size n o) 1 (size n o)) (length-rows (size n o) 1 (size n o))
        (length-rows (size n o) 1 (size n o))

    -- it is singular, its determinant zero, where that minor is zero
    pub singular-requested : (X : Matrix rationals) → Requested rationals rationals-ordered n (each_source rational o) X
        → (exact.is_zero (determinant_of n o) ≡ true) ↔ (determinant rationals X (rows (size n o) 1 (size n o)) (rows (size n o) 1 (size n o)) ≡ rationals.𝟘)
    singular-requested X h = (
      λ e. positive-zero rationals rationals-ordered empty_of _
          (empty-positive rationals rationals-ordered n (each_source rational o) (rational-weighted n o proper) (rational-fit n o proper))
          (sym (determinant-requested X h) ∙ zero-rational (determinant_of n o) (eqb-true _ 0 e)),
      λ e. eq-eqb _ 0 (rational-zero-back (determinant_of n o) (determinant-requested X h ∙ ap (rationals.mul empty_of) e ∙ *-zero rationals empty_of)),
    )

  -- so fractions that multiply out to it multiply out to one matrix
  pub multiplied-same : (c d : Factors Fraction) → GivesRequested n o c → GivesRequested n o d
      → Equal rationals (size n o) (multiplied_out (size n o) c) (multiplied_out (size n o) d)
  multiplied-same c d h g =
      subst (λ k. Equal rationals k (multiplied_out (size n o) c) (multiplied_out (size n o) d)) same
      (requested-same rationals rationals-ordered n (each_source rational o) _ _ h g)
