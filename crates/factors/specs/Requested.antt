-- The requested matrix of an operation (document 01, "The matrix and its letters"; document 02): what ordinary matrix arithmetic on the sources' own entries
-- gives. A source's entries are what its factors multiply out to (`multiplied`). The papers' sentences follow from the definition (`Sentences`).
use Rattle.std.specs.Prelude.{◌≡◌, List, [], ◌∷◌, ℕ, ◌+◌, ◌-◌, ◌≤◌, ◌<◌, length}
use Rattle.fraction.specs.Ring.{CRing, Ordered, NonNegative}
use Rattle.words.specs.RowSet.{RowSet, count, rows, with_first}
use Rattle.words.specs.Word.{Factors}
use Rattle.words.specs.Operation.{Step, step, plain, inverted, conversed, transposed, Operation, joined, product, inverse, converse, submatrix, schur}
use Rattle.words.specs.Sources.{Weighted}
use Rattle.minors.specs.Matrix.{Matrix, Equal, identity, times, resigned, submatrix_of, multiplied}
use Rattle.minors.specs.Determinant.{determinant}
use Rattle.bands.specs.Schur.{SchurComplement}

module _ (K : CRing) where
  open K use {R}

  -- X is (-1) ^ (i + j) times the matrix whose product with A is the identity, on the left and on the right, and no other matrix is such an inverse on either
  -- side
  pub record ResignedInverse (n : ℕ) (A X : Matrix K) : Type 0 where
    pub left : Equal K n (times K n (resigned K X) A) (identity K)
    pub right : Equal K n (times K n A (resigned K X)) (identity K)
    pub only-left : (Y : ℕ → ℕ → R) → Equal K n (times K n Y A) (identity K) → Equal K n X (resigned K Y)
    pub only-right : (Y : ℕ → ℕ → R) → Equal K n (times K n A Y) (identity K) → Equal K n X (resigned K Y)

module _ (K : CRing) (O : Ordered K) (n : ℕ) where
  open K use {R}

  -- the matrix X is the one of a step
  abbrev pub StepMatrix : Step R → Matrix K → Type 0
  StepMatrix (step plain b) X = Equal K n X (multiplied K O n b)
  StepMatrix (step inverted b) X = ResignedInverse K n (multiplied K O n b) X
  StepMatrix (step conversed b) X = Equal K n X (λ i j. multiplied K O n b (n + 1 - i) (n + 1 - j))
  StepMatrix (step transposed b) X = Equal K n X (λ i j. multiplied K O n b j i)

  -- the product of the steps' matrices, in their order
  abbrev pub StepsMatrix : List (Step R) → Matrix K → Type 0
  StepsMatrix [] X = Equal K n X (identity K)
  StepsMatrix (s ∷ []) X = StepMatrix s X
  StepsMatrix (s ∷ t ∷ L) X = (Y : Matrix K) × (Z : Matrix K) × StepMatrix s Y × StepsMatrix (t ∷ L) Z × Equal K n X (times K n Y Z)

  -- the matrix X is the one that the operation on sources of n rows asks for
  abbrev pub Requested : Operation R → Matrix K → Type 0
  Requested (joined L) X = StepsMatrix L X
  Requested (submatrix b P Q) X = Equal K (count P) X (submatrix_of K P Q (multiplied K O n b))
  Requested (schur b k) X = SchurComplement K k (n - k) (multiplied K O n b) X

  -- THE PAPERS' SENTENCES: left times right; the re-signed inverse; rows and columns read backwards; the chosen entries; of a recipe, the matrix of its first
  -- step times what the others ask for, a transposed step having rows and columns exchanged; of a Schur complement, block arithmetic, and that its minors
  -- are those of the source with rows and columns 1..k joined to both sets, divided by the minor of 1..k
  abbrev pub Equivalent : Type 0 → Type 0 → Type 0
  Equivalent S T = (S → T) × (T → S)

  pub record Sentences : Type 0 where
    pub product-requested : (b c : Factors R) (X : Matrix K)
        → Equivalent (Requested (product b c) X) (Equal K n X (times K n (multiplied K O n b) (multiplied K O n c)))
    pub inverse-requested : (b : Factors R) (X : Matrix K) → Equivalent (Requested (inverse b) X) (ResignedInverse K n (multiplied K O n b) X)
    pub converse-requested : (b : Factors R) (X : Matrix K)
        → Equivalent (Requested (converse b) X) (Equal K n X (λ i j. multiplied K O n b (n + 1 - i) (n + 1 - j)))
    pub submatrix-requested : (b : Factors R) (P Q : RowSet) (X : Matrix K)
        → Equivalent (Requested (submatrix b P Q) X) (Equal K (count P) X (submatrix_of K P Q (multiplied K O n b)))
    pub recipe-requested : (s t : Step R) (L : List (Step R)) (X : Matrix K)
        → Equivalent (Requested (joined (s ∷ t ∷ L)) X)
        ((Y : Matrix K) × (Z : Matrix K) × Requested (joined (s ∷ [])) Y × Requested (joined (t ∷ L)) Z × Equal K n X (times K n Y Z))
    pub transposed-requested : (b : Factors R) (X : Matrix K)
        → Equivalent (Requested (joined (step transposed b ∷ [])) X) (Equal K n X (λ i j. multiplied K O n b j i))
    pub schur-requested : (b : Factors R) (k : ℕ) (X : Matrix K)
        → Equivalent (Requested (schur b k) X) (SchurComplement K k (n - k) (multiplied K O n b) X)
    pub schur-divided : (b : Factors R) (k : ℕ) (X : Matrix K) → Weighted (NonNegative K O) O.Pos n b → 1 ≤ k → k < n → Requested (schur b k) X
        → (I J : RowSet) → length I ≡ n - k → length J ≡ n - k
        → determinant K X I J
        ≡ K.mul (determinant K (multiplied K O n b) (with_first k I) (with_first k J)) (O.inv (determinant K (multiplied K O n b) (rows n 1 k) (rows n 1 k)))
