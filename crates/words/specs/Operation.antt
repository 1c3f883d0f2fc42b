-- The operations (document 01): product, re-signed inverse and converse, which are steps joined, and submatrix; and the Schur complement (document 02, (l)).
-- Their words, the minors that are asked for, the new factors and their bounds, over any arithmetic.
use Rattle.std.specs.Prelude.{◌≡◌, List, [], ◌∷◌, ◌++◌, ℕ, ◌+◌, ◌-◌, ◌*◌, ◌≤◌, ◌<◌, length}
use Rattle.fraction.specs.Arithmetic.{Arithmetic}
use Rattle.words.specs.RowSet.{RowSet, count, among, with_first}
use Rattle.words.specs.Word.{Factors, Word, word, inverse_word, converse_word, transposed_word, for_up}
use Rattle.words.specs.Walk.{minor}
use Rattle.words.specs.Formula.{new_factor}

-- A source, and the way that its word is taken.
pub data Way : Type 0 where
  plain inverted conversed transposed : Way

pub data Step (A : Type 0) : Type 0 where
  step : Way → Factors A → Step A

-- The operations: steps joined; the chosen rows and columns of a source; what remains of a source after its first k rows and columns.
pub data Operation (A : Type 0) : Type 0 where
  joined : List (Step A) → Operation A
  submatrix : Factors A → RowSet → RowSet → Operation A
  schur : Factors A → ℕ → Operation A

module _ {A : Type 0} (n : ℕ) where
  abbrev pub step_word : Step A → Word A
  step_word (step plain b) = word n b
  step_word (step inverted b) = inverse_word (word n b)
  step_word (step conversed b) = converse_word n (word n b)
  step_word (step transposed b) = transposed_word (word n b)

  -- the words of the steps, joined in their order
  unfoldable pub joined_word : List (Step A) → Word A
  joined_word [] = []
  joined_word (s ∷ []) = step_word s
  joined_word (s ∷ t ∷ L) = step_word s ++ joined_word (t ∷ L)

-- the bound returned with the result of m steps of n rows: four minors of m (2n² - n) roundings each, two products and a quotient
abbrev pub bound_of : ℕ → ℕ → ℕ
bound_of m n = 4 * m * (2 * n * n - n) + 3

module _ {A : Type 0} where
  -- product, re-signed inverse and converse are steps joined
  abbrev pub product : Factors A → Factors A → Operation A
  product b c = joined (step plain b ∷ step plain c ∷ [])

  abbrev pub inverse : Factors A → Operation A
  inverse b = joined (step inverted b ∷ [])

  abbrev pub converse : Factors A → Operation A
  converse b = joined (step conversed b ∷ [])

  -- the steps whose words are joined
  abbrev pub steps : Operation A → List (Step A)
  steps (joined L) = L
  steps (submatrix b P Q) = step plain b ∷ []
  steps (schur b k) = step plain b ∷ []

  -- a set of the result's rows as a set of the sources' rows: sets of a submatrix count among the chosen rows; to those of what remains the rows 1 .. k are
  -- joined, so that M(1..k) stands for the empty minor
  abbrev pub rows_of : Operation A → RowSet → RowSet
  rows_of (joined L) I = I
  rows_of (submatrix b P Q) I = among P I
  rows_of (schur b k) I = with_first k I

  abbrev pub columns_of : Operation A → RowSet → RowSet
  columns_of (joined L) J = J
  columns_of (submatrix b P Q) J = among Q J
  columns_of (schur b k) J = with_first k J

  -- how many rows the result has, where the sources have n
  abbrev pub size : ℕ → Operation A → ℕ
  size n (joined L) = n
  size n (submatrix b P Q) = count P
  size n (schur b k) = n - k

  -- what fits sources of n rows: one step or more; chosen rows and columns of n, equally many; one row or more clamped, and not all
  abbrev pub Fit : ℕ → Operation A → Type 0
  Fit n (joined L) = 1 ≤ length L
  Fit n (submatrix b P Q) = (length P ≡ n) × (length Q ≡ n) × (count Q ≡ count P)
  Fit n (schur b k) = (1 ≤ k) × (k < n)

  abbrev pub bound : ℕ → Operation A → ℕ
  bound n o = bound_of (length (steps o)) n

-- the factors of k rows, row by row
unfoldable pub row_by_row : {A : Type 0} → ℕ → Factors A → List A
row_by_row k b = for_up 1 k (λ i. for_up 1 k (λ j. b i j ∷ []))

module _ (K : Arithmetic) where
  open K use {Num}

  -- the minor that the formulas ask for at sets of the result's rows and columns: the walk is over the whole joined word
  abbrev pub asked_minor : ℕ → Operation Num → RowSet → RowSet → Num
  asked_minor n o I J = minor K (joined_word n (steps o)) (rows_of o I) (columns_of o J)

  -- the operation's result: the new factors of these minors
  unfoldable pub result : ℕ → Operation Num → Factors Num
  result n o = new_factor K (size n o) (asked_minor n o)

-- the same factors, steps and operation in other numbers
module _ {A B : Type 0} (f : A → B) where
  abbrev pub each_factor : Factors A → Factors B
  each_factor b i j = f (b i j)

  abbrev pub each_step : Step A → Step B
  each_step (step w b) = step w (each_factor b)

  abbrev pub each_steps : List (Step A) → List (Step B)
  each_steps [] = []
  each_steps (s ∷ L) = each_step s ∷ each_steps L

  abbrev pub each_source : Operation A → Operation B
  each_source (joined L) = joined (each_steps L)
  each_source (submatrix b P Q) = submatrix (each_factor b) P Q
  each_source (schur b k) = schur (each_factor b) k
