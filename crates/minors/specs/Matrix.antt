-- Matrices over a ring, and what a word's letters multiply out to (document 01, "The matrix and its letters"). Rows and columns count from 1.
use Rattle.std.specs.Prelude.{◌≡◌, cond, ◌&&◌, [], ◌∷◌, ℕ, zero, suc, ◌+◌, ◌-◌, eqb}
use Rattle.fraction.specs.Ring.{CRing, Ordered}
use Rattle.words.specs.RowSet.{RowSet}
use Rattle.words.specs.Word.{Factors, Letter, E, Et, D, Dinv, Word, word}
use Rattle.words.specs.Sources.{Each}
pub use Rattle.words.specs.RowSet.{In, chosen}

module _ (K : CRing) where
  open K use {R, 𝟘, 𝟙, add, mul, neg}

  -- the entry at row i and column j
  abbrev pub Matrix : Type 0
  Matrix = ℕ → ℕ → R

  -- the same entries, at rows and columns 1 .. n
  abbrev pub Equal : ℕ → Matrix → Matrix → Type 0
  Equal n A B = (i j : ℕ) → In n i → In n j → A i j ≡ B i j

  abbrev pub identity : Matrix
  identity i j = cond (eqb i j) 𝟙 𝟘

  -- f 1 + .. + f n
  unfoldable pub sum : ℕ → (ℕ → R) → R
  sum zero f = 𝟘
  sum (suc n) f = add (sum n f) (f (suc n))

  -- the product of two matrices of n rows: entry (i, j) is the sum over k of A (i, k) times B (k, j)
  unfoldable pub times : ℕ → Matrix → Matrix → Matrix
  times n A B i j = sum n (λ k. mul (A i k) (B k j))

  -- (-1) ^ i
  unfoldable pub sign : ℕ → R
  sign zero = 𝟙
  sign (suc i) = neg (sign i)

  -- the entries of A with the signs (-1) ^ (i + j)
  abbrev pub resigned : Matrix → Matrix
  resigned A i j = mul (sign (i + j)) (A i j)

  -- the entries of A at the chosen rows P and columns Q
  abbrev pub submatrix_of : RowSet → RowSet → Matrix → Matrix
  submatrix_of P Q A i j = A (chosen P i) (chosen Q j)

module _ (K : CRing) (O : Ordered K) where
  open K use {R, 𝟘}

  -- E j w is the identity with w at (j, j - 1), Et j w its transpose
  abbrev pub letter_matrix : Letter R → Matrix K
  letter_matrix (E j w) r c = cond (eqb r j && eqb c (j - 1)) w (identity K r c)
  letter_matrix (Et j w) r c = cond (eqb r (j - 1) && eqb c j) w (identity K r c)
  letter_matrix (D e) r c = cond (eqb r c) (e r) 𝟘
  letter_matrix (Dinv e) r c = cond (eqb r c) (O.inv (e r)) 𝟘

  -- the letters of a word multiplied as matrices of n rows
  unfoldable pub word_matrix : ℕ → Word R → Matrix K
  word_matrix n [] = identity K
  word_matrix n (l ∷ W) = times K n (letter_matrix l) (word_matrix n W)

  -- what factors multiply out to
  abbrev pub multiplied : ℕ → Factors R → Matrix K
  multiplied n b = word_matrix n (word n b)

  -- positive factors b (i, j), i and j from 1 to n
  abbrev pub Positive : ℕ → Factors R → Type 0
  Positive = Each O.Pos
