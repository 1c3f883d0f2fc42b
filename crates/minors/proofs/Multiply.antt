-- The letters of a word multiplied as matrices give the matrix that the word carries the unit vectors to (word_matrix-carried), and joined steps multiply
-- (joined-multiplied). The converse's word gives the matrix read backwards (word_matrix-converse), exchanged factors its transpose (multiplied-exchanged).
-- The minors of a word are the determinants of its matrix (word-determinant). Equal factors multiply out to equal matrices (multiplied-equal).
use mathlib.Core.Path.{◌≡◌, refl, sym, ap, ap₂, ◌∙◌}
use mathlib.Core.Bool.{cond}
use mathlib.Core.List.{List, [], ◌∷◌}
use Prim.Native.Nat.{ℕ, ◌+◌ as ◌+ℕ◌, ◌-◌}
use lib.Dec.{eqb}
use lib.ListN.{length}
use Rattle.fraction.specs.Ring.{CRing, Ordered, arithmetic}
use Rattle.words.specs.RowSet.{RowSet}
use Rattle.words.specs.Word.{Factors, Letter, E, Et, D, Dinv, Word, word, converse_word, exchanged, transposed_letter, transposed_word}
use Rattle.words.specs.Walk.{minor, carry}
use Rattle.words.specs.Operation.{Step, step_word, joined_word}
use Rattle.words.proofs.Walks.{Rows, All}
use Rattle.words.proofs.Related.{Matched, Letters}
use Rattle.words.proofs.Alike.{letters-word}
use Rattle.minors.specs.Matrix.{In, Equal, times, letter_matrix, word_matrix, multiplied}
use Rattle.minors.proofs.Determinant.{determinant, matrix_of, minor-determinant, determinant-equal}
use Rattle.minors.proofs.Transpose.{transposed-word}
use Rattle.minors.proofs.Sums.{sum-equal}
use Rattle.minors.proofs.Products.{identity-symmetric, times-equal, times-identity, times-transposed, times-reversed, word_matrix-append}
use Rattle.minors.proofs.LetterMatrices.{identity-reversed, letter-carry, letter-converse, letter-transposed}

module _ (K : CRing) (O : Ordered K) where
  open K use {R, mul as ◌*◌}

  infixl 70 ◌*◌
  pub word_matrix-carried : (n : ℕ) (W : Word R) → All (Rows n) W → Equal K n (word_matrix K O n W) (matrix_of K O W)
  unfolding word_matrix matrix_of carry times
  word_matrix-carried n [] h i j x y = refl
  word_matrix-carried n (l ∷ W) h i j x y =
      sum-equal K n _ _ (λ k z. ap (λ m. letter_matrix K O l i k * m) (word_matrix-carried n W h.1 k j z y))
      ∙ letter-carry K O n l h.0 (λ k. matrix_of K O W k j) i x

  pub word-determinant : (n : ℕ) (W : Word R) → All (Rows n) W → (I J : RowSet) → length I ≡ n → length J ≡ n
      → minor (arithmetic K O) W I J ≡ determinant K (word_matrix K O n W) I J
  word-determinant n W h I J i j =
      minor-determinant K O n W h I J i j
      ∙ determinant-equal K n (matrix_of K O W) (word_matrix K O n W) (λ r c x y. sym (word_matrix-carried n W h r c x y)) I J i j

  -- of two steps or more: the first step's matrix times the others'
  pub joined-multiplied : (n : ℕ) (s t : Step R) (L : List (Step R))
      → Equal K n (word_matrix K O n (joined_word n (s ∷ t ∷ L))) (times K n (word_matrix K O n (step_word n s)) (word_matrix K O n (joined_word n (t ∷ L))))
  unfolding joined_word
  joined-multiplied n s t L = word_matrix-append K O n (step_word n s) (joined_word n (t ∷ L))

  pub word_matrix-converse : (n : ℕ) (W : Word R) → All (Rows n) W
      → Equal K n (word_matrix K O n (converse_word n W)) (λ i j. word_matrix K O n W (n +ℕ 1 - i) (n +ℕ 1 - j))
  unfolding word_matrix converse_word
  word_matrix-converse n [] h = identity-reversed K n
  word_matrix-converse n (l ∷ W) h = λ i j x y.
      times-equal K n _ _ _ _ (letter-converse K O n l h.0) (word_matrix-converse n W h.1) i j x y
      ∙ sym (times-reversed K n (letter_matrix K O l) (word_matrix K O n W) i j)

  pub word_matrix-transposed : (n : ℕ) (W : Word R) → Equal K n (word_matrix K O n (transposed_word W)) (λ i j. word_matrix K O n W j i)
  unfolding word_matrix transposed_word
  word_matrix-transposed n [] i j x y = identity-symmetric K i j
  word_matrix-transposed n (l ∷ W) i j x y =
      word_matrix-append K O n (transposed_word W) (transposed_letter l ∷ []) i j x y
      ∙ times-equal K n _ _ _ _ (word_matrix-transposed n W)
      (λ r c z w. times-identity K n _ r c z w ∙ letter-transposed K O l r c) i j x y
      ∙ sym (times-transposed K n (letter_matrix K O l) (word_matrix K O n W) i j)

  pub multiplied-exchanged : (n : ℕ) (b : Factors R) → Equal K n (multiplied K O n (exchanged b)) (λ i j. multiplied K O n b j i)
  multiplied-exchanged n b i j x y = ap (λ W. word_matrix K O n W i j) (sym (transposed-word n b)) ∙ word_matrix-transposed n (word n b) i j x y

  -- words with equal letters have equal matrices
  letter-equal : (n : ℕ) (x y : Letter R) → Letters ◌≡◌ ◌≡◌ n x y → Equal K n (letter_matrix K O x) (letter_matrix K O y)
  letter-equal n (E j w) (E i v) h r c x y = ap₂ (λ k u. letter_matrix K O (E k u) r c) h.0 h.1
  letter-equal n (Et j w) (Et i v) h r c x y = ap₂ (λ k u. letter_matrix K O (Et k u) r c) h.0 h.1
  letter-equal n (D e) (D f) h r c x y = ap (λ u. cond (eqb r c) u K.𝟘) (h r x.0 x.1)
  letter-equal n (Dinv e) (Dinv f) h r c x y = ap (λ u. cond (eqb r c) (O.inv u) K.𝟘) (h r x.0 x.1)
  letter-equal n (E j w) (Et i v) h r c x y = elim h [ ]
  letter-equal n (E j w) (D f) h r c x y = elim h [ ]
  letter-equal n (E j w) (Dinv f) h r c x y = elim h [ ]
  letter-equal n (Et j w) (E i v) h r c x y = elim h [ ]
  letter-equal n (Et j w) (D f) h r c x y = elim h [ ]
  letter-equal n (Et j w) (Dinv f) h r c x y = elim h [ ]
  letter-equal n (D e) (E i v) h r c x y = elim h [ ]
  letter-equal n (D e) (Et i v) h r c x y = elim h [ ]
  letter-equal n (D e) (Dinv f) h r c x y = elim h [ ]
  letter-equal n (Dinv e) (E i v) h r c x y = elim h [ ]
  letter-equal n (Dinv e) (Et i v) h r c x y = elim h [ ]
  letter-equal n (Dinv e) (D f) h r c x y = elim h [ ]

  word_matrix-equal : (n : ℕ) (W X : Word R) → Matched (Letters ◌≡◌ ◌≡◌ n) W X → Equal K n (word_matrix K O n W) (word_matrix K O n X)
  unfolding word_matrix
  word_matrix-equal n [] [] h = λ i j x y. refl
  word_matrix-equal n (l ∷ W) (m ∷ X) h =
      times-equal K n (letter_matrix K O l) (letter_matrix K O m) (word_matrix K O n W) (word_matrix K O n X) (letter-equal n l m h.0)
      (word_matrix-equal n W X h.1)
  word_matrix-equal n [] (m ∷ X) h = elim h [ ]
  word_matrix-equal n (l ∷ W) [] h = elim h [ ]

  -- equal factors multiply out to equal matrices
  pub multiplied-equal : (n : ℕ) (b c : Factors R) → ((i j : ℕ) → In n i → In n j → b i j ≡ c i j) → Equal K n (multiplied K O n b) (multiplied K O n c)
  multiplied-equal n b c h =
      word_matrix-equal n (word n b) (word n c)
      (letters-word ◌≡◌ ◌≡◌ n b c (record { off = λ i j p q r s e. h i j (p, q) (r, s); on = λ i p q. h i i (p, q) (p, q) }))
