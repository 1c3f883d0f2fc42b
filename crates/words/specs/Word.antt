-- Letters and words (document 01, "The matrix and its letters"). Rows, columns and letters count from 1.
use Rattle.std.specs.Prelude.{List, [], ◌∷◌, ◌++◌, ℕ, zero, suc, ◌+◌, ◌-◌}

-- the factors b (i, j) of a matrix
abbrev pub Factors : Type 0 → Type 0
Factors A = ℕ → ℕ → A

-- E j w is the identity with w at (j, j - 1), Et j w its transpose, D e the diagonal of e 1, e 2, ..; Dinv e is D dividing instead of multiplying
pub data Letter (A : Type 0) : Type 0 where
  E : ℕ → A → Letter A
  Et : ℕ → A → Letter A
  D : (ℕ → A) → Letter A
  Dinv : (ℕ → A) → Letter A

-- left to right
abbrev pub Word : Type 0 → Type 0
Word A = List (Letter A)

-- the sum of f over the letters of a word
unfoldable pub total : {A : Type 0} → (Letter A → ℕ) → Word A → ℕ
total f [] = 0
total f (l ∷ W) = f l + total f W

module _ {A : Type 0} where
  -- f a, f (a + 1), .. : c of them; f a, f (a - 1), .. : c of them
  unfoldable pub ascending : ℕ → ℕ → (ℕ → List A) → List A
  ascending a zero f = []
  ascending a (suc c) f = f a ++ ascending (suc a) c f

  unfoldable pub descending : ℕ → ℕ → (ℕ → List A) → List A
  descending a zero f = []
  descending a (suc c) f = f a ++ descending (a - 1) c f

  -- for i = a to b; for i = b down to a
  abbrev pub for_up : ℕ → ℕ → (ℕ → List A) → List A
  for_up a b f = ascending a (suc b - a) f

  abbrev pub for_down : ℕ → ℕ → (ℕ → List A) → List A
  for_down b a f = descending b (suc b - a) f

module _ {A : Type 0} where
  -- the word of the matrix of n rows with factors b
  unfoldable pub word : ℕ → Factors A → Word A
  word n b =
      for_up 1 (n - 1) (λ i. for_up (n - i + 1) n (λ j. E j (b j (i + j - n)) ∷ []))
      ++ (D (λ i. b i i)
      ∷ for_down (n - 1) 1 (λ i. for_down n (n - i + 1) (λ j. Et j (b (i + j - n) j) ∷ [])))

  -- the re-signed inverse: the word reversed, letters kept, D dividing instead of multiplying
  abbrev pub inverse_letter : Letter A → Letter A
  inverse_letter (E j w) = E j w
  inverse_letter (Et j w) = Et j w
  inverse_letter (D e) = Dinv e
  inverse_letter (Dinv e) = D e

  unfoldable pub inverse_word : Word A → Word A
  inverse_word [] = []
  inverse_word (l ∷ W) = inverse_word W ++ (inverse_letter l ∷ [])

  -- the converse: each E j becomes Et (n + 2 - j), each Et j becomes E (n + 2 - j), D read backwards; order kept
  abbrev pub converse_letter : ℕ → Letter A → Letter A
  converse_letter n (E j w) = Et (n + 2 - j) w
  converse_letter n (Et j w) = E (n + 2 - j) w
  converse_letter n (D e) = D (λ i. e (n + 1 - i))
  converse_letter n (Dinv e) = Dinv (λ i. e (n + 1 - i))

  unfoldable pub converse_word : ℕ → Word A → Word A
  converse_word n [] = []
  converse_word n (l ∷ W) = converse_letter n l ∷ converse_word n W

  -- the transpose: b (i, j) and b (j, i) exchanged
  abbrev pub exchanged : Factors A → Factors A
  exchanged b i j = b j i

  -- the word of the transposed matrix: reversed, E and Et exchanged
  abbrev pub transposed_letter : Letter A → Letter A
  transposed_letter (E j w) = Et j w
  transposed_letter (Et j w) = E j w
  transposed_letter (D e) = D e
  transposed_letter (Dinv e) = Dinv e

  unfoldable pub transposed_word : Word A → Word A
  transposed_word [] = []
  transposed_word (l ∷ W) = transposed_word W ++ (transposed_letter l ∷ [])
