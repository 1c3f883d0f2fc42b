-- What it means that eight items are carried through a word (`Carries`): those of the n rows agree with the carried vector. One letter of it (`Scaled`,
-- `letter_of`), and how far the exponents of the items may be meanwhile (`carry_reach`, `working_reach`).
use Rattle.std.specs.Prelude.{◌≡◌, List, ℕ, ◌<◌, length, get_or}
use Rattle.number.specs.Signed.{plain, zero_signed, signed_product, signed_arithmetic}
use Rattle.number.specs.declared.Number.{Number}
use Rattle.number.specs.declared.signed.Signed.{Signed}
use Rattle.words.specs.RowSet.{In}
use Rattle.words.specs.Word.{Factors, Letter, D, Word}
use Rattle.words.specs.Walk.{carry}
use Rattle.items.specs.Items.{vector_of}
use Rattle.lists.specs.Lists.{signed_word}

-- the items 1 .. n of two vectors are the same
abbrev pub SameItems : ℕ → (v w : ℕ → Signed) → Type 0
SameItems n v w = (i : ℕ) → In n i → v i ≡ w i

-- the letters of W carry v to u
pub record Carries (n : ℕ) (W : Word Signed) (v u : List Signed) : Type 0 where
  pub eight : length u ≡ 8
  pub agrees : SameItems n (vector_of u) (carry signed_arithmetic W (vector_of v))

-- the first k of v are multiplied by their entries in u, and no other is changed
pub record Scaled (k : ℕ) (b : Factors Number) (v u : List Signed) : Type 0 where
  pub eight : length u ≡ 8
  pub done : (i : ℕ) → In k i → vector_of u i ≡ signed_product (vector_of v i) (plain (b i i))
  pub rest : (i : ℕ) → k < i → vector_of u i ≡ vector_of v i

-- letter number t of the word, counted from 0
unfoldable pub letter_of : ℕ → Factors Number → ℕ → Letter Signed
letter_of n b t = get_or (signed_word n b) t (D (λ i. zero_signed))

-- a letter takes exponents at most that far: a product by a factor 1033, and a sum 31
abbrev pub carry_reach : ℕ
carry_reach = 1064

-- the letters of eight rows, fewer than 64, stay below that
abbrev pub working_reach : ℕ
working_reach = 100000
