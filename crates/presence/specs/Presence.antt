-- Which minors are not zero: the walk in the arithmetic of Bools (presence), of the word or of its transpose (letter_if, word_if, turned_by, place_if).
use Rattle.std.specs.Prelude.{Bool, true, false, not, ◌&&◌, ◌||◌, ℕ, ◌-◌}
use Rattle.fraction.specs.Arithmetic.{Arithmetic}
use Rattle.number.specs.declared.Number.{Number}
use Rattle.number.specs.Number.{rounded}
use Rattle.words.specs.RowSet.{RowSet}
use Rattle.words.specs.Word.{Letter, Word, transposed_letter, transposed_word}

-- sums, products and quotients of numbers that are not negative, told apart by whether they are zero
abbrev pub presence : Arithmetic
presence = record { Num = Bool; zero = false; one = true; add = ◌||◌; mul = ◌&&◌; div = ◌&&◌; is_zero = not }

-- a number that the rounded rule does not judge to be zero
abbrev pub nonzero : Number → Bool
nonzero a = not (rounded.is_zero a)

-- a letter, or where the word is transposed its transpose
abbrev pub letter_if : {A : Type 0} → Bool → Letter A → Letter A
letter_if true l = transposed_letter l
letter_if false l = l

-- a word, or its transpose
abbrev pub word_if : {A : Type 0} → Bool → Word A → Word A
word_if true W = transposed_word W
word_if false W = W

-- minors, or those with their two sets exchanged
abbrev pub turned_by : {A : Type 0} → Bool → (RowSet → RowSet → A) → RowSet → RowSet → A
turned_by true M = λ I J. M J I
turned_by false M = M

-- which of m, counted from 0, comes after k others: a word is walked from its last letter on, its transpose from its first
abbrev pub place_if : Bool → ℕ → ℕ → ℕ
place_if true m k = k
place_if false m k = m - 1 - k
