-- The parts of a text (`parted`). Words of a line: `word_at`, from an index to the next space; `next_word`, where the word behind it starts; `same`, whether
-- two are the same.
use Rattle.std.specs.Prelude.{ℕ, ◌+◌, Bool, true, false, cond, ◌&&◌, List, [], ◌∷◌, ltb, eqb, length, drop}

-- the bytes before the first that is `stop`; all, where none is
unfoldable pub before : ℕ → List ℕ → List ℕ
before stop [] = []
before stop (b ∷ s) = cond (eqb b stop) [] (b ∷ before stop s)

-- one byte more in front of the first part
abbrev pub in_front : ℕ → List (List ℕ) → List (List ℕ)
in_front b [] = []
in_front b (w ∷ ws) = (b ∷ w) ∷ ws

-- a text is parted at each byte that is `stop`: a line at its spaces, lines at their ends
unfoldable pub parted : (stop : ℕ) → List ℕ → List (List ℕ)
parted stop [] = [] ∷ []
parted stop (b ∷ s) = cond (eqb b stop) ([] ∷ parted stop s) (in_front b (parted stop s))

-- the parts from an index on, none past the end
abbrev pub parts_at : (stop : ℕ) → List ℕ → ℕ → List (List ℕ)
parts_at stop s at = cond (ltb (length s) at) [] (parted stop (drop at s))

abbrev pub word_at : List ℕ → ℕ → List ℕ
word_at s at = before 32 (drop at s)

-- where the word behind the one at an index starts, past a space; past the end no word starts
abbrev pub next_word : List ℕ → ℕ → ℕ
next_word s at = cond (ltb (length s) at) at (at + length (word_at s at) + 1)

-- the same bytes
unfoldable pub same : List ℕ → List ℕ → Bool
same [] [] = true
same [] (b ∷ t) = false
same (a ∷ s) [] = false
same (a ∷ s) (b ∷ t) = eqb a b && same s t
