-- The words of a line (`words_of`).
use Rattle.std.specs.Prelude.{ℕ, List, [], ◌∷◌}
use Rattle.lines.specs.Words.{parted, parts_at}

-- a line is parted at each space
abbrev pub words_of : List ℕ → List (List ℕ)
words_of s = parted 32 s

-- the words from an index on, none past the end
abbrev pub words_at : List ℕ → ℕ → List (List ℕ)
words_at s at = parts_at 32 s at

-- the first of some words, empty where there is none, and those behind it
abbrev pub first_word : List (List ℕ) → List ℕ
first_word [] = []
first_word (w ∷ ws) = w

abbrev pub words_behind : List (List ℕ) → List (List ℕ)
words_behind [] = []
words_behind (w ∷ ws) = ws
