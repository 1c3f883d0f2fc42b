-- What a caller of the walk holds and lends: the factors of six steps in words (table_in), and the letters of their words as numbers (Spelled).
-- A joined word with these: its steps (steps_of), and that its letters are spelled (AllSpelled, Prepared).
use Rattle.std.specs.Prelude.{◌≡◌, List, [], ◌∷◌, map, ℕ, zero, suc, ◌+◌, ◌*◌, ◌<◌, get_or, take, length, replicate}
use Rattle.number.specs.declared.Number.{Number}
use Rattle.words.specs.Operation as words
use Rattle.walk.specs.Steps.{step_of}
use Rattle.walk.specs.Letters.{middle, move_at}
use Rattle.walk.specs.declared.Way.{Way}
use Rattle.walk.specs.declared.Way.TheVariants.{Plain}
use Rattle.walk.specs.declared.letters.Move.{Move}
use Rattle.walk.specs.declared.Joined.{Joined}

-- number p of those in words: its mantissa, and its exponent behind it
abbrev pub number_in : List ℕ → ℕ → Number
number_in b p = record { m = get_or b (2 * p) 0; x = get_or b (2 * p + 1) 0 }

-- so many of them, from number p on
unfoldable pub numbers_in : List ℕ → ℕ → ℕ → List Number
numbers_in b p zero = []
numbers_in b p (suc k) = number_in b p ∷ numbers_in b (suc p) k

-- the 64 factors of step c
abbrev pub table_in : List ℕ → ℕ → List Number
table_in b c = numbers_in b (c * 64) 64

-- and the step that has them, taken this way
abbrev pub step_in : Way → List ℕ → ℕ → words.Step Number
step_in way b c = step_of way (table_in b c)

-- a letter E or Et as a number
unfoldable pub code_of : Move → ℕ
code_of m = (m.from * 16 + m.to) * 64 + m.at

-- the letters of step c, of n rows and taken this way, 57 numbers being kept for each step; that of D is not used
pub record Spelled (n : ℕ) (way : Way) (c : ℕ) (l : List ℕ) : Type 0 where
  pub letter : (t : ℕ) → t < 2 * middle n + 1 → (t ≡ middle n → ⊥) → get_or l (c * 57 + t) 0 ≡ code_of (move_at n way t)

-- what stands before number m is as it was
pub record Kept (m : ℕ) (old new : List ℕ) : Type 0 where
  pub same : (i : ℕ) → i < m → get_or new i 0 ≡ get_or old i 0

-- A JOINED WORD with factors b
unfoldable pub way_at : Joined → ℕ → Way
way_at j c = (get_or j.steps c (record { way = Plain })).way

abbrev pub step_at : Joined → List ℕ → ℕ → words.Step Number
step_at j b c = step_in (way_at j c) b c

abbrev pub numbered : List ℕ
numbered = 0 ∷ 1 ∷ 2 ∷ 3 ∷ 4 ∷ 5 ∷ []

abbrev pub steps_of : Joined → List ℕ → List (words.Step Number)
steps_of j b = map (step_at j b) (take j.count numbered)

pub record AllSpelled (j : Joined) (l : List ℕ) : Type 0 where
  pub step : (c : ℕ) → c < j.count → Spelled j.n (way_at j c) c l

-- a word of n rows without steps
abbrev pub no_steps : ℕ → Joined
no_steps n = record { steps = replicate 6 (record { way = Plain }); count = 0; n = n }

-- a word whose letters l and factors b can be lent, and to which a step can be put
pub record Prepared (j : Joined) (l b : List ℕ) : Type 0 where
  pub six : length j.steps ≡ 6
  pub letters : length l ≡ 342
  pub factors : length b ≡ 768
  pub spelled : AllSpelled j l
