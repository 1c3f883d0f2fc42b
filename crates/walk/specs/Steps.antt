-- Steps as the code holds them: ways (way_of), a step by its way and its 64 factors (step_of), the letters of its word (letter_at), the entries of D
-- (entries_of), and D on a state (diagonal_of).
use Rattle.std.specs.Prelude.{Bool, true, false, List, ℕ, ◌+◌, ◌-◌, ◌≤◌, get_or}
use Rattle.number.specs.Number.{rounded, zero_number, product_of, quotient_of, Stored}
use Rattle.number.specs.declared.Number.{Number}
use Rattle.words.specs.Word.{Letter, D}
use Rattle.words.specs.Walk.{State, scaled}
use Rattle.words.specs.Operation as words
use Rattle.words.specs.Operation.{step_word}
use Rattle.table.specs.Table.{cell_of, factors_of}
use Rattle.walk.specs.declared.Way.{Way}
use Rattle.walk.specs.declared.Way.TheVariants.{Plain, Inverted, Conversed, Transposed}

abbrev pub way_of : Way → words.Way
way_of Plain = words.plain
way_of Inverted = words.inverted
way_of Conversed = words.conversed
way_of Transposed = words.transposed

abbrev pub step_of : Way → List Number → words.Step Number
step_of way b = words.step (way_of way) (factors_of b)

-- letter number t of a step's word, counted from 0
unfoldable pub letter_at : ℕ → Way → List Number → ℕ → Letter Number
letter_at n way b t = get_or (step_word n (step_of way b)) t (D (λ i. zero_number))

-- D multiplies, for the inverse it divides
abbrev pub scaling : Bool → Number → Number → Number
scaling true = quotient_of
scaling false = product_of

abbrev pub divides : Way → Bool
divides Plain = false
divides Inverted = true
divides Conversed = false
divides Transposed = false

abbrev pub backwards : Way → Bool
backwards Plain = false
backwards Inverted = false
backwards Conversed = true
backwards Transposed = false

-- where the entry of row i stands: on the diagonal, backwards for the converse
abbrev pub entry_place : ℕ → Bool → ℕ → ℕ
entry_place n true i = cell_of (n + 1 - i) (n + 1 - i)
entry_place n false i = cell_of i i

-- the entries of D, by their rows
unfoldable pub entries_of : ℕ → Bool → List Number → ℕ → Number
entries_of n back b i = get_or b (entry_place n back i) zero_number

-- D on a state: the number of each set scaled by the entries of its rows
abbrev pub diagonal_of : ℕ → Way → List Number → State rounded → State rounded
diagonal_of n way b ω S = scaled rounded (scaling (divides way)) (entries_of n (backwards way) b) S (ω S)

pub record StoredEntries (n : ℕ) (e : ℕ → Number) : Type 0 where
  pub stored : (i : ℕ) → 1 ≤ i → i ≤ n → Stored (e i)
