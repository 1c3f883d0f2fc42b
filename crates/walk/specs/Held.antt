-- The numbers of a walk as the code holds them: 70 numbers are a state, each at the position of its set (state_of).
-- States that agree on the sets of k rows out of n (Agree), and whose numbers lie within reach there (Working).
use Rattle.std.specs.Prelude.{◌≡◌, List, ℕ, get_or, length, set, replicate}
use Rattle.number.specs.Number.{rounded, zero_number, one_number, Ranged}
use Rattle.number.specs.declared.Number.{Number}
use Rattle.rowset.specs.Mask.{mask_of, position_of}
use Rattle.table.specs.Table.{absent}
use Rattle.words.specs.RowSet.{RowSet, count}
use Rattle.words.specs.Walk.{State}

-- the number held for the set with mask s
unfoldable pub held_at : List Number → ℕ → Number
held_at v s = get_or v (position_of s) absent

abbrev pub state_of : List Number → State rounded
state_of v S = held_at v (mask_of S)

pub record Agree (n k : ℕ) (ω η : State rounded) : Type 0 where
  pub same : (S : RowSet) → length S ≡ n → count S ≡ k → ω S ≡ η S

pub record Working (r n k : ℕ) (ω : State rounded) : Type 0 where
  pub ranged : (S : RowSet) → length S ≡ n → count S ≡ k → Ranged r (ω S)

-- how far the exponents of working numbers may be from 0 before a step's word, and before one of its letters: six steps of eight rows stay below both
abbrev pub step_reach : ℕ
step_reach = 400000

abbrev pub letter_reach : ℕ
letter_reach = 500000

-- and behind D, with the entries of eight rows
abbrev pub scaled_reach : ℕ
scaled_reach = 508264

-- 1 at j, 0 elsewhere
unfoldable pub start_of : ℕ → List Number
start_of j = set (replicate 70 zero_number) (position_of j) one_number
