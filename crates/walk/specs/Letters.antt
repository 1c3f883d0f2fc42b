-- The letters E and Et of a step's word by their numbers (move_at): which rows they work on, and where their factors stand.
use Rattle.std.specs.Prelude.{◌≡◌, ℕ, ◌-◌, ◌*◌, ◌/◌, ◌≤◌, ◌<◌, get_or}
use Rattle.words.specs.Word.{Letter, E, Et, D, Dinv, Word}
use Rattle.words.specs.Operation.{step, step_word}
use Rattle.rowset.specs.Sets.{Neighbours}
use Rattle.walk.specs.Steps.{way_of}
use Rattle.table.specs.Table.{cell_of}
use Rattle.walk.specs.declared.Way.{Way}
use Rattle.walk.specs.declared.Way.TheVariants.{Plain}
use Rattle.walk.specs.declared.letters.Move.{Move}
use Rattle.walk.specs.declared.letters.Cell.{Cell}

-- the number of D, the letter in the middle
abbrev pub middle : ℕ → ℕ
middle n = n * (n - 1) / 2

-- the word of a step whose factors are the places where they stand
unfoldable pub place_word : ℕ → Way → Word ℕ
place_word n way = step_word n (step (way_of way) cell_of)

abbrev pub move_of : Letter ℕ → Move
move_of (E j p) = record { to = j; from = j - 1; at = p }
move_of (Et j p) = record { to = j - 1; from = j; at = p }
move_of (D e) = record { to = 0; from = 0; at = 0 }
move_of (Dinv e) = record { to = 0; from = 0; at = 0 }

unfoldable pub move_at : ℕ → Way → ℕ → Move
move_at n way t = move_of (get_or (place_word n way) t (D (λ i. 0)))

-- its rows are neighbours among n, and its factor one of 64
pub record MoveWithin (n : ℕ) (m : Move) : Type 0 where
  pub rows : Neighbours n m.to m.from
  pub place : m.at < 64

-- letter t of the first half of a word is E j with the factor of row j and a column c; its counterpart in the second half is Et j with that of row c and
-- column j
pub record CellAt (n t : ℕ) (x : Cell) : Type 0 where
  pub below : move_at n Plain t ≡ record { to = x.row; from = x.row - 1; at = cell_of x.row x.column }
  pub above : move_at n Plain (2 * middle n - t) ≡ record { to = x.row - 1; from = x.row; at = cell_of x.column x.row }
  pub row_low : 2 ≤ x.row
  pub row-high : x.row ≤ 8
  pub column-low : 1 ≤ x.column
  pub column-high : x.column ≤ 8
