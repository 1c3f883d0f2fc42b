-- `moves` meets its contract.
use mathlib.Core.Path.{sym}
use Rattle.rowset.specs.Mask.{mask_moves}
use Rattle.presence.proofs.moves.Goals as goal

pub returns-then-has : goal.returns-then-has
unfolding mask_moves
returns-then-has c = simp (sym c.has.ensures, c.if-has.true, c.has-then-has.ensures)

pub returns-else-has : goal.returns-else-has
unfolding mask_moves
returns-else-has c = simp (sym c.has.ensures, c.if-has.false)
