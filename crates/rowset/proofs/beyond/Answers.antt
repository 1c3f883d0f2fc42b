-- `beyond` meets its contract: what is left after a shift by n is not zero.
use Rattle.rowset.proofs.Shifts.{shift-beyond}
use Rattle.rowset.proofs.beyond.Goals as goal

pub returns : goal.returns
returns c = shift-beyond c.args.s c.args.n
