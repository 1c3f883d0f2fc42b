-- `has` meets its contract: row i is bit i - 1, shifted down and masked out.
use Rattle.rowset.proofs.Shifts.{shift-has}
use Rattle.rowset.proofs.has.Goals as goal

pub returns : goal.returns
returns c = shift-has c.args.s c.args.i
