-- `tnb_console::hold` meets its contract.
use Rattle.tnb_console.proofs.hold.Goals as goal

pub returns : goal.returns
returns c = rw c.if-long.false c.move_up.ensures
