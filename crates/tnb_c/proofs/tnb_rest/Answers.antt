-- `tnb_rest` meets its contract.
use mathlib.Core.Path.{ap}
use lib.ListN.{length}
use Rattle.tnb_c.proofs.tnb_rest.Goals as goal

pub returns : goal.returns
returns c = ap length c.behind-part.ensures
