-- `replies::calls::rest` meets its contract.
use mathlib.Core.Path.{refl}
use Rattle.shelf.specs.Run.{run}
use Rattle.replies.proofs.Replies.{replied}
use Rattle.replies.proofs.calls.rest.Goals as goal

pub returns : goal.returns
unfolding run
returns c = record { good = c.after.ensures.good; replied = replied refl c.after.ensures.shelf_value (rw c.behind.ensures at c.put_rest.ensures) }
