-- `replies::calls::arithmetic` meets its contract: what was put is the text of what the call reports.
use mathlib.Core.Path.{refl}
use Rattle.shelf.specs.Run.{run}
use Rattle.replies.proofs.Replies.{replied}
use Rattle.replies.proofs.calls.arithmetic.Goals as goal

pub returns : goal.returns
unfolding run
returns c =
    let text = rw c.arithmetic-answer.ensures.result_value at c.put_worked.ensures in
    record { good = c.after.ensures.good; replied = replied refl c.after.ensures.shelf_value text }
