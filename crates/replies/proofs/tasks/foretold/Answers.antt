-- `replies::tasks::foretold` meets its contract: the shelf stays.
use mathlib.Core.Path.{refl}
use Rattle.replies.proofs.Replies.{replied}
use Rattle.replies.proofs.tasks.foretold.Goals as goal

pub returns : goal.returns
returns c = record { good = c.after.ensures.good; replied = replied refl c.after.ensures.shelf_value c.put_foretold.ensures }
