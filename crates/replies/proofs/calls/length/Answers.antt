-- `replies::calls::length` meets its contract: the shelf stays.
use mathlib.Core.Path.{refl}
use Rattle.lines.specs.Ascii.{ascii}
use Rattle.shelf.specs.Run.{run}
use Rattle.answers.proofs.Reports.{puts-report}
use Rattle.replies.proofs.Replies.{replied}
use Rattle.replies.proofs.calls.length.Goals as goal

pub returns : goal.returns
unfolding run
returns c =
    let text = puts-report (ascii "length") c.length-answer.ensures.result_value c.put_written.ensures in
    record { good = c.after.ensures.good; replied = replied refl c.after.ensures.shelf_value text }
