-- `replies::answer::to_line` meets its contract: the answer, and the end of its line behind it.
use mathlib.Core.Path.{sym}
use Rattle.lines.specs.Ascii.{ascii}
use Rattle.lines.proofs.Text.{puts-behind}
use Rattle.replies.proofs.Replies.{replied}
use Rattle.replies.proofs.answer.to_line.Goals as goal

pub returns : goal.returns
returns c =
    record {
      good = c.after.ensures.good;
      replied = replied (sym c.answered-done.ensures.replied.shelf) c.after.ensures.shelf_value
          (puts-behind {b = ascii "\n"} c.answered-done.ensures.replied.text c.put.ensures);
    }
