-- `answers::put_count` meets its contract.
use Rattle.lines.proofs.Text.{puts-behind}
use Rattle.answers.proofs.Reports.{count-text}
use Rattle.answers.proofs.put_count.Goals as goal

pub returns : goal.returns
returns c = rw (count-text _) (puts-behind c.put-space.ensures c.put_value.ensures)
