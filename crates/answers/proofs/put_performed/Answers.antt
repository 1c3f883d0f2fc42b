-- `answers::put_performed` meets its contract: the bound and the steps stand one behind the other.
use Rattle.lines.proofs.Text.{puts-behind}
use Rattle.answers.proofs.put_performed.Goals as goal

pub returns-in-Ok : goal.returns-in-Ok
returns-in-Ok c = rw c.in-Ok.is (puts-behind (rw c.from.ensures at c.put_count-behind.ensures) c.put_count.ensures)
