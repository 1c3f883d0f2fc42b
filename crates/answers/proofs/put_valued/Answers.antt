-- `answers::put_valued` meets its contract.
use Rattle.lines.specs.Ascii.{ascii}
use Rattle.lines.proofs.Text.{puts-behind}
use Rattle.answers.proofs.put_valued.Goals as goal

pub returns-in-Ok : goal.returns-in-Ok
returns-in-Ok c = rw c.in-Ok.is (puts-behind {a = ascii "number"} c.put-space.ensures c.put_factor.ensures)
