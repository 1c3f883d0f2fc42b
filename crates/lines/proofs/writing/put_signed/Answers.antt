-- `lines::put_signed` meets its contract.
use Rattle.lines.specs.Ascii.{ascii}
use Rattle.lines.proofs.Text.{puts-behind}
use Rattle.lines.proofs.writing.put_signed.Goals as goal

pub returns-then-negative : goal.returns-then-negative
returns-then-negative c = rw c.if-negative.true
    (puts-behind {a = ascii "-"} c.put-next.ensures c.put_whole.ensures)

pub returns : goal.returns
returns c = rw c.if-negative.false c.put_whole-2.ensures
