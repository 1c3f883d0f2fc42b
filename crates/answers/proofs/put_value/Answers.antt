-- `answers::put_value` meets its contract: a space, and the number behind it.
use Rattle.lines.specs.Ascii.{ascii}
use Rattle.lines.proofs.Text.{puts-behind}
use Rattle.answers.proofs.put_value.Goals as goal

pub returns : goal.returns
returns c = puts-behind {a = ascii " "} c.put-number.ensures c.put_whole.ensures
