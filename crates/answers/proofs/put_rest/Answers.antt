-- `answers::put_rest` meets its contract.
use mathlib.Core.List.{flat_map}
use Rattle.lines.specs.Ascii.{ascii}
use Rattle.lines.proofs.Text.{puts-behind}
use Rattle.answers.proofs.put_rest.Goals as goal

pub returns : goal.returns
unfolding flat_map
returns c = puts-behind {a = ascii "rest "} c.put-part.ensures c.put_bytes.ensures
