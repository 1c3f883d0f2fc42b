-- `answers::put_signed_value` meets its contract: a space, and the number behind it.
use mir.Facts.{to_z-of_z}
use Rattle.lines.specs.Ascii.{ascii}
use Rattle.lines.proofs.Text.{puts-behind}
use Rattle.answers.proofs.put_signed_value.Goals as goal

pub returns : goal.returns
returns c = let x = to_z-of_z c.ranges.x in
    puts-behind {a = ascii " "} c.put-number.ensures (rw x at c.put_integer.ensures)
