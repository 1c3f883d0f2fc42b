-- `answers::put_number` meets its contract.
use mir.Facts.{to_z-of_z}
use Rattle.lines.proofs.Text.{puts-behind}
use Rattle.answers.proofs.Reports.{number-text}
use Rattle.answers.proofs.put_number.Goals as goal

pub returns : goal.returns
returns c = let e = to_z-of_z c.ranges.exponent in
    rw (number-text _ _) (puts-behind c.put_value-second.ensures (rw e at c.put_signed_value.ensures))
