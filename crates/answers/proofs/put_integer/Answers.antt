-- `answers::put_integer` meets its contract.
use Rattle.answers.specs.Answers.{integer_text}
use mathlib.Core.Path.{ap, ◌∙◌}
use lib.IntN.{nat_abs}
use mir.Facts.{to_z-of_z}
use Rattle.number.specs.Integer.{is_negative}
use Rattle.answers.proofs.put_integer.Goals as goal

pub returns : goal.returns
unfolding integer_text
returns c = let x = to_z-of_z c.ranges.x in
    let n = c.is_negative.ensures ∙ ap is_negative x in
    let m = c.magnitude.ensures ∙ ap nat_abs x in
    rw (n, m) at c.put_signed.ensures
