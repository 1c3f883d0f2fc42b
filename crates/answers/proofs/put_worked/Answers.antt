-- `answers::put_worked` meets its contract: the pieces of a result and of its rest stand one behind the other.
use mir.Syntax.{w64}
use mir.Val.{SFits}
use mir.Facts.{to_z-of_z}
use Rattle.lines.specs.Ascii.{ascii}
use Rattle.lines.proofs.Text.{puts-behind}
use Rattle.answers.proofs.Reports.{pair-text}
use borrow.Author.Rules.{rules}
use Rattle.answers.proofs.put_worked.Goals as goal

pub returns-in-Ok : goal.returns-in-Ok
returns-in-Ok c = let e : SFits w64 c.in-Ok.worked.exponent = search rules in
    let t : SFits w64 c.in-Ok.worked.rest = search rules in
    let x : SFits w64 c.in-Ok.worked.rest_exponent = search rules in
    let result = puts-behind {a = ascii "number"} c.put-space.ensures (rw (to_z-of_z e) at c.put_number-behind.ensures) in
    let values = puts-behind (rw (to_z-of_z t) at c.put_signed_value-second.ensures) (rw (to_z-of_z x) at c.put_signed_value.ensures) in
    rw c.in-Ok.is (puts-behind result (puts-behind {a = ascii " rest"} c.put-first.ensures (rw (pair-text _ _) values)))
