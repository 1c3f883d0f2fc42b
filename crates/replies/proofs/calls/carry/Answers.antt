-- `replies::calls::carry` meets its contract: so many items are lent, and the call leaves the shelf as it is.
use Prim.Native.Nat.{◌*◌, ◌≤◌}
use native.Mathlib.Omega.{arith}
use mathlib.Core.Path.{◌∙◌}
use lib.IntN.{pos}
use lib.ListN.{length, replicate, length-replicate}
use lib.Seq.{length-take-le}
use Rattle.lines.specs.Ascii.{ascii}
use Rattle.lines.proofs.Text.{puts-behind}
use Rattle.shelf.specs.Run.{run}
use Rattle.answers.proofs.Reports.{puts-report}
use Rattle.replies.proofs.Lent.{items-filled}
use Rattle.replies.proofs.Replies.{replied, carry-keeps}
use Rattle.replies.proofs.calls.carry.Goals as goal

pub returns-clause-replied : goal.returns-clause-replied
unfolding run
returns-clause-replied c =
    let few : c.lent.result * 3 ≤ length (replicate 1536 (pos 0)) = rw length-replicate (omega (arith, c.lent.ensures)) in
    let items = c.fill.ensures ∙ items-filled _ c.lent.result (length-take-le (c.lent.result * 3) (replicate 1536 (pos 0)) few) in
    let report = puts-report (ascii "carried") c.carry-verdict.ensures.result_value c.put_verdict-space.ensures in
    let text = puts-behind report (puts-behind {a = ascii " "} c.put-buffer.ensures (rw c.carry-verdict.ensures.out_after at c.put_items.ensures)) in
    replied (carry-keeps _ _ _ _) c.after.ensures.shelf_value (rw (items, c.lent.ensures) at text)
