-- `lines::put` meets its contract.
use native.Mathlib.Omega.{arith}
use Rattle.lines.proofs.Text.{puts-out, puts-part}
use Rattle.lines.proofs.writing.put.Goals as goal

pub returns-then-out-at : goal.returns-then-out-at
returns-then-out-at c = puts-out _ _ _ (omega arith)

pub returns : goal.returns
returns c = rw c.copy_from_slice.ensures.after (puts-part c.args.out.now c.args.text.now c.args.at c.min-count.result (omega arith) c.min-count.ensures)
