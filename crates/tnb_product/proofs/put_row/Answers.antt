-- `tnb_product::put_row` meets its contract. The loop's invariant: the factors before column j are put.
use native.Mathlib.Omega.{arith}
use Rattle.tnb_product.specs.Printed.{row_lines}
use Rattle.answers.proofs.Turns.{turns_more, turns-end}
use Rattle.tnb_product.proofs.put_row.Goals as goal

pub loop-j-preserved : goal.loop-j-preserved
loop-j-preserved c = turns_more c.loop-j.invariant (omega arith) (rw c.factor_at.ensures at c.put_factor-to.ensures)

pub returns : goal.returns
unfolding row_lines
returns c = turns-end c.loop-j.invariant (omega arith)

pub returns-2 : goal.returns-2
unfolding row_lines
returns-2 c = turns-end (turns_more c.loop-j.invariant (omega arith) (rw c.factor_at.ensures at c.put_factor-to.ensures)) (omega arith)
