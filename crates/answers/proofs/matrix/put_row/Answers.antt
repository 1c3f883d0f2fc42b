-- `answers::put_row` meets its contract. The loop's invariant: the factors before column j are put.
use mathlib.Core.List.{[]}
use native.Mathlib.Omega.{arith}
use Rattle.answers.specs.Matrix.{row_text}
use Rattle.answers.proofs.Reports.{puts-report}
use Rattle.answers.proofs.Turns.{turns_more, turns-end}
use Rattle.answers.proofs.matrix.put_row.Goals as goal

pub loop-j-preserved : goal.loop-j-preserved
loop-j-preserved c = turns_more c.loop-j.invariant (omega arith) (puts-report [] c.factor_at.ensures c.put_factor-to.ensures)

pub returns : goal.returns
unfolding row_text
returns c = turns-end c.loop-j.invariant (omega arith)

pub returns-2 : goal.returns-2
unfolding row_text
returns-2 c = turns-end (turns_more c.loop-j.invariant (omega arith) (puts-report [] c.factor_at.ensures c.put_factor-to.ensures)) (omega arith)
