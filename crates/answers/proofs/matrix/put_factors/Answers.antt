-- `answers::put_factors` meets its contract. The loop's invariant: the rows before row i are put.
use native.Mathlib.Omega.{arith}
use Rattle.answers.specs.Matrix.{factors_text}
use Rattle.answers.proofs.Turns.{turns_more, turns-end}
use Rattle.answers.proofs.matrix.put_factors.Goals as goal

pub loop-i-preserved : goal.loop-i-preserved
loop-i-preserved c = turns_more c.loop-i.invariant (omega arith) c.put_row-to.ensures

pub returns : goal.returns
unfolding factors_text
returns c = turns-end c.loop-i.invariant (omega arith)

pub returns-2 : goal.returns-2
unfolding factors_text
returns-2 c = turns-end (turns_more c.loop-i.invariant (omega arith) c.put_row-to.ensures) (omega arith)
