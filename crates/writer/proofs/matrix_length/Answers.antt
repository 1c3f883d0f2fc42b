-- `writer::matrix_length` meets its contract. The loop's invariant: what is counted so far, and the bytes of the factors left, are as many as the encoding's.
use native.Mathlib.Omega.{arith}
use mathlib.Core.Path.{ap, ◌∙◌}
use Rattle.writer.proofs.Writing.{counted-more, counted-all, encoding-length}
use Rattle.writer.proofs.matrix_length.Goals as goal

pub loop-a-preserved : goal.loop-a-preserved
loop-a-preserved c = (counted-more _ c.loop-a.invariant.0 _ c.loop-a-test.true c.factor_length-total.ensures.value, omega arith)

pub returns : goal.returns
returns c =
    counted-all _ c.loop-a.invariant.0 c.loop-a-test.false
    ∙ ap (λ k. k) (rw (encoding-length, c.width-total.ensures.value, c.factors-a-items.ensures))
