-- `group::width` meets its contract. The loop's invariant: the bytes counted so far, and those of what is left, are as many as those of v.
use native.Mathlib.Omega.{arith}
use Rattle.group.proofs.Writing.{counted-more, counted-last}
use Rattle.group.proofs.width.Goals as goal

pub loop-rest-preserved : goal.loop-rest-preserved
loop-rest-preserved c = counted-more c.loop-rest.invariant c.loop-rest-test.true

pub returns-clause-value : goal.returns-clause-value
returns-clause-value c = counted-last c.loop-rest.invariant (omega arith)
