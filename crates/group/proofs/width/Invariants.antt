-- The invariant of the loop of `group::width`: the bytes counted so far, and those of what is left, are as many as those of v.
use Prim.Native.Nat.{◌-◌}
use Rattle.group.proofs.Writing.{Counted}
use Rattle.group.proofs.width.Given as goal

abbrev pub invariant-loop-rest : goal.invariant-loop-rest
invariant-loop-rest l = Counted l.v l.rest l.passed

abbrev pub decreases-loop-rest : goal.decreases-loop-rest
decreases-loop-rest l = l.rest - 127
