-- The invariant of the loop of `group::put`: what is written so far, and what is left, make the bytes of v.
use Prim.Native.Nat.{◌-◌}
use Rattle.group.proofs.Writing.{Written}
use Rattle.group.proofs.put.Given as goal

abbrev pub invariant-loop-rest : goal.invariant-loop-rest
invariant-loop-rest l = Written l.initial.out l.v l.out l.rest l.i

abbrev pub decreases-loop-rest : goal.decreases-loop-rest
decreases-loop-rest l = l.rest - 127
