-- The invariant and the measure in `replies::filling::fill`: the numbers before index k are set.
use Prim.Native.Nat.{◌-◌}
use lib.ListN.{length}
use Rattle.replies.proofs.Lent.{Filled}
use Rattle.replies.proofs.filling.fill.Given as goal

abbrev pub invariant-loop-list : goal.invariant-loop-list
invariant-loop-list l = Filled l.initial.list l.list l.k

abbrev pub decreases-loop-list : goal.decreases-loop-list
decreases-loop-list l = length l.initial.list - l.k
