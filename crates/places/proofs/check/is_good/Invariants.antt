-- The loops of `is_good`: what is passed, and behind a place's rows what was gathered; how many numbers or places are left.
use Prim.Native.Nat.{◌-◌, ◌*◌, ◌≤◌}
use Rattle.places.proofs.Passing.{Passed, Gathered}
use Rattle.places.proofs.check.is_good.Given as goal

abbrev pub invariant-loop-k : goal.invariant-loop-k
invariant-loop-k l = (l.k ≤ l.n * 8) × Passed l.shelf l.p l.k

abbrev pub decreases-loop-k : goal.decreases-loop-k
decreases-loop-k l = l.n * 8 - l.k

abbrev pub invariant-loop-k-2 : goal.invariant-loop-k-2
invariant-loop-k-2 l = (l.n * 8 ≤ l.k) × (l.k ≤ 64) × Gathered l.shelf l.p l.k l.faults

abbrev pub decreases-loop-k-2 : goal.decreases-loop-k-2
decreases-loop-k-2 l = 64 - l.k

abbrev pub invariant-loop-p : goal.invariant-loop-p
invariant-loop-p l = Passed l.shelf l.p 0

abbrev pub decreases-loop-p : goal.decreases-loop-p
decreases-loop-p l = 8 - l.p
