-- The invariant of the loop of `among`: the first i rows of p are gathered.
use Prim.Native.Nat.{◌≤◌}
use Rattle.rowset.proofs.Shifts.{Gathered}
use Rattle.rowset.proofs.among.Given as goal

abbrev pub invariant-loop-i : goal.invariant-loop-i
invariant-loop-i l = (l.i ≤ 8) × Gathered l.p l.s l.i l.r l.k
