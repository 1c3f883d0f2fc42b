-- The invariant of `source::put_factors`: the first t factors are put.
use Prim.Native.Nat.{◌≤◌}
use Rattle.walk.proofs.Lent.{Putting}
use Rattle.walk.proofs.source.put_factors.Given as goal

abbrev pub invariant-loop-t : goal.invariant-loop-t
invariant-loop-t l = (l.t ≤ 64) × Putting l.c l.a-items l.initial.b l.b l.t
