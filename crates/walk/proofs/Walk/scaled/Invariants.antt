-- The invariant of `scaled`: the number is scaled by the entries of the first i rows.
use Prim.Native.Nat.{◌≤◌}
use Rattle.walk.specs.Steps.{divides, backwards, entries_of}
use Rattle.walk.specs.Lent.{table_in}
use Rattle.walk.proofs.Scaling.{Scaled}
use Rattle.walk.proofs.Walk.scaled.Given as goal

abbrev pub invariant-loop-i : goal.invariant-loop-i
invariant-loop-i l = (l.i ≤ l.self.n)
    × Scaled (divides l.way) (entries_of l.self.n (backwards l.way) (table_in l.self.factors.now l.c)) l.s l.initial.y l.y l.i
