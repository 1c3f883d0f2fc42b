-- The invariant of `diagonal`: what the words stand for is swept, up to the set at position p.
use Prim.Native.Nat.{◌≤◌}
use Rattle.walk.specs.Steps.{divides, backwards, entries_of}
use Rattle.walk.specs.Lent.{table_in}
use Rattle.walk.specs.Packed.{numbers_of}
use Rattle.walk.proofs.Scaling.{SweptDiagonal}
use Rattle.walk.proofs.Walk.diagonal.Given as goal

abbrev pub invariant-loop-p : goal.invariant-loop-p
invariant-loop-p l = (l.p ≤ l.p-end)
    × SweptDiagonal l.self.n l.self.k (divides l.way) (entries_of l.self.n (backwards l.way) (table_in l.self.factors.now l.c)) (numbers_of l.initial.u)
    (numbers_of l.u) l.p
