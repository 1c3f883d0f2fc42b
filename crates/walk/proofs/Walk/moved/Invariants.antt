-- The invariant of `moved`: what the words stand for is swept, up to the set at p.
use Prim.Native.Nat.{◌≤◌}
use Rattle.walk.specs.Packed.{numbers_of}
use Rattle.walk.proofs.Moves.{SweptMove}
use Rattle.walk.proofs.Walk.moved.Given as goal

abbrev pub invariant-loop-p : goal.invariant-loop-p
invariant-loop-p l = (l.p ≤ l.self.many) × SweptMove l.self.n l.self.k l.a l.o l.w (numbers_of l.initial.u) (numbers_of l.u) l.p
