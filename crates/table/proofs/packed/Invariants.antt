-- The invariant of the loop of `packed`: the first k factors are put, over zeros.
use Prim.Native.Nat.{◌*◌, ◌≤◌}
use mathlib.Core.Path.{◌≡◌}
use Rattle.table.proofs.Square.{packed_to}
use Rattle.table.proofs.packed.Given as goal

abbrev pub invariant-loop-k : goal.invariant-loop-k
invariant-loop-k l = (l.k ≤ l.n * l.n) × (l.r ≡ packed_to l.n l.t l.k)
