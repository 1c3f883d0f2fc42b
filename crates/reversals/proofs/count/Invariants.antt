-- The invariant of the loop of `count`: the reversals of the list are those found and those of the rest behind the last item that is not zero.
use mathlib.Core.Path.{◌≡◌}
use Prim.Native.Nat.{◌+◌, ◌≤◌}
use lib.ListN.{drop, take}
use Rattle.reversals.specs.Reversals.{reversals, reversals_behind}
use Rattle.reversals.proofs.count.Given as goal

abbrev pub invariant-loop-a : goal.invariant-loop-a
invariant-loop-a l =
    (l.found ≤ l.a-index) × (reversals (take l.n l.fn.v) ≡ l.found + reversals_behind l.last (drop l.a-index (take l.n l.fn.v)))
