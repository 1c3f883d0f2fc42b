-- The invariant of the loop of `fill`: the blocks of smaller rows stand, and of the two blocks of l and l + 1 the first m entries.
use mathlib.Core.Path.{◌≡◌}
use Prim.Native.Nat.{◌+◌, ◌*◌}
use lib.ListN.{length}
use Rattle.rowset.specs.Blocks.{Filled}
use Rattle.rowset.proofs.lent.fill.Given as goal

abbrev pub invariant-loop-m : goal.invariant-loop-m
invariant-loop-m l = (length l.t ≡ 1408) × Filled l.n (l.l * 64 + l.m) l.t
