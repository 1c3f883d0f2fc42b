-- The invariant of the loop of `tables`: the blocks of the rows below l are filled.
use Prim.Native.Nat.{◌*◌, ◌≤◌}
use Rattle.rowset.specs.Blocks.{Filled}
use Rattle.rowset.proofs.lent.tables.Given as goal

abbrev pub invariant-loop-l : goal.invariant-loop-l
invariant-loop-l l = (1 ≤ l.l) × Filled l.n (l.l * 64) l.t
