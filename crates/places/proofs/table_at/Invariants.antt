-- The loop of `table_at`: the first k numbers of the place are read.
use Rattle.table.specs.Table.{absent}
use Prim.Native.Nat.{◌+◌, ◌*◌}
use lib.ListN.{get_or}
use Rattle.arrays.proofs.Filled.{Filled}
use Rattle.places.proofs.table_at.Given as goal

abbrev pub invariant-loop-k : goal.invariant-loop-k
invariant-loop-k l = Filled absent (λ i. get_or l.shelf.numbers (l.place * 64 + i) absent) 64 l.k l.t
