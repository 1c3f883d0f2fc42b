-- `table_at` meets its contract. The invariant: the first k numbers of the place are read.
use Rattle.table.specs.Table.{absent}
use Rattle.arrays.proofs.Structs.{length-mapped}
use mathlib.Core.Path.{refl}
use Rattle.arrays.proofs.Filled.{filled_none, filled_more}
use Rattle.places.proofs.Holding.{table-read}
use borrow.Author.Rules.{rules}
use Rattle.places.proofs.table_at.Goals as goal

pub loop-k-init : goal.loop-k-init
loop-k-init c = filled_none absent _ 64 _ refl

pub loop-k-preserved : goal.loop-k-preserved
loop-k-preserved c = filled_more absent _ 64 c.loop-k.invariant c.loop-k-test.true _ refl

pub returns : goal.returns
returns c = table-read _ _ c.requires (search (rules, length-mapped)) c.loop-k.invariant c.loop-k-test.false
