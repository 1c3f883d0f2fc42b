-- `packed` meets its contract. The invariant: the first k factors are put, over zeros.
use native.Mathlib.Omega.{arith}
use mathlib.Core.Path.{◌∙◌}
use Rattle.table.proofs.Square.{packed_more, packed_all}
use borrow.Author.Rules.{rules}
use Rattle.table.proofs.packed.Goals as goal

pub loop-k-preserved : goal.loop-k-preserved
loop-k-preserved c = (omega arith, packed_more _ _ c.requires _ c.loop-k-test.true (search rules) _ c.loop-k.invariant.1)

pub returns : goal.returns
returns c = c.loop-k.invariant.1 ∙ packed_all _ _ c.requires _ c.loop-k-test.false
