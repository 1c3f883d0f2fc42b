-- `block` meets its contract: in either order of the two rows.
use mathlib.Core.Path.{sym}
use Rattle.rowset.proofs.Blocks.{block_up, block-down}
use Rattle.rowset.proofs.lent.block.Goals as goal

pub returns-then-a-o : goal.returns-then-a-o
returns-then-a-o c = sym (block_up c.args.a c.args.o c.if-a-o.true)

pub returns-else-a-o : goal.returns-else-a-o
returns-else-a-o c = sym (block-down c.args.a c.args.o c.if-a-o.false)
