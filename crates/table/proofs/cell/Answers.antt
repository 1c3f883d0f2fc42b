-- `cell` meets its contract: a factor, which stands below 64 (below), or a row or a column past the n rows.
use Rattle.table.proofs.Square.{square-cell}
use Rattle.table.proofs.cell.Goals as goal

pub returns-then-j-n : goal.returns-then-j-n
returns-then-j-n c = square-cell _ c.args.numbers.now _ c.requires c.if-i-n.true c.if-j-n.true c.told-numbers
