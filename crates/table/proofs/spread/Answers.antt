-- `spread` meets its contract: each cell is that of the table.
use Rattle.table.specs.Table.{absent, square_of, cell_at}
use Rattle.table.proofs.Made.{made}
use Rattle.table.proofs.Table.{table-cells}
use borrow.Author.Rules.{rules}
use Rattle.table.proofs.spread.Goals as goal

pub returns : goal.returns
returns c = let b = square_of c.args.n c.args.numbers in let w = c.from_fn.ensures.items in
    table-cells c.args.n b absent c.from_fn.result w.long (made (cell_at c.args.n b) (λ x r q e. (search rules, search rules)) _ absent w)
