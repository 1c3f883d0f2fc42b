-- `table` meets its contract: the stamps have passed the test (`timed`), and each cell is that of the table.
use lib.ListN.{length}
use Rattle.table.specs.Table.{absent, cell_at}
use Rattle.table.proofs.Made.{made}
use Rattle.table.proofs.Table.{table-cells}
use Rattle.stamps.specs.Stamps.{built_factors}
use Rattle.stamps.proofs.Timed.{timed}
use borrow.Author.Rules.{rules}
use Rattle.stamps.proofs.table.Goals as goal

pub invariant_of-stamps : goal.invariant_of-stamps
invariant_of-stamps c = record { timed = timed _ c.requires }

pub returns : goal.returns
returns c = let L = c.args.stamps.now in let b = built_factors L in let w = c.from_fn.ensures.items in
    table-cells (length L) b absent c.from_fn.result w.long (made (cell_at (length L) b) (λ x r q e. (search rules, search rules)) _ absent w)
