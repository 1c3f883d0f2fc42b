-- `tnb_product::put_result` meets its contract.
use Rattle.lines.specs.Ascii.{ascii}
use Rattle.lines.proofs.Text.{puts-behind}
use Rattle.tnb_product.specs.Printed.{result_text}
use Rattle.tnb_product.proofs.put_result.Goals as goal

pub returns : goal.returns
unfolding result_text
returns c = puts-behind (rw c.rows_at-n.ensures at c.put_whole-end.ensures)
    (puts-behind {a = ascii "\n"} c.put-next.ensures (rw c.rows_at-n.ensures at c.put_factors.ensures))
