-- `tnb_product::put_factor` meets its contract.
use Rattle.lines.specs.Ascii.{ascii}
use Rattle.lines.proofs.Text.{puts-behind}
use Rattle.tnb_product.specs.Printed.{factor_line}
use Rattle.tnb_product.proofs.put_factor.Goals as goal

pub returns : goal.returns
unfolding factor_line
returns c = puts-behind c.put_whole-first.ensures (puts-behind {a = ascii " "} c.put-second.ensures
    (puts-behind c.put_whole-third.ensures (puts-behind {b = ascii "\n"} c.put_factor-end.ensures c.put.ensures)))
