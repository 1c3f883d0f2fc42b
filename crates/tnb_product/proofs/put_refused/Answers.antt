-- `tnb_product::put_refused` meets its contract.
use Rattle.lines.specs.Ascii.{ascii}
use Rattle.lines.proofs.Text.{puts-behind}
use Rattle.tnb_product.specs.Printed.{refusal_line}
use Rattle.tnb_product.proofs.put_refused.Goals as goal

pub returns : goal.returns
unfolding refusal_line
returns c = puts-behind {b = ascii "\n"} c.put_refusal-end.ensures c.put.ensures
