-- `tnb_product::put_files` meets its contract: the text is that of what the two buffers hold, as far as was read.
use Rattle.tnb_product.proofs.put_files.Goals as goal

pub returns : goal.returns
returns c = (c.read_file-a.result, c.read_file-b.result, rw (c.first.ensures, c.first-2.ensures) at c.text.ensures)
