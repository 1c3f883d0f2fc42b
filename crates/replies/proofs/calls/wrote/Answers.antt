-- `replies::calls::wrote` meets its contract: the answer, a space, the bytes.
use mathlib.Core.Path.{refl}
use Rattle.lines.specs.Ascii.{ascii}
use Rattle.lines.proofs.Text.{puts-behind}
use Rattle.replies.proofs.Replies.{replied}
use Rattle.replies.proofs.calls.wrote.Goals as goal

pub returns : goal.returns
returns c =
    let text = puts-behind c.put_written-space.ensures (puts-behind {a = ascii " "} c.put-buffer.ensures c.put_bytes.ensures) in
    record { good = c.after.ensures.good; replied = replied refl c.after.ensures.shelf_value text }
