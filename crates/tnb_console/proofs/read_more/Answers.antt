-- `tnb_console::read_more` meets its contract: what is held stays as it was.
use Prim.Native.Nat.{◌-◌, ◌≤◌}
use lib.ListN.{length}
use borrow.Rule.Slice.PartMut.{take_put}
use borrow.Author.Rules.{rules}
use Rattle.tnb_console.proofs.read_more.Goals as goal

-- src/main.rt:128:1
pub returns-in-Ok : goal.returns-in-Ok
returns-in-Ok c =
    let a = c.args in
    let fits : a.held ≤ length a.input.now = search rules in
    record { upper_bound = search rules; input_unchanged = take_put a.held (length a.input.now - a.held) a.input.now c.read.new.buf fits }
