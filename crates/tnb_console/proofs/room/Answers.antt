-- `tnb_console::room` meets its contract: behind what waits, or in front once that is written.
use borrow.Author.Tests.{lt-ltb, le-ltb}
use Rattle.tnb_console.proofs.room.Goals as goal

pub returns-then-waiting-lt-ENOUGH : goal.returns-then-waiting-lt-ENOUGH
returns-then-waiting-lt-ENOUGH c = rw (lt-ltb _ _ c.if-waiting-lt-ENOUGH.true)

pub returns : goal.returns
returns c = rw (le-ltb _ _ c.if-waiting-lt-ENOUGH.false)
