-- `replies::calls::put_shown` meets its contract.
use borrow.Author.Tests.{lt-ltb, le-ltb}
use Rattle.replies.specs.Calls.{show_text}
use Rattle.replies.proofs.calls.put_shown.Goals as goal

pub returns-then-place-gt7 : goal.returns-then-place-gt7
unfolding show_text
returns-then-place-gt7 c = rw (lt-ltb 7 _ c.if-place-gt7.true) (rw c.into.ensures at c.put_refusal.ensures)

pub returns : goal.returns
unfolding show_text
returns c = rw (le-ltb 7 _ c.if-place-gt7.false) c.put_place.ensures
