-- `replies::answer::to_short` meets its contract where the line is no request.
use mathlib.Core.Path.{◌≡◌, refl}
use Rattle.std.specs.Prelude.{Option, None}
use Rattle.requests.specs.Requests.{Asked, request_of}
use Rattle.replies.specs.Replies.{reply_to}
use Rattle.replies.proofs.Replies.{replied}
use Rattle.replies.proofs.answer.to_short.Goals as goal

pub returns-in-None-clause-replied : goal.returns-in-None-clause-replied
unfolding reply_to
returns-in-None-clause-replied c =
    let none : ◌≡◌ {A = Option Asked} None (request_of c.args.line.now) = c.in-None.ensures in
    rw (← none) (replied refl c.after.ensures.shelf_value c.put_bad.ensures)
