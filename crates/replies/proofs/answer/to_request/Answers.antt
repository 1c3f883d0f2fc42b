-- `replies::answer::to_request` meets its contract.
use Rattle.replies.specs.Replies.{reply_to}
use Rattle.replies.proofs.answer.to_request.Goals as goal

pub returns : goal.returns
unfolding reply_to
returns c =
    record { good = c.to_command.ensures.good; replied = rw (c.first.ensures, c.some_items.ensures, c.first-2.ensures) at c.to_command.ensures.replied }
