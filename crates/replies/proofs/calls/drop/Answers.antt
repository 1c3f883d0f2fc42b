-- `replies::calls::drop` meets its contract.
use Rattle.lines.specs.Ascii.{ascii}
use Rattle.shelf.specs.Run.{run}
use Rattle.replies.proofs.Replies.{told-as}
use Rattle.replies.proofs.calls.drop.Goals as goal

pub returns : goal.returns
unfolding run
returns c = record { good = c.changed.ensures.good; replied = told-as (ascii "dropped") _ c.drop_place.ensures.result_value c.changed.ensures.replied }
