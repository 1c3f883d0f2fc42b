-- `replies::calls::load` meets its contract.
use Rattle.lines.specs.Ascii.{ascii}
use Rattle.shelf.specs.Run.{run}
use Rattle.replies.proofs.Replies.{told-as}
use Rattle.replies.proofs.calls.load.Goals as goal

pub returns : goal.returns
unfolding run
returns c = record { good = c.changed.ensures.good; replied = told-as (ascii "loaded") _ c.load.ensures.result_value c.changed.ensures.replied }
