-- WHAT EACH WORD OF THE CONSOLE ANSWERS: `replies::answer::to_command` meets its contract. At each arm the promise of the call that it makes is the reply that
-- the definition has for the word. What a build did goes through `told-as`; masks are what `mask` makes of a number.
use Rattle.lines.specs.Ascii.{ascii}
use Rattle.shelf.specs.Run.{run}
use Rattle.replies.specs.Replies.{reply_by}
use Rattle.replies.proofs.Replies.{told-as}
use Rattle.replies.proofs.answer.to_command.Goals as goal

pub returns-in-Build : goal.returns-in-Build
unfolding reply_by run
returns-in-Build c =
    record { good = c.filled.ensures.good; replied = rw c.in-Build.is (told-as (ascii "bound") _ c.build.ensures.result_value c.filled.ensures.replied) }

pub returns-in-Minor : goal.returns-in-Minor
unfolding reply_by
returns-in-Minor c =
    let call = rw (c.mask.ensures, c.mask-in-Minor.ensures) at c.minor.ensures.replied in
    record { good = c.minor.ensures.good; replied = rw c.in-Minor.is call }
