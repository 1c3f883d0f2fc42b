-- `replies::answer::answered` meets its contract: by the test of the line's length.
use mathlib.Core.Path.{refl, sym, ◌∙◌}
use Rattle.replies.proofs.Replies.{replied, answer-overlong, answer-asked}
use Rattle.replies.proofs.answer.answered.Goals as goal

pub returns-then-is_long : goal.returns-then-is_long
returns-then-is_long c =
    let a = c.args in
    let put = c.put_bad.ensures in
    let long = sym c.is_long.ensures ∙ c.if-is_long.true in
    record { good = c.after.ensures.good; replied = rw (answer-overlong a.shelf a.long a.line.now long) (replied refl c.after.ensures.shelf_value put) }

pub returns : goal.returns
returns c =
    let a = c.args in
    let short = sym c.is_long.ensures ∙ c.if-is_long.false in
    record { good = c.to_short.ensures.good; replied = rw (answer-asked a.shelf a.long a.line.now short) c.to_short.ensures.replied }
