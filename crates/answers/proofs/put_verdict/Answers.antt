-- `answers::put_verdict` meets its contract.
use Rattle.answers.proofs.Reports.{word-text}
use Rattle.answers.proofs.put_verdict.Goals as goal

pub returns-in-Ok : goal.returns-in-Ok
returns-in-Ok c = rw (c.in-Ok.is, word-text _) c.put.ensures
