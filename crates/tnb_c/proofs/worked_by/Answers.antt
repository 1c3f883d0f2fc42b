-- `worked_by` meets its contract: it answers as the arithmetic call does, and where its number is 0 the log balances (`logged-answer`).
use Rattle.tnb_c.proofs.Logged.{logged-answer}
use Rattle.tnb_c.proofs.worked_by.Goals as goal

pub returns : goal.returns
returns c =
    let met = logged-answer _ _ _ c.arithmetic.result c.arithmetic.ensures.result_value c.arithmetic.ensures.logged c.into.ensures in
    record { value = met.0; logged_answer = met.1 }
