-- `requests::request::with_tail` meets its contract.
use Rattle.requests.proofs.Tails.{nothing-more}
use Rattle.requests.proofs.request.with_tail.Goals as goal

pub returns-in-None-2 : goal.returns-in-None-2
returns-in-None-2 c = rw c.in-None-2.is (nothing-more c.args.form.command c.args.read.values c.args.line.now c.args.read.next c.if-line-next.false)
