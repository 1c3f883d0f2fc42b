-- `requests::request::read_two` meets its contract: what was read is kept where it is two items, and there are not two where it is another count.
use Rattle.requests.proofs.Tails.{two-nothing, two-read, two-other}
use borrow.Author.Rules.{rules}
use Rattle.requests.proofs.request.read_two.Goals as goal

pub returns-in_err-count : goal.returns-in_err-count
returns-in_err-count c = rw c.from_residual.ensures (two-nothing _ (rw c.in_err-count.was at c.read.ensures))

pub returns-then-two : goal.returns-then-two
returns-then-two c = two-read _ (search rules) _ _ (rw c.in_ok-count.was at c.read.ensures) c.if-two.true

pub returns-else-two : goal.returns-else-two
returns-else-two c = two-other c.read.new.list (search rules) _ _ (rw c.in_ok-count.was at c.read.ensures) c.if-two.false
