-- `Run::latest` meets its contract: what the search finds is R.
use borrow.Author.Rules.{rules}
use Rattle.rule.proofs.Sets.{latest-mask, latest-mask-turned}
use Rattle.rule.proofs.formulas.Run.latest.Goals as goal

pub returns-then-turned : goal.returns-then-turned
returns-then-turned c =
    let a = c.args in
    let r = a.self.now in
    let found = c.latest.ensures in
    rw c.if-turned.true
    (latest-mask-turned r.chosen r.workable _ a.i a.j c.latest.result (search rules) (search rules) (search rules) r.upper_sides found.result_value
    found.upper_bound)

pub returns-else-turned : goal.returns-else-turned
returns-else-turned c =
    let a = c.args in
    let r = a.self.now in
    let found = c.latest-else-turned.ensures in
    rw c.if-turned.false
    (latest-mask r.chosen r.workable _ a.i a.j c.latest-else-turned.result (search rules) (search rules) (search rules) r.lower_sides found.result_value
    found.upper_bound)
