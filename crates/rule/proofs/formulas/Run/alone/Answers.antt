-- `Run::alone` meets its contract: R has as many rows as there are columns.
use borrow.Author.Rules.{rules}
use mathlib.Core.Path.{◌∙◌}
use native.Mathlib.Omega.{arith}
use Rattle.rule.specs.Run.{run_minors}
use Rattle.rule.proofs.Asked.{size_few}
use Rattle.rule.proofs.Sets.{alone-ready, alone-answer}
use Rattle.rule.proofs.formulas.Run.alone.Goals as goal

pub run-requires : goal.run-requires
run-requires c = let r = c.args.self.now in (search rules, omega (arith, size_few r.chosen r.workable))

pub minor-requires : goal.minor-requires
minor-requires c =
    let a = c.args in
    let r = a.self.now in
    alone-ready r.chosen r.workable (run_minors r a.turned) a.i a.j a.s c.requires.latest_mask (search rules) (search rules) (search rules) _
    c.run.ensures.value

pub returns-clause-number_value : goal.returns-clause-number_value
returns-clause-number_value c =
    let a = c.args in
    let r = a.self.now in
    c.minor.ensures.number_value
    ∙ alone-answer r.chosen r.workable (run_minors r a.turned) a.i a.j a.s c.requires.latest_mask (search rules) (search rules) (search rules) _
    c.run.ensures.value
