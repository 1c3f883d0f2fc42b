-- `Run::run_minor` meets its contract: the masks are those of the rows and columns.
use borrow.Author.Rules.{rules}
use mathlib.Core.Path.{ap, ◌∙◌}
use native.Mathlib.Omega.{arith}
use Rattle.rule.specs.Run.{run_minors, run_steps}
use Rattle.rule.proofs.Asked.{size_few, run-ready, run-answer, run-rows}
use Rattle.rule.proofs.formulas.Run.run_minor.Goals as goal

pub run-i-requires : goal.run-i-requires
run-i-requires c = let r = c.args.self.now in omega (arith, size_few r.chosen r.workable)

pub run-j-requires : goal.run-j-requires
run-j-requires c = let r = c.args.self.now in omega (arith, size_few r.chosen r.workable)

pub minor-requires : goal.minor-requires
minor-requires c =
    let a = c.args in
    let r = a.self.now in
    run-ready r.chosen r.workable a.a a.b a.m _ _ (search rules) (search rules) (search rules) c.run-i.ensures.value c.run-j.ensures.value

pub returns : goal.returns
returns c =
    let a = c.args in
    let r = a.self.now in
    let i = c.run-i.ensures.value in
    let j = c.run-j.ensures.value in
    record {
      number_value = run-answer r.chosen r.workable a.a a.b a.m _ _ (search rules) (search rules) (search rules) i j (run_minors r a.turned)
          c.minor.ensures.number_value;
      ranged = c.minor.ensures.ranged;
      steps_value = (
        c.minor.ensures.steps_value.0
            ∙ ap (run_steps r) (run-rows r.chosen r.workable a.a a.b a.m _ _ (search rules) (search rules) (search rules) i j),
        c.minor.ensures.steps_value.1,
      );
    }
