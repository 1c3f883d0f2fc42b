-- `Run::with_row` meets its contract: row i is put in by replacing it by itself.
use borrow.Author.Rules.{rules}
use mathlib.Core.Path.{ap, ◌∙◌}
use native.Mathlib.Omega.{arith}
use Rattle.rule.specs.Run.{run_minors, run_steps}
use Rattle.rule.proofs.Asked.{size_few}
use Rattle.rule.proofs.Sets.{latest-256, with-ready, with-answer, with_rows}
use Rattle.rule.proofs.formulas.Run.with_row.Goals as goal

pub replaced-requires : goal.replaced-requires
replaced-requires c =
    let a = c.args in
    let r = a.self.now in
    let few = size_few r.chosen r.workable in (
      latest-256 r.chosen r.workable (run_minors r a.turned) a.i a.j a.s c.requires.latest_mask (search rules) (search rules) (search rules),
      omega arith,
      omega arith,
      omega arith,
      omega arith,
    )

pub run-requires : goal.run-requires
run-requires c = let r = c.args.self.now in (search rules, omega (arith, size_few r.chosen r.workable))

pub minor-requires : goal.minor-requires
minor-requires c =
    let a = c.args in
    let r = a.self.now in
    with-ready r.chosen r.workable (run_minors r a.turned) a.i a.j a.s c.requires.latest_mask (search rules) (search rules) (search rules) _ _
    c.replaced.ensures.value c.run.ensures.value

pub returns : goal.returns
returns c =
    let a = c.args in
    let r = a.self.now in
    let M = run_minors r a.turned in
    let R = c.requires.latest_mask in
    record {
      number_value = c.minor.ensures.number_value
          ∙ with-answer r.chosen r.workable M a.i a.j a.s R (search rules) (search rules) (search rules) _ _ c.replaced.ensures.value c.run.ensures.value;
      ranged = c.minor.ensures.ranged;
      steps_value = (
        c.minor.ensures.steps_value.0 ∙ ap (run_steps r) (with_rows r.chosen r.workable M a.i a.j a.s R (search rules) (search rules) (search rules) _ _
            c.replaced.ensures.value c.run.ensures.value),
        c.minor.ensures.steps_value.1,
      );
    }
