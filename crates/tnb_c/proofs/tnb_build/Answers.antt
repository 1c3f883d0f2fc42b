-- `tnb_build` meets its contract: the shelf's own answer with the promise of a build, or 255.
use mathlib.Core.Path.{ap, ◌∙◌}
use Rattle.operations.specs.Promise.{Built}
use Rattle.shelf.specs.Run.{build, run}
use Rattle.tnb_c.specs.Answers.{answer_of}
use Rattle.tnb_c.proofs.Checked.{answered, turned-away}
use Rattle.tnb_c.proofs.Answered.{with-promise, away-promising, build-answered}
use Rattle.tnb_c.proofs.tnb_build.Goals as goal

pub build-requires : goal.build-requires
build-requires c = c.is_good.ensures.good c.if-is_good.true

pub returns-then-is_good : goal.returns-then-is_good
unfolding run
returns-then-is_good c =
    let a = c.args in
    let passed = c.if-is_good.true in
    let good = c.is_good.ensures.good passed in
    let own = c.into.ensures ∙ ap answer_of c.build.ensures.result_value in
    let ran = answered a.shelf (build a.target a.stamps.now) answer_of c.is_good.ensures.value passed own in
    let met = with-promise (λ s k e. Built s a.target a.stamps.now k) _ _ ran (build-answered a.shelf good a.target a.stamps.now) in
    record { value = met.0; built_answer = met.1 }

pub returns : goal.returns
returns c =
    let a = c.args in
    let tested = c.is_good.ensures.value in
    let away = away-promising (λ s k e. Built s a.target a.stamps.now k) _ _ c.foreign.ensures in
    record { value = turned-away _ (build _ _) answer_of tested c.if-is_good.false c.foreign.ensures; built_answer = away }
