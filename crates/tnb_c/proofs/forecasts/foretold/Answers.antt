-- `foretold` meets its contract.
use mathlib.Core.Path.{refl, sym, ap, ◌∙◌}
use Rattle.places.specs.Outcome.{Outcome}
use Rattle.shelf.specs.Run.{operate, forecast, run}
use Rattle.tnb_c.specs.declared.Steps.{Steps}
use Rattle.tnb_c.specs.Answers.{steps_of}
use Rattle.tnb_c.proofs.Checked.{answered}
use Rattle.tnb_c.proofs.Ahead.{foretold-answered, away-foretold}
use Rattle.tnb_c.proofs.forecasts.foretold.Goals as goal

abbrev answer : Outcome → Steps
answer x = steps_of x.report

pub forecast-requires : goal.forecast-requires
forecast-requires c = c.is_good.ensures.good c.if-is_good.true

pub returns-then-is_good : goal.returns-then-is_good
unfolding run
returns-then-is_good c =
    let is = answered _ (forecast _) answer c.is_good.ensures.value c.if-is_good.true (c.into.ensures ∙ ap steps_of c.forecast.ensures.result_value) in
    record { value = is; foretold_answer = foretold-answered _ (c.is_good.ensures.good c.if-is_good.true) _ _ is }

pub returns : goal.returns
returns c =
    let a = c.args in
    let met = away-foretold a.shelf (sym c.is_good.ensures.value ∙ c.if-is_good.false) (forecast a.task) (operate a.task) _ c.foreign.ensures refl (λ t. refl) in
    record { value = met.0; foretold_answer = met.1 }
