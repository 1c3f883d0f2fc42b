-- `tnb_forecast_recipe` meets its contract.
use mathlib.Core.Path.{refl, sym, ap, ◌∙◌}
use Rattle.places.specs.Outcome.{Outcome}
use Rattle.recipes.specs.Codes.{recipe_by}
use Rattle.operations.specs.Forecast.{recipe_forecast}
use Rattle.shelf.specs.Run.{recipe, forecast_recipe, run}
use Rattle.tnb_c.specs.declared.Steps.{Steps}
use Rattle.tnb_c.specs.Answers.{steps_of}
use Rattle.tnb_c.proofs.Checked.{answered}
use Rattle.tnb_c.proofs.Ahead.{recipe-foretold, away-foretold}
use Rattle.tnb_c.proofs.recipe.tnb_forecast_recipe.Goals as goal

abbrev answer : Outcome → Steps
answer x = steps_of x.report

pub forecast_recipe-requires : goal.forecast_recipe-requires
forecast_recipe-requires c = c.is_good.ensures.good c.if-is_good.true

pub returns-then-is_good : goal.returns-then-is_good
unfolding run recipe_by
returns-then-is_good c =
    let a = c.args in
    let r = recipe_by a.steps.now in
    let passed = c.if-is_good.true in
    let is =
    answered a.shelf (forecast_recipe r) answer c.is_good.ensures.value passed
    (c.into.ensures ∙ ap steps_of (c.forecast_recipe.ensures.result_value ∙ ap (recipe_forecast a.shelf) c.recipe-made.ensures)) in
    record { value = is; foretold_answer = recipe-foretold a.shelf (c.is_good.ensures.good passed) r refl _ is }

pub returns : goal.returns
returns c =
    let a = c.args in
    let r = recipe_by a.steps.now in
    let met = away-foretold a.shelf (sym c.is_good.ensures.value ∙ c.if-is_good.false) (forecast_recipe r) (recipe r) _ c.foreign.ensures refl (λ t. refl) in
    record { value = met.0; foretold_answer = met.1 }
