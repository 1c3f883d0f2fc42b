-- A recipe's forecast: its count, then as steps joined; what it tells follows from what it is (`recipe-tells`).
use native.Mathlib.Omega.{arith}
use mathlib.Core.Path.{◌≡◌, sym, ap, ◌∙◌}
use borrow.Author.Rules.{rules}
use Rattle.std.specs.Prelude.{Err}
use Rattle.arrays.proofs.Structs.{length-mapped}
use Rattle.verdict.specs.declared.Reason.TheVariants.{WrongStepCount}
use Rattle.verdict.specs.Report.{Report}
use Rattle.verdict.proofs.Verdicts.{when-passed}
use Rattle.conditions.proofs.Passed.{counted}
use Rattle.operations.specs.Operations.{recipe_call}
use Rattle.operations.specs.Forecast.{foretold_report, recipe_forecast, RecipeFound, Foretelling}
use Rattle.operations.proofs.Forecasts.{told-refused, told-behind, recipe-tells}
use Rattle.operations.proofs.Results.{first-refused}
use Rattle.operations.proofs.forecast_recipe.Goals as goal
use Rattle.operations.proofs.forecast_recipe.Goals.{Start}

-- what is answered tells what the recipe will do
told : (b : Start) (f : Report) → (let a = b.args in f ≡ recipe_forecast a.shelf a.recipe
    → (f ≡ recipe_forecast a.shelf a.recipe) × Foretelling a.shelf RecipeFound (recipe_call a.shelf a.recipe) f)
told b f e = (e, recipe-tells b.args.shelf b.requires b.args.recipe (search (rules, length-mapped)) f e)

pub returns-in_err-refuse_if : goal.returns-in_err-refuse_if
unfolding recipe_forecast
returns-in_err-refuse_if c =
    let e : c.from_residual.result ≡ Err c.in_err-refuse_if.field-0.0 = search rules in
    let met =
    told (goal.at.returns-in_err-refuse_if c).Start _ (ap foretold_report e
    ∙ told-refused _ _ _ (first-refused _ _ (rw c.miscounted-miscounted.ensures at (sym c.refuse_if.ensures ∙ c.in_err-refuse_if.was)))) in
    record { result_value = met.0; foretelling = met.1 }

pub joined-requires : goal.joined-requires
joined-requires c =
    let h =
    counted c.args.recipe.count
    (sym c.miscounted-miscounted.ensures ∙ when-passed _ WrongStepCount (sym c.refuse_if.ensures ∙ c.in_ok-refuse_if.was)) in
    (c.requires, omega (arith, h.0), h.1)

pub returns : goal.returns
unfolding recipe_forecast
returns c =
    let met =
    told (goal.at.returns c).Start _ (c.joined.ensures
    ∙ told-behind _ WrongStepCount _ (sym c.miscounted-miscounted.ensures ∙ when-passed _ WrongStepCount (sym c.refuse_if.ensures ∙ c.in_ok-refuse_if.was))) in
    record { result_value = met.0; foretelling = met.1 }
