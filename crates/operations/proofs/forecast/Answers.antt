-- A forecast, by the operation that is asked of; what it tells follows from what it is (`forecast-tells`).
use mathlib.Core.Path.{◌≡◌, sym, ap, ◌∙◌}
use Rattle.verdict.specs.Report.{Report}
use Rattle.operations.specs.Forecast.{forecast_call, task_call, Found, Foretelling}
use Rattle.operations.proofs.Forecasts.{forecast-tells}
use Rattle.operations.proofs.forecast.Goals as goal
use Rattle.operations.proofs.forecast.Goals.{Start}

-- what is answered tells what the operation will do
told : (b : Start) (f : Report) → f ≡ forecast_call b.args.shelf b.args.task
    → (f ≡ forecast_call b.args.shelf b.args.task) × Foretelling b.args.shelf (Found b.args.task) (task_call b.args.shelf b.args.task) f
told b f e = (e, forecast-tells b.args.shelf b.requires b.args.task f e)

pub returns-in-Product : goal.returns-in-Product
unfolding forecast_call
returns-in-Product c =
    let met = told (goal.at.returns-in-Product c).Start _ (rw c.two.ensures at c.joined.ensures ∙ sym (ap (forecast_call _) c.in-Product.is)) in
    record { result_value = met.0; foretelling = met.1 }

pub returns-in-Inverse : goal.returns-in-Inverse
unfolding forecast_call
returns-in-Inverse c =
    let met = told (goal.at.returns-in-Inverse c).Start _ (rw c.one.ensures at c.joined-in-Inverse.ensures ∙ sym (ap (forecast_call _) c.in-Inverse.is)) in
    record { result_value = met.0; foretelling = met.1 }

pub returns-in-Converse : goal.returns-in-Converse
unfolding forecast_call
returns-in-Converse c =
    let met =
    told (goal.at.returns-in-Converse c).Start _ (rw c.one-in-Converse.ensures at c.joined-in-Converse.ensures ∙ sym (ap (forecast_call _) c.in-Converse.is)) in
    record { result_value = met.0; foretelling = met.1 }

pub returns-in-Transpose : goal.returns-in-Transpose
unfolding forecast_call
returns-in-Transpose c =
    let met = told (goal.at.returns-in-Transpose c).Start _ (c.transpose.ensures ∙ sym (ap (forecast_call _) c.in-Transpose.is)) in
    record { result_value = met.0; foretelling = met.1 }

pub returns-in-Submatrix : goal.returns-in-Submatrix
unfolding forecast_call
returns-in-Submatrix c =
    let met =
    told (goal.at.returns-in-Submatrix c).Start _ (c.submatrix.ensures ∙ sym (ap (forecast_call _) c.in-Submatrix.is)) in
    record { result_value = met.0; foretelling = met.1 }

pub returns-in-Schur : goal.returns-in-Schur
unfolding forecast_call
returns-in-Schur c =
    let met = told (goal.at.returns-in-Schur c).Start _ (c.schur.ensures ∙ sym (ap (forecast_call _) c.in-Schur.is)) in
    record { result_value = met.0; foretelling = met.1 }
