-- What an answer of an operation reports, case by case: a bound and steps (`performed_report`), a bound (`bounded_report`), a mantissa and an exponent
-- (`valued_report`), or a refusal with its number and offset.
use Rattle.std.specs.Prelude.{ℕ, [], ◌∷◌, pos, Result}
use Rattle.verdict.specs.declared.Refusal.{Refusal}
use Rattle.verdict.specs.Report.{Report, answer_report}
use Rattle.places.specs.Outcome.{Outcome, outcome}
use Rattle.operations.specs.Operations.{done}
use Rattle.operations.specs.declared.Performed.{Performed}
use Rattle.operations.specs.declared.Value.{Value}
use Rattle.operations.specs.declared.Filled.{Filled}
use Rattle.operations.specs.declared.Operated.{Operated}

abbrev pub bounded_report : Result ℕ Refusal → Report
bounded_report = answer_report (λ k. pos k ∷ [])

abbrev pub performed_report : Result Performed Refusal → Report
performed_report = answer_report (λ x. done x.bound x.steps)

abbrev pub valued_report : Result Value Refusal → Report
valued_report = answer_report (λ a. pos a.mantissa ∷ a.exponent ∷ [])

-- what an operation hands back
abbrev pub operated_outcome : Operated → Outcome
operated_outcome x = outcome x.shelf (performed_report x.answer)

-- what a build hands back
abbrev pub filled_outcome : Filled → Outcome
filled_outcome x = outcome x.shelf (bounded_report x.answer)
