-- What the answers of the shelf's own calls report: a shelf with a verdict (`changed_outcome`), a factor's mantissa and exponent (`factor_report`).
use Rattle.std.specs.Prelude.{[], ◌∷◌, pos}
use Rattle.verdict.specs.Report.{Report, accepted, verdict_report}
use Rattle.places.specs.Outcome.{Outcome, outcome}
use Rattle.operations.specs.declared.Value.{Value}
use Rattle.shelf.specs.declared.Changed.{Changed}

abbrev pub changed_outcome : Changed → Outcome
changed_outcome x = outcome x.shelf (verdict_report x.verdict)

abbrev pub factor_report : Value → Report
factor_report a = accepted (pos a.mantissa ∷ a.exponent ∷ [])
