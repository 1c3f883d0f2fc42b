-- What a call returns, as document 01 counts it (`Report`): values where it was accepted, else the number of the refusal and its offset. Beside each type that a
-- call answers with, a definition lists its values; the promises are made of reports.
use Rattle.std.specs.Prelude.{ℕ, List, [], ℤ, Result, Ok, Err}
use Rattle.verdict.specs.declared.Refusal.{Refusal}
use Rattle.verdict.specs.Verdict.{Verdict, number_of}

pub data Report : Type 0 where
  accepted : List ℤ → Report
  refused : ℕ → ℕ → Report

-- the report of an answer, by the values that it returns where the call is accepted
abbrev pub answer_report : {A : Type 0} → (A → List ℤ) → Result A Refusal → Report
answer_report values (Ok a) = accepted (values a)
answer_report values (Err w) = refused (number_of w.reason) w.offset

-- the report of a verdict, with the values that the call returns where it is accepted
abbrev pub report_of : Verdict → List ℤ → Report
report_of v values = answer_report (λ u. values) v

-- a call that returns no value
abbrev pub verdict_report : Verdict → Report
verdict_report v = report_of v []
