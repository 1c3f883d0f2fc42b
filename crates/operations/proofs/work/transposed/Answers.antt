-- The transpose before it is kept: turned down, or the factors exchanged (laws in Proposals).
use mathlib.Core.Path.{◌≡◌, sym, ◌∙◌}
use borrow.Author.Rules.{rules}
use Rattle.std.specs.Prelude.{Ok, Err}
use Rattle.verdict.specs.Verdict.{first_of}
use Rattle.places.specs.Tests.{one_source}
use Rattle.places.proofs.Verdicts.{one-accepted}
use Rattle.operations.proofs.Proposals.{transpose-turned, transpose-done, transpose-answered}
use Rattle.operations.proofs.work.transposed.Goals as goal
use Rattle.operations.proofs.work.transposed.Goals.{In_ok-one_source}

accepted : (c : In_ok-one_source) → (let a = c.args in first_of (one_source a.shelf a.source a.target) ≡ Ok tt)
accepted c = sym c.one_source.ensures ∙ c.in_ok-one_source.was

pub returns-in_err-one_source-clause-value : goal.returns-in_err-one_source-clause-value
returns-in_err-one_source-clause-value c =
    let a = c.args in
    let e : c.from_residual.result ≡ Err c.in_err-one_source.field-0.0 = search rules in
    e ∙ transpose-turned a.shelf a.source a.target _ (sym c.one_source.ensures ∙ c.in_err-one_source.was)

pub table_at-requires : goal.table_at-requires
table_at-requires c = let a = c.args in (one-accepted a.shelf a.source a.target (accepted (goal.at.table_at-requires c).In_ok-one_source)).0.small

pub returns : goal.returns
returns c =
    let a = c.args in
    let met =
    transpose-answered a.shelf a.source a.target c.requires _
    (transpose-done a.shelf a.source a.target c.requires _ _ _ (accepted (goal.at.returns c).In_ok-one_source) c.rows_at.ensures c.table_at.ensures
    c.exchanged.ensures) in
    record { value = met.0; keepable = met.1 }
