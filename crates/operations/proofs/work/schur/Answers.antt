-- `work::schur` meets its contract: the tests, then the word of its source, then the rule with the first rows and columns clamped.
use native.Mathlib.Omega.{arith}
use mathlib.Core.Path.{◌≡◌, refl, sym, ◌∙◌}
use borrow.Author.Rules.{rules}
use Rattle.std.specs.Prelude.{Ok, Err}
use Rattle.verdict.specs.Verdict.{first_of}
use Rattle.places.specs.Shelf.{rows_at}
use Rattle.places.proofs.Verdicts.{one-accepted}
use Rattle.operations.specs.Operations.{schur_at, clamped_tests}
use Rattle.operations.proofs.Results.{Ready, schur-clamped, schur-ready, proposed-turned, answered-ranged}
use Rattle.operations.proofs.Worked.{Sets, schur-sets, run-proper, run-result}
use Rattle.operations.proofs.work.schur.Goals as goal
use Rattle.operations.proofs.work.schur.Goals.{After-run-all, In_ok-clamped_to}

accepted : (c : In_ok-clamped_to) → (let a = c.args in first_of (clamped_tests a.shelf a.source a.k a.target) ≡ Ok tt)
accepted c = sym c.clamped_to.ensures ∙ c.in_ok-clamped_to.was

ready : (c : In_ok-clamped_to) → (let a = c.args in Ready a.target (rows_at a.shelf a.source) (schur_at a.shelf a.source a.k))
ready c = let a = c.args in schur-ready a.shelf c.requires a.source a.k a.target (accepted c)

-- the mask of all rows
sets : (c : After-run-all)
    → (let a = c.args in Sets (rows_at a.shelf a.source) (schur_at a.shelf a.source a.k) c.run-all.result c.run-all.result a.k)
sets c =
    let a = c.args in
    let b = (goal.at.After-run-all c).In_ok-clamped_to in
    let some = schur-clamped a.shelf c.requires a.source a.k a.target (accepted b) in
    schur-sets _ _ _ _ (ready b).few some.1.1 (rw c.rows_at-n.ensures at c.run-all.ensures.value)

pub returns-in_err-clamped_to-clause-value : goal.returns-in_err-clamped_to-clause-value
returns-in_err-clamped_to-clause-value c =
    let e : c.from_residual.result ≡ Err c.in_err-clamped_to.field-0.0 = search rules in
    e ∙ proposed-turned _ _ _ _ (sym c.clamped_to.ensures ∙ c.in_err-clamped_to.was)

pub table_at-factors-requires : goal.table_at-factors-requires
table_at-factors-requires c =
    let a = c.args in
    let some = schur-clamped a.shelf c.requires a.source a.k a.target (accepted (goal.at.table_at-factors-requires c).In_ok-clamped_to) in
    (one-accepted a.shelf a.source a.target some.0).0.small

pub of_source-plain-requires : goal.of_source-plain-requires
of_source-plain-requires c =
    let r = ready (goal.at.of_source-plain-requires c).In_ok-clamped_to in
    record { le_n = rw c.rows_at-n.ensures (r.some, r.few); lent = (refl, refl) }

pub run-all-requires : goal.run-all-requires
run-all-requires c = (omega arith, rw c.rows_at-n.ensures (ready (goal.at.run-all-requires c).In_ok-clamped_to).few)

pub work-requires : goal.work-requires
work-requires c =
    run-proper c.args.target _ _ (rw (c.rows_at-n.ensures, c.table_at-factors.ensures) at c.of_source-plain.ensures)
    (sets (goal.at.work-requires c).After-run-all) (ready (goal.at.work-requires c).In_ok-clamped_to)

pub returns : goal.returns
returns c =
    let a = c.args in
    let b = (goal.at.returns c).In_ok-clamped_to in
    let made =
    run-result a.target (rows_at a.shelf a.source) (schur_at a.shelf a.source a.k)
    (rw (c.rows_at-n.ensures, c.table_at-factors.ensures) at c.of_source-plain.ensures) (sets (goal.at.returns c).After-run-all) (ready b) in
    let met = answered-ranged _ a.target _ _ (schur-ready a.shelf c.requires a.source a.k a.target) _ _ (accepted b) (c.work.ensures ∙ made) c.ranged.ensures in
    record { value = met.0; keepable = met.1 }
