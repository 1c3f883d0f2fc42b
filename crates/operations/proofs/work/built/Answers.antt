-- The matrix of powers before it is kept: turned down, or the factors of the stamps (laws in Building).
use mathlib.Core.Path.{◌≡◌, refl, sym, ◌∙◌}
use borrow.Author.Rules.{rules}
use Rattle.std.specs.Prelude.{Ok, Err}
use Rattle.verdict.specs.Verdict.{first_of}
use Rattle.operations.specs.Operations.{build_tests}
use Rattle.operations.proofs.Building.{build-tested, build-accepted, build-turned, build-worked}
use Rattle.operations.proofs.work.built.Goals as goal
use Rattle.operations.proofs.work.built.Goals.{In_ok-refuse_if}

-- the tests passed
accepted : (c : In_ok-refuse_if) → (let a = c.args in first_of (build_tests a.shelf a.target a.stamps.now) ≡ Ok tt)
accepted c =
    let a = c.args in
    build-tested a.shelf a.target a.stamps.now (sym c.target.ensures ∙ c.in_ok-target.was)
    (rw c.mistimed.ensures at (sym c.refuse_if.ensures ∙ c.in_ok-refuse_if.was))

pub returns-in_err-target-clause-value : goal.returns-in_err-target-clause-value
returns-in_err-target-clause-value c =
    let a = c.args in
    let e : c.from_residual.result ≡ Err c.in_err-target.field-0.0 = search rules in
    e ∙ build-turned a.shelf a.target a.stamps.now _ (build-tested a.shelf a.target a.stamps.now (sym c.target.ensures ∙ c.in_err-target.was) refl)

pub returns-in_err-refuse_if-clause-value : goal.returns-in_err-refuse_if-clause-value
returns-in_err-refuse_if-clause-value c =
    let a = c.args in
    let e : c.from_residual-in_err-refuse_if.result ≡ Err c.in_err-refuse_if.field-0.0 = search rules in
    e
    ∙ build-turned a.shelf a.target a.stamps.now _ (build-tested a.shelf a.target a.stamps.now (sym c.target.ensures ∙ c.in_ok-target.was)
    (rw c.mistimed.ensures at (sym c.refuse_if.ensures ∙ c.in_err-refuse_if.was)))

pub table-requires : goal.table-requires
table-requires c =
    let a = c.args in
    (build-accepted a.shelf a.target a.stamps.now (accepted (goal.at.table-requires c).In_ok-refuse_if)).1

pub returns : goal.returns
returns c =
    let a = c.args in
    let met = build-worked a.shelf a.target a.stamps.now _ (accepted (goal.at.returns c).In_ok-refuse_if) c.table.ensures in
    record { value = met.0; keepable = met.1 }
