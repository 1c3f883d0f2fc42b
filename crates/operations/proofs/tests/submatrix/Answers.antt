-- The tests of a submatrix: those of its places and its sets, and then, of sets that fit, that it is not singular (laws in Results).
use mathlib.Core.Path.{◌≡◌, refl, sym, ap, ◌∙◌}
use lib.Dec.{eqb}
use Rattle.number.specs.declared.Number.{Number}
use borrow.Author.Rules.{rules}
use Rattle.std.specs.Prelude.{Ok, Err}
use Rattle.verdict.specs.Verdict.{first_of}
use Rattle.operations.specs.Operations.{chosen_tests}
use Rattle.operations.proofs.MinorCalls.{minor-is, minor-workable}
use Rattle.operations.proofs.Results.{chosen-fit, chosen-turned, chosen-tested}
use Rattle.operations.proofs.tests.submatrix.Goals as goal
use Rattle.operations.proofs.tests.submatrix.Goals.{In_ok-sets_to}

-- they passed
passed : (c : In_ok-sets_to) → (let a = c.args in first_of (chosen_tests a.shelf a.source a.rows a.columns a.target) ≡ Ok tt)
passed c = sym c.sets_to.ensures ∙ c.in_ok-sets_to.was

pub returns-in_err-sets_to : goal.returns-in_err-sets_to
returns-in_err-sets_to c =
    let a = c.args in
    let e : c.from_residual.result ≡ Err c.in_err-sets_to.field-0.0 = search rules in
    e ∙ chosen-turned a.shelf a.source a.rows a.columns a.target _ (sym c.sets_to.ensures ∙ c.in_err-sets_to.was)

pub table_at-factors-requires : goal.table_at-factors-requires
table_at-factors-requires c =
    let a = c.args in
    (chosen-fit a.shelf a.source a.rows a.columns a.target (passed (goal.at.table_at-factors-requires c).In_ok-sets_to)).0.small

pub is_zero-requires : goal.is_zero-requires
is_zero-requires c =
    let a = c.args in
    let p = chosen-fit a.shelf a.source a.rows a.columns a.target (passed (goal.at.is_zero-requires c).In_ok-sets_to) in
    let met = minor-workable a.shelf a.source a.rows a.columns _ _ _ _ c.rows_at-n.ensures refl refl c.table_at-factors.ensures c.requires p.0 p.1 in
    record { le_n = met.0; sets = met.1 }

pub returns : goal.returns
returns c =
    let a = c.args in
    c.refuse_if.ensures
    ∙ chosen-tested a.shelf a.source a.rows a.columns a.target c.requires (passed (goal.at.returns c).In_ok-sets_to) c.is_zero.result
    (c.is_zero.ensures ∙ ap (λ (x : Number). eqb x.m 0)
    (minor-is a.shelf a.source a.rows a.columns _ _ _ _ _ c.rows_at-n.ensures c.table_at-factors.ensures refl refl refl))
