-- `work::submatrix` meets its contract: the tests, then the word of its source, then the rule at the chosen rows and columns.
use mathlib.Core.Path.{◌≡◌, refl, sym, ◌∙◌}
use borrow.Author.Rules.{rules}
use Rattle.std.specs.Prelude.{Ok, Err}
use Rattle.verdict.specs.Verdict.{first_of}
use Rattle.places.specs.Shelf.{rows_at}
use Rattle.operations.specs.Operations.{submatrix_tests, submatrix_at}
use Rattle.operations.proofs.Results.{Ready, submatrix-ready, submatrix-fit, proposed-turned, answered-ranged}
use Rattle.operations.proofs.Worked.{Sets, chosen-sets, run-proper, run-result}
use Rattle.operations.proofs.work.submatrix.Goals as goal
use Rattle.operations.proofs.work.submatrix.Goals.{In_ok-submatrix, After-from-column_set}

accepted : (c : In_ok-submatrix) → (let a = c.args in first_of (submatrix_tests a.shelf a.source a.rows a.columns a.target) ≡ Ok tt)
accepted c = sym c.submatrix.ensures ∙ c.in_ok-submatrix.was

ready : (c : In_ok-submatrix) → (let a = c.args in Ready a.target (rows_at a.shelf a.source) (submatrix_at a.shelf a.source a.rows a.columns))
ready c = let a = c.args in submatrix-ready a.shelf c.requires a.source a.rows a.columns a.target (accepted c)

-- the masks, as they are widened
sets : (c : After-from-column_set)
    → (let a = c.args in Sets (rows_at a.shelf a.source) (submatrix_at a.shelf a.source a.rows a.columns) c.from-row_set.result c.from-column_set.result 0)
sets c =
    let a = c.args in
    let b = (goal.at.After-from-column_set c).In_ok-submatrix in
    let f = (submatrix-fit a.shelf a.source a.rows a.columns a.target (accepted b)).1 in
    rw (c.from-row_set.ensures, c.from-column_set.ensures) (chosen-sets _ _ _ _ (ready b).few f.rows f.columns f.counts)

pub returns-in_err-submatrix-clause-value : goal.returns-in_err-submatrix-clause-value
returns-in_err-submatrix-clause-value c =
    let e : c.from_residual.result ≡ Err c.in_err-submatrix.field-0.0 = search rules in
    e ∙ proposed-turned _ _ _ _ (sym c.submatrix.ensures ∙ c.in_err-submatrix.was)

pub table_at-factors-requires : goal.table_at-factors-requires
table_at-factors-requires c =
    let a = c.args in
    (submatrix-fit a.shelf a.source a.rows a.columns a.target (accepted (goal.at.table_at-factors-requires c).In_ok-submatrix)).0.small

pub of_source-word-requires : goal.of_source-word-requires
of_source-word-requires c =
    let r = ready (goal.at.of_source-word-requires c).In_ok-submatrix in
    record { le_n = rw c.rows_at-n.ensures (r.some, r.few); lent = (refl, refl) }

pub work-requires : goal.work-requires
work-requires c =
    run-proper c.args.target _ _ (rw (c.rows_at-n.ensures, c.table_at-factors.ensures) at c.of_source-word.ensures)
    (sets (goal.at.work-requires c).After-from-column_set) (ready (goal.at.work-requires c).In_ok-submatrix)

pub returns : goal.returns
returns c =
    let a = c.args in
    let b = (goal.at.returns c).In_ok-submatrix in
    let made =
    run-result a.target (rows_at a.shelf a.source) (submatrix_at a.shelf a.source a.rows a.columns)
    (rw (c.rows_at-n.ensures, c.table_at-factors.ensures) at c.of_source-word.ensures) (sets (goal.at.returns c).After-from-column_set) (ready b) in
    let met =
    answered-ranged _ a.target _ _ (submatrix-ready a.shelf c.requires a.source a.rows a.columns a.target) _ _ (accepted b) (c.work.ensures ∙ made)
    c.ranged.ensures in
    record { value = met.0; keepable = met.1 }
