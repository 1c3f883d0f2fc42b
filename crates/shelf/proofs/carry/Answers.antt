-- A carry: its place judged, and the list carried through the word of the place (laws in Carrying); that it adds no reversal is the promise of `lists::carry`.
use mathlib.Core.Path.{◌≡◌, sym, ap, ◌∙◌}
use borrow.Author.Rules.{rules}
use Rattle.words.proofs.Banded.{banded-ranged}
use Rattle.std.specs.Prelude.{Ok, Err}
use Rattle.verdict.specs.Verdict.{first_of}
use Rattle.verdict.specs.Report.{verdict_report}
use Rattle.places.specs.Shelf.{rows_at}
use Rattle.places.specs.Tests.{source_tests}
use Rattle.conditions.proofs.Passed.{Source}
use Rattle.places.proofs.Verdicts.{source-accepted}
use Rattle.shelf.proofs.Carrying.{carry-turned, carry-done}
use Rattle.shelf.proofs.carry.Goals as goal
use Rattle.shelf.proofs.carry.Goals.{In_ok-source}

accepted : (c : In_ok-source) → first_of (source_tests c.args.shelf c.args.place) ≡ Ok tt
accepted c = sym c.source.ensures ∙ c.in_ok-source.was

source : (c : In_ok-source) → Source (rows_at c.args.shelf) c.args.place
source c = source-accepted _ _ (accepted c)

pub returns-in_err-source : goal.returns-in_err-source
returns-in_err-source c =
    let a = c.args in
    let e : c.from_residual.result ≡ Err c.in_err-source.field-0.0 = search rules in
    let t = carry-turned a.shelf a.place a.items.now a.out.now _ (sym c.source.ensures ∙ c.in_err-source.was) in
    record { result_value = ap verdict_report e ∙ t.0; out_after = t.1; steady = rw e tt }

pub table_at-requires : goal.table_at-requires
table_at-requires c = (source (goal.at.table_at-requires c).In_ok-source).small

pub carry-requires : goal.carry-requires
carry-requires c =
    let o = source (goal.at.carry-requires c).In_ok-source in
    let fits = c.requires.held _ o.small in
    rw (c.rows_at-n.ensures, c.table_at.ensures) (o.some, fits.few, banded-ranged _ _ fits.banded)

pub returns : goal.returns
returns c =
    let a = c.args in
    let e = c.carry.ensures in
    let d =
    carry-done a.shelf a.place a.items.now a.out.now (accepted (goal.at.returns c).In_ok-source) _ _ c.rows_at-n.ensures c.table_at.ensures _ _ e.value
    e.out_after in
    record { result_value = d.0; out_after = d.1; steady = e.steady }
