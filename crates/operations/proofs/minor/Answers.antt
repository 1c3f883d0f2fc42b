-- A minor of a place: its tests, the minor worked where they passed, and the test of its exponent (laws in MinorCalls).
use mir.Syntax.{w64}
use mir.Val.{SFits}
use mir.Facts.{to_z-of_z}
use mathlib.Core.Path.{◌≡◌, refl, sym, ap, ap₂, ◌∙◌}
use lib.IntN.{ℤ}
use borrow.Author.Tests.{not-false}
use Rattle.number.specs.declared.Number.{Number}
use Rattle.number.specs.Number.{exponent_of}
use borrow.Author.Rules.{rules}
use Rattle.std.specs.Prelude.{Ok, Err}
use Rattle.verdict.specs.declared.Reason.TheVariants.{ExponentOutOfRange}
use Rattle.verdict.specs.Verdict.{first_of}
use Rattle.verdict.specs.Report.{Report}
use Rattle.verdict.proofs.Verdicts.{when-passed}
use Rattle.operations.specs.Operations.{minor_at, set_tests}
use Rattle.operations.specs.Reports.{valued_report}
use Rattle.operations.proofs.MinorCalls.{range, sets-passed, minor-turned, minor-ranged, minor-outside, minor-done, minor-is, minor-workable, in-range-small}
use Rattle.operations.proofs.minor.Goals as goal
use Rattle.operations.proofs.minor.Goals.{After-minor-a, After-refuse_if, In_ok-sets}

passed : (c : In_ok-sets) → (let a = c.args in first_of (set_tests a.shelf a.place a.rows a.columns) ≡ Ok tt)
passed c = let a = c.args in sym c.sets.ensures ∙ c.in_ok-sets.was

value : (c : After-minor-a) → (let a = c.args in c.minor-a.result ≡ minor_at a.shelf a.place a.rows a.columns)
value c =
    let a = c.args in
    minor-is a.shelf a.place a.rows a.columns _ _ _ _ _ c.rows_at-n.ensures c.table_at.ensures refl refl c.minor-a.ensures

ranged : (c : After-refuse_if) → (let a = c.args in range a.shelf a.place a.rows a.columns ≡ c.refuse_if.result)
ranged c =
    let a = c.args in
    minor-ranged a.shelf a.place a.rows a.columns _ _ _ (value (goal.at.After-refuse_if c).After-minor-a) c.in_range-beyond.ensures c.refuse_if.ensures

pub returns-in_err-sets : goal.returns-in_err-sets
returns-in_err-sets c =
    let a = c.args in
    let e : c.from_residual.result ≡ Err c.in_err-sets.field-0.0 = search rules in
    ap valued_report e
    ∙ minor-turned a.shelf a.place a.rows a.columns _ (sym c.sets.ensures ∙ c.in_err-sets.was)

pub table_at-requires : goal.table_at-requires
table_at-requires c =
    let a = c.args in
    (sets-passed a.shelf a.place a.rows a.columns (passed (goal.at.table_at-requires c).In_ok-sets)).0.small

pub minor-a-requires : goal.minor-a-requires
minor-a-requires c =
    let a = c.args in
    let p = sets-passed a.shelf a.place a.rows a.columns (passed (goal.at.minor-a-requires c).In_ok-sets) in
    let met =
    minor-workable a.shelf a.place a.rows a.columns _ _ _ _ c.rows_at-n.ensures refl refl c.table_at.ensures c.requires p.0 p.1 in
    record { le_n = met.0; sets = met.1 }

pub returns-in_err-refuse_if : goal.returns-in_err-refuse_if
returns-in_err-refuse_if c =
    let a = c.args in
    let e : c.from_residual-in_err-refuse_if.result ≡ Err c.in_err-refuse_if.field-0.0 = search rules in
    ap valued_report e
    ∙ minor-outside a.shelf a.place a.rows a.columns (passed (goal.at.returns-in_err-refuse_if c).In_ok-sets) _
    (ranged (goal.at.returns-in_err-refuse_if c).After-refuse_if ∙ c.in_err-refuse_if.was)

pub exponent-requires : goal.exponent-requires
exponent-requires c =
    in-range-small _
    (sym c.in_range-beyond.ensures ∙ not-false _ (when-passed _ ExponentOutOfRange (sym c.refuse_if.ensures ∙ c.in_ok-refuse_if.was)))

pub returns : goal.returns
returns c =
    let a = c.args in
    let e = value (goal.at.returns c).After-minor-a in
    let f : SFits w64 c.exponent.result = record { sfits = c.exponent.type_inv } in
    ap₂ (λ (x : Number) (y : ℤ). let r : Report = valued_report (Ok (record { mantissa = x.m; exponent = y })) in r) e
    (to_z-of_z f ∙ c.exponent.ensures ∙ ap exponent_of e)
    ∙ minor-done a.shelf a.place a.rows a.columns (passed (goal.at.returns c).In_ok-sets)
    (ranged (goal.at.returns c).After-refuse_if ∙ c.in_ok-refuse_if.was)
