-- The bytes that writing a place takes: judged, its factors one behind the other, and how many bytes these are (laws in Writing).
use Prim.Native.Nat.{ℕ, ◌≤◌}
use mathlib.Core.Path.{◌≡◌, sym, ap, ◌∙◌}
use borrow.Author.Rules.{rules}
use Rattle.std.specs.Prelude.{Ok, Err}
use Rattle.verdict.specs.Verdict.{first_of}
use Rattle.verdict.specs.Report.{Report}
use Rattle.writer.specs.Encoding.{written_report}
use Rattle.places.specs.declared.Shelf.{Shelf}
use Rattle.places.specs.Tests.{source_tests}
use Rattle.places.proofs.Verdicts.{source-accepted}
use Rattle.shelf.specs.Calls.{length_call, Measuring}
use Rattle.shelf.proofs.Writing.{bytes_packed, length-turned, length-done, length-tells}
use Rattle.shelf.proofs.length.Goals as goal
use Rattle.shelf.proofs.length.Goals.{After-rows_at-n, In_ok-source}

accepted : (c : In_ok-source) → first_of (source_tests c.args.shelf c.args.place) ≡ Ok tt
accepted c = sym c.source.ensures ∙ c.in_ok-source.was

few : (c : After-rows_at-n) → c.rows_at-n.result ≤ 8
few c = rw c.rows_at-n.ensures (c.requires.held _ (source-accepted _ _ (accepted (goal.at.After-rows_at-n c).In_ok-source)).small).few

-- what is answered tells what a write will do
told : (s : Shelf) (p : ℕ) (f : Report) → f ≡ length_call s p → (f ≡ length_call s p) × Measuring s p f
told s p f e = (e, length-tells s p f e)

pub returns-in_err-source : goal.returns-in_err-source
returns-in_err-source c =
    let a = c.args in
    let e : c.from_residual.result ≡ Err c.in_err-source.field-0.0 = search rules in
    let met = told a.shelf a.place _ (ap written_report e ∙ length-turned a.shelf a.place _ (sym c.source.ensures ∙ c.in_err-source.was)) in
    record { result_value = met.0; measuring = met.1 }

pub table_at-requires : goal.table_at-requires
table_at-requires c = (source-accepted _ _ (accepted (goal.at.table_at-requires c).In_ok-source)).small

pub packed-factors-requires : goal.packed-factors-requires
packed-factors-requires c = few (goal.at.packed-factors-requires c).After-rows_at-n

pub returns : goal.returns
returns c =
    let a = c.args in
    let met =
    told a.shelf a.place _ (length-done a.shelf a.place (accepted (goal.at.returns c).In_ok-source) _
    (bytes_packed _ _ _ _ _ (few (goal.at.returns c).After-rows_at-n) c.rows_at-n.ensures c.table_at.ensures c.packed-factors.ensures) _
    c.matrix_length.ensures) in
    record { result_value = met.0; measuring = met.1 }
