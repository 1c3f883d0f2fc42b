-- A place written to bytes: judged, its factors one behind the other, and the bytes of these (laws in Writing).
use Prim.Native.Nat.{◌≤◌}
use mathlib.Core.Path.{◌≡◌, sym, ap, ◌∙◌}
use borrow.Author.Rules.{rules}
use Rattle.std.specs.Prelude.{Ok, Err}
use Rattle.verdict.specs.Verdict.{first_of}
use Rattle.writer.specs.Encoding.{written_report}
use Rattle.places.specs.Tests.{source_tests}
use Rattle.places.proofs.Verdicts.{source-accepted}
use Rattle.shelf.proofs.Writing.{bytes_packed, write-turned, write_done}
use Rattle.shelf.proofs.write.Goals as goal
use Rattle.shelf.proofs.write.Goals.{After-rows_at-n, In_ok-source}

accepted : (c : In_ok-source) → first_of (source_tests c.args.shelf c.args.place) ≡ Ok tt
accepted c = sym c.source.ensures ∙ c.in_ok-source.was

few : (c : After-rows_at-n) → c.rows_at-n.result ≤ 8
few c = rw c.rows_at-n.ensures (c.requires.held _ (source-accepted _ _ (accepted (goal.at.After-rows_at-n c).In_ok-source)).small).few

pub returns-in_err-source : goal.returns-in_err-source
returns-in_err-source c =
    let a = c.args in
    let e : c.from_residual.result ≡ Err c.in_err-source.field-0.0 = search rules in
    let met = write-turned a.shelf a.place a.out.now _ (sym c.source.ensures ∙ c.in_err-source.was) in
    record { result_value = ap written_report e ∙ met.0; out_after = met.1 }

pub table_at-requires : goal.table_at-requires
table_at-requires c = (source-accepted _ _ (accepted (goal.at.table_at-requires c).In_ok-source)).small

pub packed-factors-requires : goal.packed-factors-requires
packed-factors-requires c = few (goal.at.packed-factors-requires c).After-rows_at-n

pub returns : goal.returns
returns c =
    let a = c.args in
    let same = bytes_packed _ _ _ _ _ (few (goal.at.returns c).After-rows_at-n) c.rows_at-n.ensures c.table_at.ensures c.packed-factors.ensures in
    let met =
    write_done a.shelf a.place a.out.now (accepted (goal.at.returns c).In_ok-source) _ _ same c.write_matrix.result c.write_matrix.ensures.result_value
    c.write_matrix.ensures.out_after in
    record { result_value = met.0; out_after = met.1 }
