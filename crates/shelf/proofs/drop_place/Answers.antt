-- A drop: its place judged, and the empty table put there (laws in Dropping); its result by the shelf that it makes (`drop-answered`).
use mathlib.Core.Path.{◌≡◌, sym, ap, ◌∙◌}
use Rattle.number.specs.Number.{zero_number}
use Rattle.std.specs.Prelude.{Ok}
use Rattle.verdict.specs.Verdict.{first_of}
use Rattle.places.specs.declared.Shelf.{Shelf}
use Rattle.places.specs.Shelf.{with_table}
use Rattle.places.specs.Tests.{source_tests}
use Rattle.places.proofs.Holding.{fits-none}
use Rattle.places.proofs.Verdicts.{source-accepted}
use Rattle.table.proofs.Table.{table_none}
use Rattle.shelf.specs.Changed.{changed_by}
use Rattle.shelf.proofs.Dropping.{dropped-turned, dropped-done, drop-answered}
use Rattle.shelf.proofs.drop_place.Goals as goal
use Rattle.shelf.proofs.drop_place.Goals.{In-Ok}

accepted : (c : In-Ok) → first_of (source_tests c.args.shelf c.args.place) ≡ Ok tt
accepted c = sym c.source.ensures ∙ c.in-Ok.is

pub with_table-requires : goal.with_table-requires
with_table-requires c = (
  c.requires,
  (source-accepted _ _ (accepted (goal.at.with_table-requires c).In-Ok)).small,
  rw (c.blank.ensures ∙ sym (table_none (λ i j. zero_number))) (fits-none (λ i j. zero_number)),
)

pub returns-in-Ok-clause-result_value : goal.returns-in-Ok-clause-result_value
returns-in-Ok-clause-result_value c =
    let a = c.args in
    (drop-answered a.shelf a.place c.requires _
    (ap (λ (s : Shelf). changed_by a.shelf (Ok s))
    (c.with_table.ensures.value ∙ ap (with_table a.shelf a.place 0) (c.blank.ensures ∙ sym (table_none _)))
    ∙ ap (changed_by a.shelf) (dropped-done a.shelf a.place (accepted (goal.at.returns-in-Ok-clause-result_value c).In-Ok)))).0

pub returns-in-Err-clause-result_value : goal.returns-in-Err-clause-result_value
returns-in-Err-clause-result_value c =
    let a = c.args in
    (drop-answered a.shelf a.place c.requires _
    (c.unchanged.ensures ∙ ap (changed_by a.shelf) (dropped-turned a.shelf a.place _ (sym c.source.ensures ∙ c.in-Err.is)))).0
