-- `tnb_carry` meets its contract: on a good shelf it answers as the shelf's own carry does, else 255; the promise holds of both (laws in Carried).
use mathlib.Core.Path.{refl, sym, ap, ◌∙◌}
use Rattle.places.specs.Outcome.{Outcome}
use Rattle.shelf.specs.Run.{carry, run}
use Rattle.tnb_c.specs.declared.Status.{Status}
use Rattle.tnb_c.specs.Answers.{status_of}
use Rattle.tnb_c.proofs.Checked.{answered, turned-away}
use Rattle.tnb_c.proofs.Carried.{carry-answered, carry-away, with-steady}
use Rattle.tnb_c.proofs.tnb_carry.Goals as goal

abbrev answer : Outcome → Status
answer x = status_of x.report

pub carry-requires : goal.carry-requires
carry-requires c = c.is_good.ensures.good c.if-is_good.true

pub returns-then-is_good : goal.returns-then-is_good
unfolding run
returns-then-is_good c =
    let a = c.args in
    let tested = c.is_good.ensures.value in
    let good = c.if-is_good.true in
    let e =
    with-steady a.shelf a.place a.items.now a.out.now _ _ (carry-answered a.shelf a.place a.items.now a.out.now (c.is_good.ensures.good good))
    (answered _ (carry a.place a.items.now a.out.now) answer tested good (c.into.ensures ∙ ap status_of c.carry.ensures.result_value))
    (answered _ (carry a.place a.items.now a.out.now) (λ (x : Outcome). x.items) tested good c.carry.ensures.out_after)
    in
    record { value = e.0; out_after = e.1.0; steady_status = e.1.1 }

pub returns : goal.returns
returns c =
    let a = c.args in
    let tested = c.is_good.ensures.value in
    let away = c.if-is_good.false in
    let e =
    with-steady a.shelf a.place a.items.now a.out.now _ _ (carry-away a.shelf a.place a.items.now a.out.now (sym tested ∙ away))
    (turned-away _ (carry a.place a.items.now a.out.now) answer tested away c.foreign.ensures)
    (turned-away _ (carry a.place a.items.now a.out.now) (λ (x : Outcome). x.items) tested away refl)
    in
    record { value = e.0; out_after = e.1.0; steady_status = e.1.1 }
