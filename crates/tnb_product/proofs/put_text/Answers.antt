-- `tnb_product::put_text` meets its contract: of three results joined by `and` the first refusal is left (`first-refusal`).
use mathlib.Core.Path.{◌≡◌, refl, sym, ap, ◌∙◌}
use Rattle.std.specs.Prelude.{Result, Ok, Err}
use Rattle.std.specs.Result.{result_and}
use Rattle.verdict.specs.declared.Refusal.{Refusal}
use Rattle.verdict.specs.Verdict.{Verdict}
use Rattle.verdict.specs.Report.{verdict_report}
use Rattle.places.specs.declared.Shelf.{Shelf}
use Rattle.places.specs.Outcome.{outcome}
use Rattle.operations.specs.declared.Performed.{Performed}
use Rattle.operations.specs.Reports.{performed_report}
use Rattle.tnb_product.specs.Printed.{printed, unless_refused, result_text}
use Rattle.tnb_product.proofs.put_text.Goals as goal

first-refusal : (left right : Verdict) (s : Shelf) (answer : Result Performed Refusal)
    → unless_refused (verdict_report left) (unless_refused (verdict_report right) (printed (outcome s (performed_report answer))))
    ≡ unless_refused (performed_report (result_and (result_and left right) answer)) (result_text s)
unfolding printed
first-refusal (Ok u) (Ok v) s answer = refl
first-refusal (Ok u) (Err w) s answer = refl
first-refusal (Err w) right s answer = refl

pub returns-in-Ok : goal.returns-in-Ok
returns-in-Ok c =
    let joined = ap (λ v. result_and v c.args.product.answer) (sym c.and.ensures) ∙ sym c.and-2.ensures ∙ c.in-Ok.is in
    rw (first-refusal c.args.left c.args.right c.args.product.shelf c.args.product.answer, joined) c.put_result.ensures

pub returns-in-Err : goal.returns-in-Err
returns-in-Err c =
    let joined = ap (λ v. result_and v c.args.product.answer) (sym c.and.ensures) ∙ sym c.and-2.ensures ∙ c.in-Err.is in
    rw (first-refusal c.args.left c.args.right c.args.product.shelf c.args.product.answer, joined) c.put_refused.ensures
