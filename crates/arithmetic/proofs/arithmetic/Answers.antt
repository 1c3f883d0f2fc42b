-- `arithmetic` meets its contract. Its tests are the definition's, on the items as they were read; an accepted call has two positive numbers, whose log
-- balances (`accepted-two`, `logged`).
use borrow.Author.Rules.{rules}
use mathlib.Core.Path.{refl, ◌≡◌, sym, ap, ap₂, ◌∙◌, subst}
use mathlib.Core.Bool.{Bool, not}
use native.Mathlib.Omega.{arith}
use lib.ListN.{get_or}
use Rattle.std.specs.Prelude.{Ok, Err}
use Rattle.verdict.specs.declared.Reason.TheVariants.{WrongList}
use Rattle.verdict.specs.declared.Refusal.{Refusal}
use Rattle.verdict.specs.Verdict.{Verdict, when, or_else, first_of}
use Rattle.number.specs.declared.signed.Signed.{Signed}
use Rattle.rests.specs.Rest.{worked_by}
use Rattle.items.proofs.Fronts.{unset}
use Rattle.items.proofs.ListRead.{Read, read_is, not-read}
use Rattle.items.specs.Items.{list_of}
use Rattle.arithmetic.specs.declared.Worked.{Worked}
use Rattle.arithmetic.specs.Arithmetic.{is_positive, first_item, second_item, arithmetic_tests, result_of, worked_report}
use Rattle.arithmetic.specs.Promise.{Logged}
use Rattle.arithmetic.proofs.Accepted.{accepted-two, logged}
use Rattle.arithmetic.proofs.Outcomes.{item-read, improper, judged, answered, turned_down}
use Rattle.arithmetic.proofs.arithmetic.Goals as goal
use Rattle.arithmetic.proofs.arithmetic.Goals.{In-Some, After-refuse_if, In_ok-refuse_if-2}

pub returns-in_default-clause-result_value : goal.returns-in_default-clause-result_value
returns-in_default-clause-result_value c =
    ap (λ (w : Refusal). worked_report (Err w)) c.into.ensures
    ∙ turned_down _ _ _ (improper _ (not-read 2 2 _ (sym c.in_default.is ∙ c.read.ensures)))

-- the list as it was read
list : (c : In-Some) → Read 2 2 (list_of c.args.items.now) c.in-Some.list
list c = read_is 2 2 _ _ (omega arith) (sym c.in-Some.is ∙ c.read.ensures)

-- the tests, as the code makes them
tested : (c : After-refuse_if) → (v : Verdict) → v ≡ when (not (is_positive (get_or c.in-Some.list.items 1 unset))) WrongList
    → first_of (arithmetic_tests c.args.items.now) ≡ or_else c.refuse_if.result v
tested c v e =
    judged _ c.in-Some.list (read_is 2 2 _ _ (omega arith) (sym c.in-Some.is ∙ c.read.ensures)) _ _
    (c.refuse_if.ensures ∙ ap (λ (t : Bool). when (not t) WrongList) c.positive.ensures) e

pub returns-in_err-refuse_if-clause-result_value : goal.returns-in_err-refuse_if-clause-result_value
returns-in_err-refuse_if-clause-result_value c =
    let h : c.from_residual.result ≡ Err c.in_err-refuse_if.field-0.0 = search rules in
    let v = when (not (is_positive (get_or c.in-Some.list.items 1 unset))) WrongList in
    ap worked_report h
    ∙ turned_down _ _ _ (tested (goal.at.returns-in_err-refuse_if-clause-result_value c).After-refuse_if v refl
    ∙ ap (λ (u : Verdict). or_else u v) c.in_err-refuse_if.was)

pub returns-in_err-refuse_if-2-clause-result_value : goal.returns-in_err-refuse_if-2-clause-result_value
returns-in_err-refuse_if-2-clause-result_value c =
    let h : c.from_residual-in_err-refuse_if-2.result ≡ Err c.in_err-refuse_if-2.field-0.0 = search rules in
    ap worked_report h
    ∙ turned_down _ _ _ (tested (goal.at.returns-in_err-refuse_if-2-clause-result_value c).After-refuse_if _
    (c.refuse_if-2.ensures ∙ ap (λ (t : Bool). when (not t) WrongList) c.positive-2.ensures)
    ∙ ap₂ or_else c.in_ok-refuse_if.was c.in_err-refuse_if-2.was)

-- where every test passed
passed : (c : In_ok-refuse_if-2) → first_of (arithmetic_tests c.args.items.now) ≡ Ok tt
passed c =
    judged _ c.in-Some.list (read_is 2 2 _ _ (omega arith) (sym c.in-Some.is ∙ c.read.ensures)) _ _
    (c.refuse_if.ensures ∙ ap (λ (t : Bool). when (not t) WrongList) c.positive.ensures)
    (c.refuse_if-2.ensures ∙ ap (λ (t : Bool). when (not t) WrongList) c.positive-2.ensures)
    ∙ ap₂ or_else c.in_ok-refuse_if.was c.in_ok-refuse_if-2.was

pub work-requires : goal.work-requires
work-requires c =
    let z = c.args.items.now in
    let w = list (goal.at.work-requires c).In-Some in
    let two = (accepted-two z (passed (goal.at.work-requires c).In_ok-refuse_if-2)).numbers in
    rw (item-read z _ w 0 (omega arith), item-read z _ w 1 (omega arith))
    (record { first = (search); second = (search); first-positive = omega (arith, two); second-positive = omega (arith, two) })

pub returns : goal.returns
returns c =
    let z = c.args.items.now in
    let o = c.args.operator in
    let w = list (goal.at.returns c).In-Some in
    let p = passed (goal.at.returns c).In_ok-refuse_if-2 in
    let e : c.told.result ≡ result_of (worked_by o (first_item z).size (second_item z).size) =
    c.told.ensures ∙ ap result_of c.work.ensures.value
    ∙ ap₂ (λ (a b : Signed). result_of (worked_by o a.size b.size)) (item-read z _ w 0 (omega arith)) (item-read z _ w 1 (omega arith)) in
    record {
      result_value = ap (λ (r : Worked). worked_report (Ok r)) e ∙ answered o z p;
      logged = subst (λ (r : Worked). Logged o z (Ok r)) (sym e) (logged z (accepted-two z p) o);
    }
