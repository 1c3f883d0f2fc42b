-- `sentences::sentence` meets its contract: the first test decides whether there is anything to say (laws in Saying).
use mathlib.Core.Path.{◌≡◌, sym, ◌∙◌, ap}
use mathlib.Core.Bool.{false}
use Rattle.verdict.specs.declared.Reason.TheVariants.{WrongList}
use Rattle.verdict.specs.Verdict.{when}
use Rattle.verdict.proofs.Verdicts.{when-passed}
use Rattle.notices.specs.Sentence.{Notice, notice, is_unsayable}
use Rattle.notices.specs.Promise.{Bits64}
use Rattle.notices.proofs.Saying.{sayable, sayable-done, worded}
use Rattle.sentences.proofs.sentence.Goals as goal
use Rattle.sentences.proofs.sentence.Goals.{In_ok-refuse_if}

abbrev handed : (c : In_ok-refuse_if) → Notice
handed c = notice c.args.number c.args.offset c.args.places.now

bits : (c : In_ok-refuse_if) → Bits64 (handed c)
bits c = record { number = c.ranges.number.fits; offset = c.ranges.offset.fits; places = λ i. (c.type_inv.places i).fits }

passed : (c : In_ok-refuse_if) → is_unsayable (handed c) ≡ false
passed c = when-passed (is_unsayable (handed c)) WrongList (ap (λ b. when b WrongList) (sym c.unsayable.ensures) ∙ sym c.in_ok-refuse_if.ensures)

pub say-requires : goal.say-requires
say-requires c = sayable _ _ (passed (goal.at.say-requires c).In_ok-refuse_if)

pub returns : goal.returns
returns c =
    let refuse_if = (goal.at.returns c).In_ok-refuse_if in
    let d = sayable-done (handed refuse_if) c.args.out.now (passed refuse_if) in
    let report = c.say.ensures.result_value ∙ d.0 in
    let left = c.say.ensures.out_after ∙ d.1 in
    record {
      result_value = report;
      out_after = left;
      worded = worded (handed refuse_if) c.args.out.now (bits refuse_if) _ _ report left;
    }
