-- `tnb_byte_length` meets its contract.
use mathlib.Core.Path.{sym, ap, ◌∙◌}
use Rattle.places.specs.Outcome.{Outcome}
use Rattle.shelf.specs.Run.{byte_length, run}
use Rattle.tnb_c.specs.declared.Length.{Length}
use Rattle.tnb_c.specs.Answers.{length_of}
use Rattle.tnb_c.proofs.Checked.{answered, turned-away}
use Rattle.tnb_c.proofs.Ahead.{measured-answered, away-measured}
use Rattle.tnb_c.proofs.tnb_byte_length.Goals as goal

abbrev answer : Outcome → Length
answer x = length_of x.report

pub length-requires : goal.length-requires
length-requires c = c.is_good.ensures.good c.if-is_good.true

pub returns-then-is_good : goal.returns-then-is_good
unfolding run
returns-then-is_good c =
    let is = answered _ (byte_length _) answer c.is_good.ensures.value c.if-is_good.true (c.into.ensures ∙ ap length_of c.length.ensures.result_value) in
    record { value = is; measured_answer = measured-answered _ (c.is_good.ensures.good c.if-is_good.true) _ _ is }

pub returns : goal.returns
returns c =
    let is = turned-away _ (byte_length _) answer c.is_good.ensures.value c.if-is_good.false c.foreign.ensures in
    record { value = is; measured_answer = away-measured _ (sym c.is_good.ensures.value ∙ c.if-is_good.false) _ _ is }
