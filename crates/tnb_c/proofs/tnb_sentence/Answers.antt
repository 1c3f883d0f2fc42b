-- `tnb_sentence` meets its contract: the call's own answer as a struct, and its promise (laws in Sentences).
use mathlib.Core.Path.{ap, ◌∙◌}
use Rattle.notices.specs.Sentence.{notice}
use Rattle.notices.specs.Promise.{Bits64}
use Rattle.tnb_c.specs.Answers.{length_of}
use Rattle.tnb_c.proofs.Sentences.{sentence-answered}
use Rattle.tnb_c.proofs.tnb_sentence.Goals as goal

pub returns : goal.returns
returns c =
    let handed = notice c.args.number c.args.offset c.args.places.now in
    let bits : Bits64 handed = record { number = c.ranges.number.fits; offset = c.ranges.offset.fits; places = λ i. (c.type_inv.places i).fits } in
    let report = c.into.ensures ∙ ap length_of c.sentence.ensures.result_value in
    record {
      value = report;
      out_after = c.sentence.ensures.out_after;
      sentence_answer = sentence-answered handed c.args.out.now bits _ _ report c.sentence.ensures.out_after;
    }
