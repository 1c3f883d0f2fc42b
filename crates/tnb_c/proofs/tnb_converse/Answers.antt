-- `tnb_converse` meets its contract: the shelf's own answer with demand 3, or 255.
use mathlib.Core.Path.{ap, ◌∙◌}
use Rattle.shelf.specs.Run.{converse, run}
use Rattle.tnb_c.specs.Answers.{answer_of}
use Rattle.tnb_c.proofs.Checked.{answered, turned-away}
use Rattle.tnb_c.proofs.Answered.{with-demand, away-answered, converse-answered}
use Rattle.tnb_c.proofs.tnb_converse.Goals as goal

pub converse-requires : goal.converse-requires
converse-requires c = c.is_good.ensures.good c.if-is_good.true

pub returns-then-is_good : goal.returns-then-is_good
unfolding run
returns-then-is_good c =
    let a = c.args in
    let passed = c.if-is_good.true in
    let good = c.is_good.ensures.good passed in
    let own = c.into.ensures ∙ ap answer_of c.converse.ensures.result_value in
    let ran = answered a.shelf (converse a.source a.target) answer_of c.is_good.ensures.value passed own in
    let met = with-demand _ a.target _ _ _ ran (converse-answered a.shelf good a.source a.target) in
    record { value = met.0; answered = met.1 }

pub returns : goal.returns
returns c =
    record {
      value = turned-away _ (converse _ _) answer_of c.is_good.ensures.value c.if-is_good.false c.foreign.ensures;
      answered = away-answered _ _ _ _ _ c.foreign.ensures;
    }
