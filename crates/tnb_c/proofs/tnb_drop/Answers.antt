-- `tnb_drop` meets its contract.
use mathlib.Core.Path.{ap, ◌∙◌}
use Rattle.shelf.specs.Run.{drop, run}
use Rattle.tnb_c.specs.Answers.{answer_of}
use Rattle.tnb_c.proofs.Checked.{answered, turned-away}
use Rattle.tnb_c.proofs.tnb_drop.Goals as goal

pub drop_place-requires : goal.drop_place-requires
drop_place-requires c = c.is_good.ensures.good c.if-is_good.true

pub returns-then-is_good : goal.returns-then-is_good
unfolding run
returns-then-is_good c =
    answered _ (drop _) answer_of c.is_good.ensures.value c.if-is_good.true (c.into.ensures ∙ ap answer_of c.drop_place.ensures.result_value)

pub returns : goal.returns
returns c = turned-away _ (drop _) answer_of c.is_good.ensures.value c.if-is_good.false c.foreign.ensures
