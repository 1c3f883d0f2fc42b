-- `tnb_load` meets its contract.
use mathlib.Core.Path.{ap, ◌∙◌}
use Rattle.shelf.specs.Run.{load, run}
use Rattle.tnb_c.specs.Answers.{answer_of}
use Rattle.tnb_c.proofs.Checked.{answered, turned-away}
use Rattle.tnb_c.proofs.tnb_load.Goals as goal

pub load-requires : goal.load-requires
load-requires c = c.is_good.ensures.good c.if-is_good.true

pub returns-then-is_good : goal.returns-then-is_good
unfolding run
returns-then-is_good c =
    answered _ (load _ _) answer_of c.is_good.ensures.value c.if-is_good.true (c.into.ensures ∙ ap answer_of c.load.ensures.result_value)

pub returns : goal.returns
returns c = turned-away _ (load _ _) answer_of c.is_good.ensures.value c.if-is_good.false c.foreign.ensures
