-- `tnb_factor` meets its contract.
use mathlib.Core.Path.{ap, ◌∙◌}
use Rattle.places.specs.Outcome.{Outcome}
use Rattle.shelf.specs.Run.{factor, run}
use Rattle.tnb_c.specs.declared.Value.{Value}
use Rattle.tnb_c.specs.Answers.{value_of}
use Rattle.tnb_c.proofs.Checked.{answered, turned-away}
use Rattle.tnb_c.proofs.tnb_factor.Goals as goal

abbrev answer : Outcome → Value
answer x = value_of x.report

pub factor_at-requires : goal.factor_at-requires
factor_at-requires c = c.is_good.ensures.good c.if-is_good.true

pub returns-then-is_good : goal.returns-then-is_good
unfolding run
returns-then-is_good c = answered _ (factor _ _ _) answer c.is_good.ensures.value c.if-is_good.true (c.into.ensures ∙ ap value_of c.factor_at.ensures)

pub returns : goal.returns
returns c = turned-away _ (factor _ _ _) answer c.is_good.ensures.value c.if-is_good.false c.foreign.ensures
