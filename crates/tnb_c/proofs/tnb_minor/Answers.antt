-- `tnb_minor` meets its contract.
use mathlib.Core.Path.{ap, ◌∙◌}
use Rattle.places.specs.Outcome.{Outcome}
use Rattle.shelf.specs.Run.{minor, run}
use Rattle.tnb_c.specs.declared.Value.{Value}
use Rattle.tnb_c.specs.Answers.{value_of}
use Rattle.tnb_c.proofs.Checked.{answered, turned-away}
use Rattle.tnb_c.proofs.tnb_minor.Goals as goal

abbrev answer : Outcome → Value
answer x = value_of x.report

pub minor-requires : goal.minor-requires
minor-requires c = c.is_good.ensures.good c.if-is_good.true

pub returns-then-is_good : goal.returns-then-is_good
unfolding run
returns-then-is_good c = answered _ (minor _ _ _) answer c.is_good.ensures.value c.if-is_good.true (c.into.ensures ∙ ap value_of c.minor.ensures)

pub returns : goal.returns
returns c = turned-away _ (minor _ _ _) answer c.is_good.ensures.value c.if-is_good.false c.foreign.ensures
