-- `tnb_inverted` meets its contract (`step-answered`).
use Rattle.walk.specs.declared.Way.TheVariants.{Inverted}
use Rattle.tnb_c.proofs.Stepped.{step-answered}
use Rattle.tnb_c.proofs.recipe.tnb_inverted.Goals as goal

pub returns : goal.returns
returns c = record { value = (step-answered Inverted c.args.place c.code.ensures).0; step_answer = (step-answered Inverted c.args.place c.code.ensures).1 }
