-- `tnb_conversed` meets its contract (`step-answered`).
use Rattle.walk.specs.declared.Way.TheVariants.{Conversed}
use Rattle.tnb_c.proofs.Stepped.{step-answered}
use Rattle.tnb_c.proofs.recipe.tnb_conversed.Goals as goal

pub returns : goal.returns
returns c = record { value = (step-answered Conversed c.args.place c.code.ensures).0; step_answer = (step-answered Conversed c.args.place c.code.ensures).1 }
