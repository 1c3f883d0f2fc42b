-- `tnb_transposed` meets its contract (`step-answered`).
use Rattle.walk.specs.declared.Way.TheVariants.{Transposed}
use Rattle.tnb_c.proofs.Stepped.{step-answered}
use Rattle.tnb_c.proofs.recipe.tnb_transposed.Goals as goal

pub returns : goal.returns
returns c = record { value = (step-answered Transposed c.args.place c.code.ensures).0; step_answer = (step-answered Transposed c.args.place c.code.ensures).1 }
