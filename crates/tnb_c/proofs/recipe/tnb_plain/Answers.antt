-- `tnb_plain` meets its contract (`step-answered`).
use Rattle.walk.specs.declared.Way.TheVariants.{Plain}
use Rattle.tnb_c.proofs.Stepped.{step-answered}
use Rattle.tnb_c.proofs.recipe.tnb_plain.Goals as goal

pub returns : goal.returns
returns c = record { value = (step-answered Plain c.args.place c.code.ensures).0; step_answer = (step-answered Plain c.args.place c.code.ensures).1 }
