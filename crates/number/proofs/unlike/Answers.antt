-- `unlike` meets its contract: by its one test.
use mathlib.Core.Path.{◌≡◌, refl, ◌∙◌}
use mathlib.Core.Bool.{Bool, true, false, not, cond}
use lib.Dec.{eqb}
use mir.Val.{bool_byte}
use Rattle.number.specs.Digits.{unlike_of}
use Rattle.number.proofs.unlike.Goals as goal

counted : (t : Bool) → bool_byte (not t) ≡ cond t 0 1
counted true = refl
counted false = refl

pub returns : goal.returns
unfolding unlike_of
returns c = c.from.ensures ∙ counted (eqb c.args.a c.args.b)
