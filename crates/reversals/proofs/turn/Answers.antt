-- `turn` meets its contract: by its tests.
use native.Mathlib.Omega.{arith}
use mathlib.Core.Bool.{xor}
use Rattle.std.proofs.lemmas.Grind.{common_steps}
use Rattle.reversals.specs.Reversals.{opposite}
use Rattle.reversals.proofs.turn.Goals as goal

pub returns : goal.returns
unfolding opposite xor
returns c = grind (arith, common_steps)
