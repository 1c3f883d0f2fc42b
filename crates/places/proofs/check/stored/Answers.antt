-- `stored` meets its contract: the range of mantissas, by its two ends.
use Rattle.std.proofs.Common.{arith}
use Rattle.std.proofs.lemmas.Grind.{common_steps}
use Rattle.places.specs.Check.{is_stored}
use Rattle.places.proofs.check.stored.Goals as goal

pub returns-then-contains : goal.returns-then-contains
unfolding is_stored
returns-then-contains c = grind (arith, common_steps)

pub returns-else-contains : goal.returns-else-contains
unfolding is_stored
returns-else-contains c = grind (arith, common_steps)
