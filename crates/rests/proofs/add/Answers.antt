-- `add` meets its contract: the operands are exchanged where the first exponent is the lower.
use mathlib.Core.Path.{ap₂, ◌∙◌}
use Rattle.number.proofs.Zero.{sum_comm}
use Rattle.number.specs.declared.Direction.TheVariants.{Nearest}
use Rattle.number.specs.declared.Number.{Number}
use Rattle.rests.specs.declared.Rest.{Rest}
use Rattle.rests.proofs.Sums.{rest-comm}
use Rattle.rests.proofs.add.Goals as goal

pub returns-then-a-b : goal.returns-then-a-b
returns-then-a-b c = c.sum.ensures ∙ ap₂ (λ (n : Number) (t : Rest). record { number = n; rest = t }) (sum_comm Nearest _ _) (rest-comm _ _)
