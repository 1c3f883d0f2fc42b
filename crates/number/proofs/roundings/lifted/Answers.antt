-- `lifted` meets its contract: what is added, by the direction, and it fits.
use mathlib.Core.Path.{sym, ap, ◌∙◌}
use native.Mathlib.Omega.{arith}
use Rattle.number.specs.Digits.{lifted_of}
use Rattle.number.specs.declared.Direction.{Direction}
use Rattle.number.proofs.roundings.lifted.Goals as goal

pub returns-in-Nearest : goal.returns-in-Nearest
returns-in-Nearest c = let a = c.args in omega arith ∙ ap (λ (w : Direction). lifted_of w a.p a.t) (sym c.in-Nearest.is)

pub returns-in-Down : goal.returns-in-Down
returns-in-Down c = let a = c.args in omega arith ∙ ap (λ (w : Direction). lifted_of w a.p a.t) (sym c.in-Down.is)

pub returns-in-Up : goal.returns-in-Up
returns-in-Up c = let a = c.args in omega arith ∙ ap (λ (w : Direction). lifted_of w a.p a.t) (sym c.in-Up.is)
