-- `round` meets its contract: the nearest whole number, with its carry.
use mathlib.Core.Path.{sym, ap, ◌∙◌}
use Prim.Native.Nat.{ℕ}
use Rattle.number.proofs.Digits.{compared}
use Rattle.number.proofs.Rounding.{round-parts}
use Rattle.number.specs.Number.{renormalised}
use Rattle.number.specs.declared.Direction.TheVariants.{Nearest}
use Rattle.number.proofs.roundings.round.Goals as goal

pub returns : goal.returns
returns c = let a = c.args in
    c.renormalised.ensures
    ∙ ap (λ (m : ℕ). renormalised m a.x) (c.whole.ensures ∙ compared Nearest a.q a.remainder a.d c.requires.2)
    ∙ sym (round-parts Nearest a.q a.remainder a.d a.x c.requires.2 c.requires.0 c.requires.1)
