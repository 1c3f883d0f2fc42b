-- `Signed::add` meets its contract, by the signs: equal, the first alone, or the second alone.
use mathlib.Core.Bool.{not}
use mathlib.Core.Path.{sym, ap, ◌∙◌}
use Rattle.number.proofs.Signs.{other-sign, signed-sum-alike, signed-sum-left, signed-sum-right}
use Rattle.number.specs.declared.Number.{Number}
use Rattle.number.proofs.signed.Signed.add.Goals as goal

pub returns-then-self-other : goal.returns-then-self-other
returns-then-self-other c = ap (λ (n : Number). record { negative = c.args.self.negative; size = n }) c.add.ensures.value
    ∙ sym (signed-sum-alike c.args.self c.args.other c.requires.0 c.if-self-other.true)

pub returns-then-self : goal.returns-then-self
returns-then-self c = c.difference.ensures ∙ sym (signed-sum-left c.args.self c.args.other c.if-self.true
    (other-sign _ _ c.if-self-other.false ∙ ap not c.if-self.true))

pub returns-else-self : goal.returns-else-self
returns-else-self c = c.difference-else-self.ensures ∙ sym (signed-sum-right c.args.self c.args.other c.if-self.false
    (other-sign _ _ c.if-self-other.false ∙ ap not c.if-self.false))
