-- `signed::difference` meets its contract: the smaller size is taken off the larger.
use mathlib.Core.Bool.{Bool}
use mathlib.Core.Path.{sym, ap₂, ◌∙◌}
use Rattle.number.proofs.Signs.{signed-difference-below, signed-difference-not-below, below-not-below}
use Rattle.number.specs.declared.Number.{Number}
use Rattle.number.proofs.signed.difference.Goals as goal

pub sub-size-requires : goal.sub-size-requires
sub-size-requires c = (c.requires.1, c.requires.0, below-not-below c.args.a c.args.b (sym c.below-negative.ensures ∙ c.if-negative.true))

pub returns-then-negative : goal.returns-then-negative
returns-then-negative c = ap₂ (λ (s : Bool) (n : Number). record { negative = s; size = n }) c.if-negative.true c.sub-size.ensures
    ∙ sym (signed-difference-below c.args.a c.args.b (sym c.below-negative.ensures ∙ c.if-negative.true))

pub returns-else-negative : goal.returns-else-negative
returns-else-negative c = ap₂ (λ (s : Bool) (n : Number). record { negative = s; size = n }) c.if-negative.false c.sub-size-else-negative.ensures
    ∙ sym (signed-difference-not-below c.args.a c.args.b (sym c.below-negative.ensures ∙ c.if-negative.false))
