-- `Signed::times` meets its contract: a zero product is not negative.
use mathlib.Core.Bool.{Bool, ◌&&◌, not}
use mathlib.Core.Path.{sym, ap₂, ◌∙◌}
use lib.Dec.{eqb}
use Rattle.number.proofs.Signs.{signed-product-plain}
use Rattle.number.specs.declared.Number.{Number}
use Rattle.number.proofs.signed.Signed.times.Goals as goal

pub returns-then-self : goal.returns-then-self
returns-then-self c = ap₂ (λ (s : Bool) (n : Number). record { negative = s && not (eqb n.m 0); size = n }) (sym c.if-self.true) c.mul-size.ensures.value
    ∙ sym (signed-product-plain c.args.self c.args.w)

pub returns-else-self : goal.returns-else-self
returns-else-self c = rw (c.mul-size.ensures.value, signed-product-plain c.args.self c.args.w, c.if-self.false)
