-- `divide` meets its contract: the dividend and result times divisor, both whole numbers at one exponent, are words.
use mathlib.Core.Path.{ap, ap₂, ◌∙◌}
use Prim.Native.Nat.{ℕ, ◌+◌, ◌-◌, ◌*◌, ◌^◌}
use Rattle.number.specs.Number.{bias}
use Rattle.number.specs.declared.Number.{Number}
use Rattle.rests.specs.Rest.{rest_of, quotient_rest}
use Rattle.rests.specs.declared.Rest.{Rest}
use Rattle.rests.proofs.divide.Goals as goal

pub returns : goal.returns
unfolding quotient_rest
returns c = ap₂ (λ (n : Number) (t' : Rest). record { number = n; rest = t' }) c.div-number.ensures.value
    (c.difference-rest.ensures
    ∙ ap (λ (u : ℕ). let x = c.div-number.result.x + c.args.b.x - bias in rest_of (c.args.a.m * u) (c.div-number.result.m * c.args.b.m) x) c.power.ensures
    ∙ ap (λ (n : Number). let x = n.x + c.args.b.x - bias in rest_of (c.args.a.m * 2 ^ (c.args.a.x - x)) (n.m * c.args.b.m) x) c.div-number.ensures.value)
