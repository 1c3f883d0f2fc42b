-- `multiply` meets its contract: the exact product and the result, both whole numbers at the product's exponent, are words.
use mathlib.Core.Path.{ap, ap₂, ◌∙◌}
use Prim.Native.Nat.{ℕ, ◌+◌, ◌-◌, ◌*◌, ◌^◌}
use native.Mathlib.Omega.{arith}
use Rattle.number.specs.Number.{bias}
use Rattle.number.specs.declared.Number.{Number}
use Rattle.rests.specs.Rest.{rest_of, product_rest}
use Rattle.rests.specs.declared.Rest.{Rest}
use Rattle.rests.proofs.Products.{product-start, product-stop, result_fits}
use Rattle.rests.proofs.multiply.Goals as goal

pub overflow_sub-number : goal.overflow_sub-number
overflow_sub-number c = rw c.mul-number.ensures.value (omega (arith, product-start _ _ c.requires))

pub power-requires : goal.power-requires
power-requires c = rw c.mul-number.ensures.value (omega (arith, product-stop _ _ c.requires))

pub overflow_mul-number : goal.overflow_mul-number
overflow_mul-number c = rw (c.power.ensures, c.mul-number.ensures.value) (omega (arith, result_fits _ _ c.requires))

pub returns : goal.returns
unfolding product_rest
returns c = let x = c.args.a.x + c.args.b.x - bias in
    ap₂ (λ (n : Number) (t' : Rest). record { number = n; rest = t' }) c.mul-number.ensures.value
    (c.difference-rest.ensures
    ∙ ap (λ (u : ℕ). rest_of (c.args.a.m * c.args.b.m) (c.mul-number.result.m * u) x) c.power.ensures
    ∙ ap (λ (n : Number). rest_of (c.args.a.m * c.args.b.m) (n.m * 2 ^ (n.x - x)) x) c.mul-number.ensures.value)
