-- `Number::mul` meets its contract: zero operands, and a product that fits a word. The laws of the direction are `lawful`.
use mathlib.Core.Path.{◌≡◌, sym, ◌∙◌, subst}
use Prim.Native.Nat.{◌+◌}
use native.Mathlib.Omega.{arith}
use Rattle.fraction.specs.Fraction.{fraction_product}
use Rattle.number.proofs.Zero.{zero_is, product-zero-left, product-zero-right}
use Rattle.number.proofs.Toward.{lawful}
use Rattle.number.specs.Number.{value, reach, product_by}
use Rattle.number.specs.Toward.{Directed}
use Rattle.number.specs.declared.Number.{Number}
use Rattle.number.proofs.Number.mul.Goals as goal
use Rattle.number.proofs.Number.mul.Goals.{Start}

-- the product keeps the laws of its direction
promised : (s : Start) (r : Number) → let a = s.args in r ≡ product_by a.direction a.self a.other
    → (r ≡ product_by a.direction a.self a.other)
    × Directed a.direction (reach + reach + 33) (fraction_product (value a.self) (value a.other)) r
promised s r e = let a = s.args in (
  e,
  subst (Directed a.direction (reach + reach + 33) (fraction_product (value a.self) (value a.other))) (sym e)
      ((lawful a.direction).product s.requires.0 s.requires.1 (omega arith)),
)

pub returns-then-self-eq0 : goal.returns-then-self-eq0
returns-then-self-eq0 c =
    let met = promised (goal.at.returns-then-self-eq0 c).Start _
    (zero_is c.args.self c.requires.0 c.if-self-eq0.true ∙ sym (product-zero-left c.args.direction c.args.self c.args.other c.if-self-eq0.true)) in
    record { value = met.0; directed = met.1 }

pub returns-then-other-eq0 : goal.returns-then-other-eq0
returns-then-other-eq0 c =
    let met = promised (goal.at.returns-then-other-eq0 c).Start _
    (zero_is c.args.other c.requires.1 c.if-other-eq0.true ∙ sym (product-zero-right c.args.direction c.args.self c.args.other c.if-other-eq0.true)) in
    record { value = met.0; directed = met.1 }

pub returns : goal.returns
unfolding product_by
returns c = record { value = (promised (goal.at.returns c).Start _ c.kept.ensures).0; directed = (promised (goal.at.returns c).Start _ c.kept.ensures).1 }
