-- `Number::sub` meets its contract: nothing taken off, equals, and the difference of the rest.
use mathlib.Core.Path.{◌≡◌, sym, ap₂, ◌∙◌}
use mathlib.Core.Bool.{◌&&◌, true≢false}
use borrow.Author.Tests.{eq-eqb, eqb-true}
use lib.Dec.{eqb}
use Rattle.number.proofs.Tests.{both}
use Prim.Native.Nat.{◌<◌}
use native.Mathlib.Omega.{arith}
use Rattle.number.proofs.Order.{higher, NotBelow, not-below, difference-is, difference-equal, difference-zero-right}
use Rattle.number.proofs.Number.sub.Goals as goal
use Rattle.number.proofs.Number.sub.Goals.{Else-eq}

larger : (c : Else-eq) → NotBelow c.args.self c.args.other
larger c = not-below c.args.self c.args.other c.requires.0 c.requires.1 (omega arith) c.requires.2

pub returns-then-other-eq0 : goal.returns-then-other-eq0
returns-then-other-eq0 c = sym (difference-zero-right c.args.self c.args.other c.requires.0 c.if-other-eq0.true)

pub returns-then-eq : goal.returns-then-eq
returns-then-eq c = let a = c.args.self in let b = c.args.other in
    let e = both (eqb a.m b.m) (eqb a.x b.x) (sym c.eq.ensures ∙ c.if-eq.true) in
    c.zero.ensures ∙ sym (difference-equal a b (eqb-true a.x b.x e.1) (eqb-true a.m b.m e.0))

-- numbers that differ, at one exponent: the mantissas do
apart : (c : Else-eq) → c.args.other.x ≡ c.args.self.x → c.args.other.m < c.args.self.m
apart c e = let a = c.args.self in let b = c.args.other in
    let h = (larger c).mantissa e in
    let ne : a.m ≡ b.m → ⊥ = λ f. true≢false (sym (ap₂ ◌&&◌ (eq-eqb a.m b.m f) (eq-eqb a.x b.x (sym e))) ∙ sym c.eq.ensures ∙ c.if-eq.false) in
    omega arith

pub difference-requires : goal.difference-requires
difference-requires c = let n = larger c in let a = c.args.self in let b = c.args.other in (
  record { low = n.normal; high = c.requires.0.high },
  omega arith,
  c.requires.1.high,
  n.exponent,
  omega (arith, c.requires.1.start),
  omega (arith, c.requires.0.stop),
  higher a.m b.m a.x b.x n.normal c.requires.1.high n.exponent (apart c),
)

pub returns : goal.returns
returns c = c.difference.ensures ∙ sym (difference-is c.args.self c.args.other (larger (goal.at.returns c).Else-eq).exponent)
