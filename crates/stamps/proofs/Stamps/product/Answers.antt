-- `Stamps::product` meets its contract. The invariant: p is the product of the first k differences. It and each difference are numbers that the arithmetic
-- takes.
use Prim.Native.Nat.{ℕ, ◌+◌}
use native.Mathlib.Nat.{le_antisymm}
use native.Mathlib.Numerals.{add-one}
use native.Mathlib.Omega.{arith}
use mathlib.Core.Path.{◌≡◌, ap, ap₂, ◌∙◌}
use Rattle.number.specs.Number.{product_of, rounded}
use Rattle.powers.specs.Stamps.{product_from}
use Rattle.stamps.specs.Stamps.{less_number}
use Rattle.stamps.proofs.Rounded.{product-ranged, difference-ranged}
use Rattle.stamps.proofs.Stamps.product.Goals as goal

pub loop-k-init : goal.loop-k-init
unfolding product_from
loop-k-init c = (omega arith, c.one-p.ensures)

pub mul-p-requires : goal.mul-p-requires
mul-p-requires c = let a = c.args in
    let h = c.requires in
    let t = a.self.now.timed in
    let k = c.loop-k.k in (
      rw c.loop-k.invariant.1 (product-ranged _ t a.i a.from k h.0 (omega (arith, c.loop-k-test.true)) h.2),
      rw c.less.ensures (difference-ranged _ t a.i (a.from + k) (omega arith) (omega (arith, c.loop-k-test.true)) h.2),
    )

pub loop-k-preserved : goal.loop-k-preserved
unfolding product_from
loop-k-preserved c = (omega (arith, c.loop-k-test.true), rw add-one (c.mul-p.ensures.value ∙ ap₂ product_of c.loop-k.invariant.1 c.less.ensures))

pub returns : goal.returns
returns c = let a = c.args in
    let end : c.loop-k.k ≡ a.count = le_antisymm c.loop-k.invariant.0 c.loop-k-test.false in
    c.loop-k.invariant.1 ∙ ap (λ (k : ℕ). product_from rounded a.from k (less_number a.self.now.stamps.now a.i)) end
