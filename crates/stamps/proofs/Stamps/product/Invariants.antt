-- The invariant of the loop of `Stamps::product`: p is the product of the first k differences.
use mathlib.Core.Path.{◌≡◌}
use Prim.Native.Nat.{◌≤◌}
use Rattle.number.specs.Number.{rounded}
use Rattle.powers.specs.Stamps.{product_from}
use Rattle.stamps.specs.Stamps.{less_number}
use Rattle.stamps.proofs.Stamps.product.Given as goal

abbrev pub invariant-loop-k : goal.invariant-loop-k
invariant-loop-k l = (l.k ≤ l.count) × (l.p ≡ product_from rounded l.from l.k (less_number l.self.stamps.now l.i))
