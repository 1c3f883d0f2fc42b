-- `moved` meets its contract. The invariant: what the words stand for is swept, up to the set at p.
-- The points on the way have names: `begin` is the function's entry, `head` the loop's; what is known where a number was read is one record (`at`).
use mathlib.Core.Path.{◌≡◌, sym, ap, ap₂, ◌∙◌}
use Prim.Native.Nat.{◌+◌, ◌-◌, ◌^◌, ◌≤◌, ◌<◌}
use native.Mathlib.Omega.{arith}
use lib.ListN.{get_or}
use lib.Pow.{pow_mono}
use Rattle.number.specs.Number.{sum_of, product_of}
use Rattle.number.specs.Packed.{pack_of, unpack_of}
use Rattle.number.specs.declared.Number.{Number}
use Rattle.rowset.specs.Mask.{count_below}
use Rattle.rowset.proofs.Changed.{neighbours-turned}
use Rattle.rowset.proofs.Positions.{below-mono}
use Rattle.walk.specs.Packed.{numbers_of}
use Rattle.walk.proofs.Moves.{move_all}
use Rattle.walk.proofs.InPlace.{others-lt, AtSet, step-ready, step_fits, step-next, step-passed}
use Rattle.walk.proofs.Walk.moved.Goals as goal
use Rattle.walk.proofs.Walk.moved.Goals.{After-add_product, After-set_in-m, After-unpack-b, In-loop-p}

-- p is below the number of the sets that the letter changes
counted : (c : In-loop-p) → let a = c.args in let s = a.self.now in c.loop-p.p < count_below (s.k - 1) (2 ^ (s.n - 2))
counted c = omega (arith, c.args.self.now.counted.0)

counted_at_After_unpack_b : (c : After-unpack-b) → let a = c.args in let s = a.self.now in c.loop-p.p < count_below (s.k - 1) (2 ^ (s.n - 2))
counted_at_After_unpack_b c = omega (arith, c.args.self.now.counted.0)

counted_at_After_set_in_m : (c : After-set_in-m) → let a = c.args in let s = a.self.now in c.loop-p.p < count_below (s.k - 1) (2 ^ (s.n - 2))
counted_at_After_set_in_m c = omega (arith, c.args.self.now.counted.0)

next : (c : In-loop-p) → c.loop-p.p + 1 ≤ c.args.self.now.many
next c = omega (arith, counted c, c.args.self.now.counted.0)

others-low : (c : After-set_in-m) → c.set_in-m.result < 2 ^ (c.args.self.now.n - 2)
others-low c = others-lt c.args.self.now.n c.args.self.now.k c.set_in-m.ensures (counted_at_After_set_in_m c)

-- what is known where a number was read
at : (c : After-unpack-b) → let a = c.args in let s = a.self.now in
    AtSet s.n s.k a.a a.o a.w a.u.now c.loop-p.u c.loop-p.p c.set_in-m.result c.changed_in-from.result
at c = record {
  rows = c.requires.rows;
  few = c.args.self.now.rows.2;
  some = c.args.self.now.rows.0;
  others = c.set_in-m.ensures;
  count = counted_at_After_unpack_b c;
  swept = c.loop-p.invariant.1;
  read = c.changed_in-from.ensures.value;
  low = c.changed_in-from.ensures.upper_bound;
  working = c.requires.working.0;
  weight = c.requires.working.1;
}

pub set_in-m-requires : goal.set_in-m-requires
set_in-m-requires c =
    let a = c.args in
    let s = a.self.now in
    let l : s.n - 2 ≤ 8 = omega arith in
    let h : 2 ^ (s.n - 2) ≤ 2 ^ 8 = pow_mono l in
    (omega arith, omega (arith, counted c, below-mono (s.k - 1) (2 ^ (s.n - 2)) 256 h), s.begins, s.listed.listed)

pub changed_in-from-requires : goal.changed_in-from-requires
changed_in-from-requires c = (omega arith, neighbours-turned c.requires.rows, others-low c, c.args.self.now.listed.paired)

-- zero was read
pub loop-p-preserved-then-vanishes : goal.loop-p-preserved-then-vanishes
loop-p-preserved-then-vanishes c = let z : (unpack_of (get_or c.loop-p.u c.changed_in-from.result 0)).m ≡ 0 =
    ap (λ (q : Number). q.m) (sym c.unpack-b.ensures) ∙ c.if-vanishes.true in
    (next (goal.at.loop-p-preserved-then-vanishes c).In-loop-p, step-passed (at (goal.at.loop-p-preserved-then-vanishes c).After-unpack-b) z)

pub changed_in-to-requires : goal.changed_in-to-requires
changed_in-to-requires c = (omega arith, c.requires.rows, others-low (goal.at.changed_in-to-requires c).After-set_in-m, c.args.self.now.listed.paired)

pub add_product-requires : goal.add_product-requires
add_product-requires c = rw (c.unpack.ensures, c.unpack-b.ensures)
    (step-ready (at (goal.at.add_product-requires c).After-unpack-b) c.changed_in-to.result c.changed_in-to.ensures.value c.changed_in-to.ensures.upper_bound)

-- what was summed
summed : (c : After-add_product) → c.add_product.result
    ≡ sum_of (unpack_of (get_or c.loop-p.u c.changed_in-to.result 0))
    (product_of c.args.w (unpack_of (get_or c.loop-p.u c.changed_in-from.result 0)))
summed c = c.add_product.ensures ∙ ap₂ (λ (p q : Number). sum_of p (product_of c.args.w q)) c.unpack.ensures c.unpack-b.ensures

pub pack-requires : goal.pack-requires
pack-requires c = rw (summed c) (step_fits (at (goal.at.pack-requires c).After-unpack-b) c.changed_in-to.result c.changed_in-to.ensures.value
    c.changed_in-to.ensures.upper_bound)

pub loop-p-preserved : goal.loop-p-preserved
loop-p-preserved c = (
  next (goal.at.loop-p-preserved c).In-loop-p,
  step-next (at (goal.at.loop-p-preserved c).After-unpack-b) c.changed_in-to.result c.changed_in-to.ensures.value c.changed_in-to.ensures.upper_bound
      c.pack.result (c.pack.ensures ∙ ap pack_of (summed (goal.at.loop-p-preserved c).After-add_product)),
)

pub returns : goal.returns
returns c =
    let a = c.args in
    let s = a.self.now in
    move_all s.n s.k a.a a.o a.w (numbers_of a.u.now) c.requires.rows s.rows.2 s.rows.0 c.loop-p.invariant.1
    (omega (arith, s.counted.0))
