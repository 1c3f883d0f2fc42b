-- `lines::put_pairs` meets its contract. The loop's invariant: the bytes put so far, and those of the pairs that are left, make all.
use native.Mathlib.Omega.{arith}
use mathlib.Core.Path.{refl, ap, ◌∙◌}
use lib.ListN.{length, length-append}
use Rattle.std.specs.Slice.Iter.{chunks_exact_rest}
use Rattle.lines.proofs.Pairs.{filled-end, filled_more}
use Rattle.lines.proofs.reading.put_pairs.Goals as goal

pub loop-k-init : goal.loop-k-init
loop-k-init c =
    let items = c.enumerate-k-items.ensures in
    let pairs = c.chunks_exact.ensures in
    rw (c.into_iter-k-iterator.ensures.into_iter_gives, items.source, items.count, pairs.rest, pairs.size)
    (record { kept = refl; room = omega (arith, c.requires); same = refl }, refl)

pub bounds-out-k : goal.bounds-out-k
bounds-out-k c =
    let step = c.in-Some.ensures.steps.0.1 in
    let l = ap length step.0 ∙ length-append c.in-Some.pair.now (chunks_exact_rest c.next.new.self.iter) in
    omega (arith, c.loop-k.invariant.0.room, c.loop-k.invariant.1, c.in-Some.ensures.steps, l)

pub loop-k-preserved : goal.loop-k-preserved
loop-k-preserved c =
    let s = c.in-Some.ensures.steps in
    rw (c.byte.ensures, s.1, s.2, s.0.0) (
      filled_more c.loop-k.invariant.0 c.in-Some.pair.now (chunks_exact_rest c.next.new.self.iter) s.0.1.0 (s.0.1.1 ∙ c.loop-k.invariant.1),
      c.loop-k.invariant.1,
    )

pub returns : goal.returns
returns c = filled-end c.loop-k.invariant.0 (omega (arith, c.in-None.ensures.steps, c.loop-k.invariant.1))
