-- `answers::put_more` meets its contract. The loop's invariant: the items in front of those that are left are put.
use Prim.Native.Nat.{◌<◌}
use native.Mathlib.Omega.{arith}
use mathlib.Core.Path.{◌∙◌}
use lib.ListN.{length}
use Rattle.std.specs.Slice.Iter.{chunks_exact_rest}
use Rattle.lines.specs.Ascii.{ascii}
use Rattle.lines.proofs.Text.{left-all, left-none, left_behind}
use Rattle.answers.proofs.Lists.{more-none, more-some}
use Rattle.answers.proofs.listed.put_more.Goals as goal

pub loop-item-init : goal.loop-item-init
loop-item-init c =
    let same = c.into_iter-item-iterator.ensures.into_iter_gives in
    record {
      size = rw same c.chunks_exact-item-items.ensures.size;
      left = rw (same, c.chunks_exact-item-items.ensures.rest) (left-all _ _ _);
    }

pub loop-item-preserved : goal.loop-item-preserved
loop-item-preserved c =
    let steps = c.in-Some.ensures.steps in
    let more = more-some c.in-Some.item.now (chunks_exact_rest c.next.new.self) (steps.1.1 ∙ c.loop-item.invariant.size) in
    record {
      size = steps.0 ∙ c.loop-item.invariant.size;
      left = left_behind (left_behind {a = ascii " "} (rw (steps.1.0, more) at c.loop-item.invariant.left) c.put-next.ensures) c.put_item-to.ensures;
    }

pub returns : goal.returns
returns c =
    let few : length (chunks_exact_rest c.loop-item.item-iterator) < 3 = omega (arith, c.in-None.ensures.steps.1.0, c.loop-item.invariant.size) in
    left-none (rw (more-none (chunks_exact_rest c.loop-item.item-iterator) few) at c.loop-item.invariant.left)
