-- `writer::put_matrix` meets its contract. The loop's invariant: what is written so far, and the bytes of the factors left, make the encoding.
use Prim.Native.Nat.{◌+◌, ◌≤◌}
use native.Mathlib.Omega.{arith}
use mathlib.Core.Path.{refl, ap, ◌∙◌}
use lib.ListN.{length, get_or, length-drop}
use lib.Seq.{length-sets}
use Rattle.group.specs.Group.{bytes_of}
use Rattle.writer.specs.Encoding.{factor_bytes}
use Rattle.arrays.proofs.Runs.{part-is}
use Rattle.writer.proofs.Writing.{written-more, written-room, written_all, counted-all, unread, encoding-length, encoding-sets}
use Rattle.writer.proofs.put_matrix.Goals as goal
use Rattle.writer.proofs.put_matrix.Goals.{In-loop-a}

-- the next factor fits behind what is written
room : (c : In-loop-a) → c.loop-a.at + length (factor_bytes (get_or c.args.factors.now c.loop-a.a-index unread)) ≤ length c.loop-a.out
room c = written-room c.args.factors.now c.loop-a.invariant _ c.loop-a-test.true refl
    (omega (arith, ap length c.put-at.ensures.out_after ∙ length-sets c.args.out.now 0 (bytes_of c.args.n), encoding-length c.args.n c.args.factors.now))

pub put-at-requires : goal.put-at-requires
put-at-requires c = omega (arith, encoding-length c.args.n c.args.factors.now)

pub slice_bounds-put_factor-count : goal.slice_bounds-put_factor-count
slice_bounds-put_factor-count c = omega (arith, room (goal.at.slice_bounds-put_factor-count c).In-loop-a)

pub slice_bounds-put_factor-start : goal.slice_bounds-put_factor-start
slice_bounds-put_factor-start c = omega (arith, room (goal.at.slice_bounds-put_factor-start c).In-loop-a)

pub put_factor-at-requires : goal.put_factor-at-requires
put_factor-at-requires c = let whole = ap length (part-is c.loop-a.out c.loop-a.at) ∙ length-drop c.loop-a.at c.loop-a.out in
    omega (arith, room (goal.at.put_factor-at-requires c).In-loop-a)

pub overflow_add-at : goal.overflow_add-at
overflow_add-at c = omega (arith, room (goal.at.overflow_add-at c).In-loop-a)

pub loop-a-preserved : goal.loop-a-preserved
loop-a-preserved c = written-more c.args.factors.now c.loop-a.invariant _ c.loop-a-test.true refl _ _
    (omega (arith, room (goal.at.loop-a-preserved c).In-loop-a)) c.put_factor-at.ensures.value c.put_factor-at.ensures.out_after

pub returns : goal.returns
returns c = let a = c.args in record {
  value = counted-all a.factors.now c.loop-a.invariant.counted c.loop-a-test.false ∙ rw (encoding-length, c.put-at.ensures.value);
  out_after = written_all a.factors.now c.loop-a.invariant c.loop-a-test.false
      ∙ encoding-sets a.n a.factors.now a.out.now c.put-at.new.out c.put-at.result c.put-at.ensures.value c.put-at.ensures.out_after;
}
