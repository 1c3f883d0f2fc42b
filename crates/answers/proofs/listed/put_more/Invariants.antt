-- The invariant in `answers::listed::put_more`: the items in front of those that are left are put.
use mathlib.Core.Path.{◌≡◌}
use Rattle.std.specs.Slice.Iter.{chunks_exact_size, chunks_exact_rest}
use Rattle.lines.proofs.Text.{Left}
use Rattle.answers.specs.Items.{more_items}
use Rattle.answers.proofs.listed.put_more.Given as goal

abbrev pub invariant-loop-item : goal.invariant-loop-item
invariant-loop-item l = record {
  size : chunks_exact_size l.item-iterator ≡ 3;
  left : Left l.initial.out l.at (more_items l.list) l.out l.to (more_items (chunks_exact_rest l.item-iterator));
}
