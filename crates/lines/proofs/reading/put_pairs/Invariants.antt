-- The invariant of the loop of `lines::put_pairs`: the bytes put so far, and those of the pairs that are left, make all.
use mathlib.Core.Path.{◌≡◌}
use Rattle.std.specs.Slice.Iter.{chunks_exact_rest, chunks_exact_size}
use Rattle.lines.specs.Hexadecimal.{spelled_bytes}
use Rattle.lines.proofs.Pairs.{Filled}
use Rattle.lines.proofs.reading.put_pairs.Given as goal

abbrev pub invariant-loop-k : goal.invariant-loop-k
invariant-loop-k l =
    Filled l.initial.out (spelled_bytes l.s) l.out (chunks_exact_rest l.k-iterator.iter) l.k-iterator.count × (chunks_exact_size l.k-iterator.iter ≡ 2)
