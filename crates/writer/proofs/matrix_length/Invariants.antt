-- The invariant of the loop of `writer::matrix_length`: what is counted so far, and the bytes of the factors left, are as many as the encoding's.
use Prim.Native.Nat.{◌+◌, ◌*◌, ◌≤◌}
use Rattle.writer.proofs.Writing.{Counted}
use Rattle.writer.proofs.matrix_length.Given as goal

abbrev pub invariant-loop-a : goal.invariant-loop-a
invariant-loop-a l = Counted l.a-items l.initial.total l.total l.a-index × (l.total ≤ 10 + 20 * l.a-index)
