-- The invariant of the loop of `writer::put_matrix`: what is written so far, and the bytes of the factors left, make the encoding.
use Rattle.writer.proofs.Writing.{WrittenSoFar}
use Rattle.writer.proofs.put_matrix.Given as goal

abbrev pub invariant-loop-a : goal.invariant-loop-a
invariant-loop-a l = WrittenSoFar l.factors l.initial.out l.initial.at l.out l.at l.a-index
