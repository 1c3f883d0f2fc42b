-- The invariant of the loop of `lines::read_whole`: the numerals passed spell a number, and what is left is read behind it.
use Rattle.lines.proofs.Numerals.{Spelled}
use Rattle.lines.proofs.reading.read_whole.Given as goal

abbrev pub invariant-loop-b : goal.invariant-loop-b
invariant-loop-b l = Spelled l.s l.most l.value l.b-index
