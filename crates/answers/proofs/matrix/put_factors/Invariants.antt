-- The invariant in `answers::matrix::put_factors`: the rows before row i are put.
use Rattle.answers.specs.Matrix.{row_text}
use Rattle.answers.proofs.Turns.{Turns}
use Rattle.answers.proofs.matrix.put_factors.Given as goal

abbrev pub invariant-loop-i : goal.invariant-loop-i
invariant-loop-i l = Turns (λ i'. row_text l.shelf l.place l.n i') l.n l.initial.out l.at l.out l.to l.i
