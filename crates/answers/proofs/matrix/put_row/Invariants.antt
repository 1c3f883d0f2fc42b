-- The invariant in `answers::matrix::put_row`: the factors before column j are put.
use Rattle.answers.specs.Matrix.{factor_text}
use Rattle.answers.proofs.Turns.{Turns}
use Rattle.answers.proofs.matrix.put_row.Given as goal

abbrev pub invariant-loop-j : goal.invariant-loop-j
invariant-loop-j l = Turns (λ j'. factor_text l.shelf l.place l.i j') l.n l.initial.out l.at l.out l.to l.j
