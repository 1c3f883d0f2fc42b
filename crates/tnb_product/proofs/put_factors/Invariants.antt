-- The invariant of the loop of `put_factors`: the rows before row i are put.
use Rattle.tnb_product.specs.Printed.{row_lines}
use Rattle.answers.proofs.Turns.{Turns}
use Rattle.tnb_product.proofs.put_factors.Given as goal

abbrev pub invariant-loop-i : goal.invariant-loop-i
invariant-loop-i l = Turns (λ i'. row_lines l.shelf l.n i') l.n l.initial.out l.at l.out l.to l.i
