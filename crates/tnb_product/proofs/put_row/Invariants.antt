-- The invariant of the loop of `put_row`: the factors before column j are put.
use Rattle.shelf.specs.Calls.{factor_call}
use Rattle.tnb_product.specs.Printed.{factor_line}
use Rattle.answers.proofs.Turns.{Turns}
use Rattle.tnb_product.proofs.put_row.Given as goal

abbrev pub invariant-loop-j : goal.invariant-loop-j
invariant-loop-j l = Turns (λ j'. factor_line l.i j' (factor_call l.shelf 2 l.i j')) l.n l.initial.out l.at l.out l.to l.j
