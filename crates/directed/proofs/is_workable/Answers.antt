-- `is_workable` meets its contract: its tests are the definition's, the lower bound of the exponent with the reach on the other side.
use native.Mathlib.Omega.{arith}
use borrow.Author.Tests.{eq-eqb}
use Rattle.std.proofs.lemmas.Bool.Decides.{nat_tests}
use Rattle.directed.specs.Directed.{is_workable}
use Rattle.directed.proofs.is_workable.Goals as goal

pub returns-then-a-eq0 : goal.returns-then-a-eq0
unfolding is_workable
returns-then-a-eq0 c = let h = eq-eqb c.args.a.m 0 c.if-a-eq0.true in simp h

pub returns-then-a : goal.returns-then-a
unfolding is_workable
returns-then-a c = grind (arith, nat_tests)

pub returns-else-a : goal.returns-else-a
unfolding is_workable
returns-else-a c = grind (arith, nat_tests)
