-- `renormalised` meets its contract: by the one test on the mantissa.
use borrow.Author.Tests.{eq-eqb, ne_eqb}
use Rattle.number.specs.Number.{renormalised}
use Rattle.number.proofs.roundings.renormalised.Goals as goal

pub returns-then-carried : goal.returns-then-carried
unfolding renormalised
returns-then-carried c = simp (eq-eqb _ _ c.if-carried.true)

pub returns : goal.returns
unfolding renormalised
returns c = simp (ne_eqb _ _ c.if-carried.false)
