-- `set_in` meets its contract: by what the table holds.
use native.Mathlib.Omega.{arith}
use Rattle.rowset.proofs.Begins.{begin-fits, listed_at}
use Rattle.rowset.proofs.lent.set_in.Goals as goal

pub overflow_add-b : goal.overflow_add-b
overflow_add-b c = omega (arith, c.requires.2, begin-fits c.args.k c.requires.0)

pub bounds-t-b : goal.bounds-t-b
bounds-t-b c = omega (arith, c.requires.2, begin-fits c.args.k c.requires.0)

pub returns : goal.returns
returns c = listed_at _ c.args.b c.args.k c.args.p _ c.requires.3 c.requires.0 c.requires.1 c.requires.2 c.wide.ensures.value
