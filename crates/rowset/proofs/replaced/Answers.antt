-- `replaced` meets its contract: row a is put in and turned out again, row o is put in.
use Rattle.rowset.proofs.Masks.{replaced-below}
use Rattle.rowset.proofs.Shifts.{shift-replaced}
use Rattle.rowset.proofs.replaced.Goals as goal

pub returns : goal.returns
returns c =
    let e = shift-replaced c.args.s c.args.a c.args.o c.requires.0 c.requires.1 c.requires.2 c.requires.4 in
    record { value = e; upper_bound = rw e (replaced-below 8 c.args.s c.args.a c.args.o c.requires.0 c.requires.1 c.requires.2 c.requires.3 c.requires.4) }
