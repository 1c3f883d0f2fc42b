-- A place of a good shelf has at most eight rows (`rows_few`), and a mask is a byte.
use native.Mathlib.Omega.{arith}
use Rattle.places.proofs.Verdicts.{rows_few}
use Rattle.operations.proofs.tests.unfit.Goals as goal

pub unfit-requires : goal.unfit-requires
unfit-requires c = (
  rw c.rows_at-n.ensures (rows_few c.args.shelf c.requires c.args.source),
  omega (arith, c.ranges.rows.fits, c.from.ensures),
  omega (arith, c.ranges.columns.fits, c.from-2.ensures),
)
