-- `count` meets its contract: the ones of a mask are its rows.
use native.Mathlib.Omega.{arith}
use Rattle.rowset.specs.Mask.{mask_count}
use Rattle.rowset.proofs.Counts.{count_to-le}
use Rattle.rowset.proofs.Shifts.{ones-count}
use Rattle.rowset.proofs.count.Goals as goal

pub overflow_cast-result : goal.overflow_cast-result
unfolding mask_count
overflow_cast-result c = omega (arith, ones-count c.args.s c.requires, count_to-le 8 c.args.s)

pub returns : goal.returns
unfolding mask_count
returns c = let e = ones-count c.args.s c.requires in record { value = e; upper_bound = omega (arith, count_to-le 8 c.args.s) }
