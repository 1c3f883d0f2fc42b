-- `replies::filling::fill` meets its contract. The loop's invariant: the numbers before index k are set.
use native.Mathlib.Omega.{arith}
use lib.ListN.{length-set}
use Rattle.replies.proofs.Lent.{filled_none, filled_more, filled-end}
use Rattle.replies.proofs.filling.fill.Goals as goal

pub loop-list-init : goal.loop-list-init
loop-list-init c = filled_none _

pub slice_set_of-list-in-loop-list : goal.slice_set_of-list-in-loop-list
slice_set_of-list-in-loop-list c = simp length-set (omega arith)

pub slice_set_of-list-in-loop-list-2 : goal.slice_set_of-list-in-loop-list-2
slice_set_of-list-in-loop-list-2 c = simp length-set (omega arith)

pub loop-list-preserved : goal.loop-list-preserved
loop-list-preserved c = filled_more c.loop-list.invariant c.loop-list-test.true

pub shape_of-list : goal.shape_of-list
shape_of-list c = c.loop-list.invariant.kept

pub returns : goal.returns
returns c = filled-end c.loop-list.invariant (omega arith)
