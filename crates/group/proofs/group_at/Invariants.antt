-- The invariant of the loop of `group::group_at`: the group at the start is what the bytes passed give, in front of the group behind them.
use Rattle.group.proofs.Reading.{Passed}
use Rattle.group.proofs.group_at.Given as goal

abbrev pub invariant-loop-i : goal.invariant-loop-i
invariant-loop-i l = Passed l.s l.value l.weight l.i
