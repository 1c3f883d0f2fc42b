-- The invariant of the loop of `mistimed`: the first k stamps are passed, the last of them being `before` (`Passed`).
use Rattle.stamps.proofs.Timed.{Passed}
use Rattle.stamps.proofs.mistimed.Given as goal

abbrev pub invariant-loop-stamp : goal.invariant-loop-stamp
invariant-loop-stamp l = Passed l.stamps l.before l.stamp-index
