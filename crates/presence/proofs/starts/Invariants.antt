-- The invariant of `starts`: the sets of fewer than c rows are there.
use Rattle.presence.proofs.Starting.{Started}
use Rattle.presence.proofs.starts.Given as goal

abbrev pub invariant-loop-c : goal.invariant-loop-c
invariant-loop-c l = Started l.p l.v l.c
