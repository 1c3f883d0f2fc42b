-- The invariant of the loop of `respond_all`: the lines before `start` are answered (`Going`).
use Prim.Native.Nat.{◌-◌}
use lib.ListN.{length}
use Rattle.tnb_console.proofs.Going.{Going}
use Rattle.tnb_console.proofs.respond_all.Given as goal

abbrev pub invariant-loop-end : goal.invariant-loop-end
invariant-loop-end l = Going l.initial.now l.text l.initial.output l.now l.output l.start l.end

abbrev pub decreases-loop-end : goal.decreases-loop-end
decreases-loop-end l = length l.text - l.start
