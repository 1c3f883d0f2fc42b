-- The invariant of `moved`: the masks below s are gone through.
use Rattle.presence.proofs.Letter.{Gone}
use Rattle.presence.proofs.moved.Given as goal

abbrev pub invariant-loop-s : goal.invariant-loop-s
invariant-loop-s l = Gone l.initial.v l.a l.o l.v l.s
