-- The invariant of `source::spell`: the letters below t are spelled.
use Prim.Native.Nat.{◌≤◌}
use Rattle.walk.proofs.Lent.{SpelledTo}
use Rattle.walk.proofs.source.spell.Given as goal

abbrev pub invariant-loop-t : goal.invariant-loop-t
invariant-loop-t l = (l.t ≤ l.t-end) × SpelledTo l.n l.way l.c l.initial.l l.l l.t
