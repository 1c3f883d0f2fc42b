-- The invariant of `Lent::walked`: k letters are applied.
use Rattle.walk.specs.Lent.{table_in}
use Rattle.presence.specs.Held.{state_of, present_word}
use Rattle.presence.proofs.Walking.{Done}
use Rattle.presence.proofs.Lent.walked.Given as goal

abbrev pub invariant-loop-k : goal.invariant-loop-k
invariant-loop-k l =
    let s = l.self in
    Done l.turned s.n (present_word s.n s.way (table_in s.factors.now s.c)) l.many l.k (state_of l.initial.v) (state_of l.v)
