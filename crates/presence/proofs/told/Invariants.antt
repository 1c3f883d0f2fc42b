-- The invariant of `told`: k steps are walked.
use Rattle.walk.specs.Lent.{steps_of}
use Rattle.presence.specs.Held.{state_of, Starts}
use Rattle.presence.proofs.Walking.{StepsDone}
use Rattle.presence.proofs.told.Given as goal

abbrev pub invariant-loop-k : goal.invariant-loop-k
invariant-loop-k l = record {
  started : Starts l.p l.initial.v;
  done : StepsDone l.turned l.word.n (steps_of l.word l.factors) l.word.count l.k (state_of l.initial.v) (state_of l.v);
}
