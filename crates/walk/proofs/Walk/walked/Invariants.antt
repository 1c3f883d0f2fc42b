-- The invariant of `walked`: the letters from t on are applied, and their steps are counted.
use mathlib.Core.Path.{◌≡◌}
use Prim.Native.Nat.{◌+◌, ◌*◌, ◌≤◌}
use lib.ListN.{drop}
use Rattle.number.specs.Number.{rounded}
use Rattle.words.specs.Walk.{walk}
use Rattle.words.specs.Operation.{step_word}
use Rattle.words.specs.Effort.{walk_steps}
use Rattle.walk.specs.Steps.{step_of}
use Rattle.walk.specs.Lent.{table_in}
use Rattle.walk.specs.Letters.{middle}
use Rattle.walk.specs.Held.{state_of, Agree}
use Rattle.walk.specs.Packed.{numbers_of}
use Rattle.walk.proofs.Walk.walked.Given as goal

abbrev pub invariant-loop-t : goal.invariant-loop-t
invariant-loop-t l = (l.t ≤ 2 * middle l.self.n + 1) × Agree l.self.n l.self.k (state_of (numbers_of l.u))
    (walk rounded (drop l.t (step_word l.self.n (step_of l.way (table_in l.self.factors.now l.c)))) (state_of (numbers_of l.initial.u)))
    × (l.steps ≡ walk_steps l.self.n l.self.k (drop l.t (step_word l.self.n (step_of l.way (table_in l.self.factors.now l.c))))) × (l.steps + 70 * l.t ≤ 3990)
