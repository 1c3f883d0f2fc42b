-- The invariant of `Joined::minor`: the words of the steps from number c on are walked, and their steps counted.
use mathlib.Core.Path.{◌≡◌}
use Prim.Native.Nat.{◌+◌, ◌*◌, ◌≤◌}
use lib.ListN.{length, drop}
use Rattle.number.specs.Number.{rounded}
use Rattle.words.specs.RowSet.{of_mask}
use Rattle.words.specs.Walk.{walk, one_at}
use Rattle.words.specs.Operation.{joined_word}
use Rattle.words.specs.Effort.{walk_steps}
use Rattle.walk.specs.Lent.{steps_of}
use Rattle.walk.specs.Held.{state_of, Agree}
use Rattle.walk.specs.Packed.{numbers_of}
use Rattle.walk.proofs.Joined.minor.Given as goal

abbrev pub invariant-loop-c : goal.invariant-loop-c
invariant-loop-c l = (l.c ≤ l.self.count) × Agree l.self.n l.k (state_of (numbers_of l.v))
    (walk rounded (joined_word l.self.n (drop l.c (steps_of l.self l.factors))) (one_at rounded (of_mask l.self.n l.j)))
    × (length l.v ≡ 70) × (l.steps ≡ walk_steps l.self.n l.k (joined_word l.self.n (drop l.c (steps_of l.self l.factors)))) × (l.steps + 4000 * l.c ≤ 24000)
