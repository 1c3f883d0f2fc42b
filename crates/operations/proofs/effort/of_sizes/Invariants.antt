-- The loop of `effort::of_sizes`: the first p terms of the sum, which stays small, and how many are left.
use mathlib.Core.Path.{◌≡◌}
use Prim.Native.Nat.{◌-◌, ◌*◌, ◌≤◌}
use Rattle.words.specs.Effort.{sum_over}
use Rattle.operations.proofs.Efforts.{term}
use Rattle.operations.proofs.effort.of_sizes.Given as goal

abbrev pub invariant-loop-p : goal.invariant-loop-p
invariant-loop-p l = (l.sum ≡ sum_over l.p (term l.n l.clamped l.k)) × (l.sum ≤ 2310 * l.p) × (l.p ≤ l.k)

abbrev pub decreases-loop-p : goal.decreases-loop-p
decreases-loop-p l = l.k - l.p
