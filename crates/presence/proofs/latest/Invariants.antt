-- The invariant of `latest`: no mask from s on passes.
use mathlib.Core.Path.{◌≡◌}
use mathlib.Core.Bool.{false}
use Prim.Native.Nat.{ℕ, ◌-◌, ◌^◌, ◌≤◌, ◌<◌}
use Rattle.presence.proofs.Search.{passes}
use Rattle.presence.proofs.latest.Given as goal

abbrev pub invariant-loop-s : goal.invariant-loop-s
invariant-loop-s l = (x : ℕ) → l.s ≤ x → x < 2 ^ (l.i - 1) → passes l.v l.p l.k l.c x ≡ false
