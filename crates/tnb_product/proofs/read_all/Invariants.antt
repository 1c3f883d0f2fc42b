-- The invariant and the measure of the loop of `read_all`: what is read fits the buffer, and each turn reads more.
use Prim.Native.Nat.{◌-◌, ◌≤◌}
use mathlib.Core.Path.{◌≡◌}
use lib.ListN.{length}
use Rattle.tnb_product.proofs.read_all.Given as goal

abbrev pub invariant-loop-have : goal.invariant-loop-have
invariant-loop-have l = (l.have ≤ length l.buffer) × (length l.buffer ≡ length l.initial.buffer)

abbrev pub decreases-loop-have : goal.decreases-loop-have
decreases-loop-have l = length l.initial.buffer - l.have
