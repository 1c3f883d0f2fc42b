-- The invariant of the loop of `serve`: what is kept stays in order, no more is held than a line may have.
use Prim.Native.Nat.{◌≤◌}
use mathlib.Core.Path.{◌≡◌}
use lib.ListN.{length}
use Rattle.tnb_console.specs.Kept.{Orderly}
use Rattle.tnb_console.proofs.serve.Given as goal

abbrev pub invariant-loop : goal.invariant-loop
invariant-loop l = (length l.input ≡ length l.initial.input)
    × (length l.output ≡ length l.initial.output)
    × (length l.initial.input ≡ 65536)
    × (length l.initial.output ≡ 65536)
    × Orderly l.now l.output
    × (l.now.start ≡ 0)
    × (l.held ≤ 4096)
