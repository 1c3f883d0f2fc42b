-- `tnb_console::line_end` meets its contract: as many bytes on as stand before the next end.
use Prim.Native.Nat.{ℕ, ◌+◌}
use native.Mathlib.Omega.{arith}
use mathlib.Core.Path.{ap}
use lib.ListN.{length-drop}
use Rattle.arrays.proofs.Runs.{part-is}
use Rattle.tnb_console.proofs.line_end.Goals as goal

pub returns : goal.returns
returns c =
    let a = c.args in
    let counted = rw (part-is a.text.now a.start) at c.before-2.ensures in
    record { value = ap (λ (k : ℕ). a.start + k) counted.value; upper_bound = omega (arith, counted.upper_bound, length-drop a.start a.text.now) }
