-- The invariant of the loop of `write`: all items written at the start are the rest of them written behind the k that stand there.
use mathlib.Core.Path.{◌≡◌}
use Prim.Native.Nat.{◌*◌}
use lib.ListN.{length, drop, take}
use lib.Seq.{sets}
use Rattle.items.specs.Items.{list_numbers}
use Rattle.items.proofs.write.Given as goal

abbrev pub invariant-loop-k : goal.invariant-loop-k
invariant-loop-k l = (length l.out ≡ length l.initial.out) ×
    (sets l.initial.out 0 (list_numbers (take l.n l.fn.v)) ≡ sets l.out (3 * l.k) (list_numbers (drop l.k (take l.n l.fn.v))))
