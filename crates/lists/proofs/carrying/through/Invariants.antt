-- The invariant of `carrying::through`: the items are carried through the letters from t on.
use Prim.Native.Nat.{◌+◌, ◌*◌, ◌≤◌}
use lib.ListN.{drop}
use Rattle.walk.specs.Letters.{middle}
use Rattle.table.specs.Table.{factors_of}
use Rattle.lists.specs.Lists.{signed_word}
use Rattle.lists.specs.Carrying.{Carries}
use Rattle.lists.proofs.carrying.through.Given as goal

abbrev pub invariant-loop-t : goal.invariant-loop-t
invariant-loop-t l = (l.t ≤ 2 * middle l.n + 1) × Carries l.n (drop l.t (signed_word l.n (factors_of l.b))) l.initial.u l.u
