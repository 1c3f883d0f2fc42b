-- The invariant of `carrying::scale`: the first k items are multiplied by their entries.
use Rattle.table.specs.Table.{factors_of}
use Rattle.lists.specs.Carrying.{Scaled}
use Rattle.lists.proofs.carrying.scale.Given as goal

abbrev pub invariant-loop-k : goal.invariant-loop-k
invariant-loop-k l = Scaled l.k (factors_of l.b) l.initial.v l.v
