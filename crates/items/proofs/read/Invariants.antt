-- The invariant of the loop of `read`: the whole list is what the rest of the numbers gives, put behind the k items read.
use mathlib.Core.Path.{◌≡◌}
use Prim.Native.Nat.{◌*◌}
use lib.ListN.{drop}
use Rattle.items.specs.Items.{blank_items, list_of, listed_from}
use Rattle.items.proofs.read.Given as goal

abbrev pub invariant-loop-k : goal.invariant-loop-k
invariant-loop-k l = listed_from blank_items 0 (list_of l.items) ≡ listed_from l.list l.k (list_of (drop (3 * l.k) l.items))
