-- The invariant and the measure in `requests::items::read`: the words passed are items, and their numbers stand in the list.
use Prim.Native.Nat.{◌-◌}
use Rattle.requests.specs.Items.{item_numbers}
use Rattle.requests.proofs.Listed.{Passed}
use Rattle.requests.proofs.items.read.Given as goal

abbrev pub invariant-loop-next : goal.invariant-loop-next
invariant-loop-next l = Passed item_numbers 3 l.line l.at l.initial.list l.list l.next l.count

abbrev pub decreases-loop-next : goal.decreases-loop-next
decreases-loop-next l = 16 - l.count
