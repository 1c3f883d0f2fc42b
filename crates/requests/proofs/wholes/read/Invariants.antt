-- The invariant and the measure in `requests::wholes::read`: the words passed are whole numbers, and they stand in the list.
use Prim.Native.Nat.{◌-◌}
use Rattle.requests.specs.Wholes.{whole_number}
use Rattle.requests.proofs.Listed.{Passed}
use Rattle.requests.proofs.wholes.read.Given as goal

abbrev pub invariant-loop-next : goal.invariant-loop-next
invariant-loop-next l = Passed (whole_number l.member) 1 l.line l.at l.initial.list l.list l.next l.count

abbrev pub decreases-loop-next : goal.decreases-loop-next
decreases-loop-next l = 16 - l.count
