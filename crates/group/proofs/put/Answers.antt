-- `group::put` meets its contract. The loop's invariant: what is written so far, and what is left, make the bytes of v.
use Rattle.group.proofs.Writing.{written-more, written_last, counted-last, room-more, room-last}
use Rattle.group.proofs.put.Goals as goal

pub bounds-out-i : goal.bounds-out-i
bounds-out-i c = room-more c.loop-rest.invariant c.requires c.loop-rest-test.true

pub bounds-out-i-2 : goal.bounds-out-i-2
bounds-out-i-2 c = room-last c.loop-rest.invariant c.requires c.loop-rest-test.false

pub loop-rest-preserved : goal.loop-rest-preserved
loop-rest-preserved c = written-more c.loop-rest.invariant c.requires c.loop-rest-test.true

pub returns : goal.returns
returns c = record {
  value = counted-last c.loop-rest.invariant.counted c.loop-rest-test.false;
  out_after = written_last c.loop-rest.invariant c.requires c.loop-rest-test.false;
}
