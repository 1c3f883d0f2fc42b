-- `count` meets its contract. The invariant: the reversals of the list are those found and those of the rest behind the last item that is not zero.
use mathlib.Core.Path.{ap}
use mathlib.Core.List.{List}
use native.Mathlib.Omega.{arith}
use lib.ListN.{get_or, take, drop_of_length-le}
use Rattle.number.specs.declared.signed.Signed.{Signed}
use Rattle.items.proofs.Fronts.{unset}
use Rattle.reversals.specs.Reversals.{reversals_behind}
use Rattle.reversals.proofs.Counting.{count_next, turn-le}
use Rattle.reversals.proofs.count.Goals as goal

pub loop-a-preserved : goal.loop-a-preserved
loop-a-preserved c =
    let L : List Signed = take c.args.n c.args.v in
    let i = c.loop-a.a-index in
    rw c.latest-last.ensures (
      omega (arith, c.turn-found.ensures, turn-le c.loop-a.last (get_or L i unset), c.loop-a.invariant.0),
      omega (arith, c.turn-found.ensures, c.loop-a.invariant.1, count_next L i unset c.loop-a-test.true c.loop-a.last),
    )

pub returns : goal.returns
unfolding reversals_behind
returns c = omega (
  arith,
  c.loop-a.invariant.1,
  ap (reversals_behind c.loop-a.last) (drop_of_length-le (take c.args.n c.args.v) {i = c.loop-a.a-index} c.loop-a-test.false),
)
