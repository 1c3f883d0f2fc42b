-- `write` meets its contract. The invariant: all items written at the start are the rest of them written behind the k that stand there.
use mathlib.Core.Path.{sym, ap, ◌∙◌}
use mathlib.Core.List.{List}
use Prim.Native.Nat.{◌*◌, ◌<◌}
use native.Mathlib.Omega.{arith}
use lib.ListN.{length-take, take, drop_of_length-le}
use lib.Seq.{sets}
use Rattle.number.specs.declared.signed.Signed.{Signed}
use Rattle.items.specs.Items.{list_numbers}
use Rattle.items.proofs.Fronts.{unset, ranged-front, write-next}
use Rattle.items.proofs.write.Goals as goal

pub put-requires : goal.put-requires
put-requires c =
    let h : c.loop-k.k < c.args.n = omega (arith, c.loop-k-test.true, length-take c.args.n c.args.v) in (
      ranged-front c.args.v c.args.n c.loop-k.k unset h c.requires.0 c.requires.1,
      omega (arith, c.loop-k.invariant.0, c.requires.2),
    )

pub loop-k-preserved : goal.loop-k-preserved
loop-k-preserved c = (
  c.put.auto.out ∙ c.loop-k.invariant.0,
  c.loop-k.invariant.1 ∙ write-next (take c.args.n c.args.v) c.loop-k.k unset c.loop-k-test.true c.loop-k.out _ c.put.ensures,
)

pub shape_of-out : goal.shape_of-out
shape_of-out c = c.loop-k.invariant.0

pub returns : goal.returns
unfolding list_numbers
returns c = sym (c.loop-k.invariant.1 ∙ ap (λ (L : List Signed). sets c.loop-k.out (3 * c.loop-k.k) (list_numbers L))
    (drop_of_length-le (take c.args.n c.args.v) {i = c.loop-k.k} c.loop-k-test.false))
