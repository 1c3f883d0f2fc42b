-- `put` meets its contract. The invariant: the first k numbers of the table are put.
use Prim.Native.Nat.{◌+◌, ◌*◌}
use native.Mathlib.Omega.{arith}
use mathlib.Core.Path.{◌≡◌, refl, ap, ◌∙◌}
use mathlib.Core.List.{List}
use lib.ListN.{get_or, set}
use lib.Seq.{sets, take_all}
use Rattle.arrays.proofs.Runs.{sets-next}
use Rattle.number.specs.declared.Number.{Number}
use Rattle.table.specs.Table.{absent}
use borrow.Author.Rules.{rules}
use Rattle.places.proofs.put.Goals as goal

pub loop-k-init : goal.loop-k-init
loop-k-init c = (search rules, refl)

pub loop-k-preserved : goal.loop-k-preserved
loop-k-preserved c =
    let a = c.args in
    let k = c.loop-k.k in (
      omega arith,
      ap (λ (x : List Number). set x (a.place * 64 + k) (get_or a.t.now k absent)) c.loop-k.invariant.1
          ∙ sets-next absent a.numbers.now a.t.now (a.place * 64) k (search rules),
    )

pub returns : goal.returns
returns c =
    let a = c.args in
    let l = c.loop-k in
    let e : l.k ≡ 64 = omega arith in
    l.invariant.1 ∙ ap (sets a.numbers.now (a.place * 64)) (take_all l.k a.t.now (search rules))
