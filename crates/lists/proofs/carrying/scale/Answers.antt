-- `scale` meets its contract. The invariant: the first k items are multiplied by their entries.
use borrow.Author.Rules.{rules}
use mathlib.Core.Path.{◌≡◌, sym, ap₂, ◌∙◌, subst}
use Prim.Native.Nat.{ℕ, ◌+◌, ◌*◌, ◌<◌}
use native.Mathlib.Omega.{arith}
use lib.ListN.{length, get_or}
use Rattle.number.specs.Number.{Ranged, reach}
use Rattle.number.specs.Signed.{plain, signed_product, SignedRanged}
use Rattle.number.specs.declared.Number.{Number}
use Rattle.number.specs.declared.signed.Signed.{Signed}
use Rattle.number.proofs.Reach.{ranged-more}
use Rattle.number.proofs.SignedReach.{signed-ranged-more}
use Rattle.table.specs.Table.{factors_of, absent}
use Rattle.lists.specs.Carrying.{Scaled}
use Rattle.items.proofs.Fronts.{unset}
use Rattle.lists.proofs.Scaled.{entry-is, scaled-none, scaled-old, scaled-next}
use Rattle.lists.proofs.carrying.scale.Goals as goal
use Rattle.lists.proofs.carrying.scale.Goals.{In-loop-k}

pub loop-k-init : goal.loop-k-init
loop-k-init c = scaled-none c.requires.items_ranged.0.eight

-- the entry read
entry : (c : In-loop-k) → get_or c.args.b (c.loop-k.k * 9) absent ≡ factors_of c.args.b (c.loop-k.k + 1) (c.loop-k.k + 1)
entry c =
    let e : length c.args.b ≡ 64 = search rules in
    entry-is c.args.b c.loop-k.k (omega (arith, c.loop-k-test.true, c.requires.n_bound)) e

pub times-requires : goal.times-requires
times-requires c =
    let h : c.loop-k.k < c.args.n = c.loop-k-test.true in (
      subst (SignedRanged reach) (sym (scaled-old c.loop-k.invariant (omega arith) unset))
          (signed-ranged-more (omega arith) (c.requires.items_ranged.0.ranged (c.loop-k.k + 1) (omega arith, omega arith))),
      subst (Ranged reach) (sym (entry (goal.at.times-requires c).In-loop-k))
          (ranged-more (omega arith) (c.requires.items_ranged.1 (c.loop-k.k + 1) (c.loop-k.k + 1) (omega arith, omega arith) (omega arith, omega arith))),
    )

pub loop-k-preserved : goal.loop-k-preserved
loop-k-preserved c =
    scaled-next c.loop-k.invariant (omega (arith, c.loop-k-test.true, c.requires.n_bound)) c.times.result
    (c.times.ensures ∙ ap₂ (λ (x : Signed) (w : Number). signed_product x (plain w))
    (scaled-old c.loop-k.invariant (omega (arith, c.loop-k-test.true, c.requires.n_bound)) unset) (entry (goal.at.loop-k-preserved c).In-loop-k))

pub returns : goal.returns
returns c =
    let a = c.args in
    let e : c.loop-k.k ≡ a.n = omega (arith, c.loop-k-test.false) in
    subst (λ (k : ℕ). Scaled k (factors_of a.b) a.v.now c.loop-k.v) e c.loop-k.invariant
