-- `add` meets its contract: the items that it reads are those of the vector.
use mathlib.Core.Path.{◌≡◌, sym, ap, ◌∙◌, subst}
use Prim.Native.Nat.{◌-◌}
use native.Mathlib.Omega.{arith}
use lib.ListN.{get_or}
use Rattle.number.specs.Number.{reach}
use Rattle.number.specs.Signed.{plain, zero_signed, signed_product, SignedRanged}
use Rattle.number.specs.declared.signed.Signed.{Signed}
use Rattle.number.proofs.SignedReach.{signed-ranged-more, signed-ranged-plain}
use Rattle.items.specs.Items.{vector_of}
use Rattle.arrays.proofs.Filled.{read-any}
use Rattle.items.proofs.Fronts.{unset}
use Rattle.lists.proofs.LetterReach.{product-reach}
use Rattle.lists.proofs.carrying.add.Goals as goal

pub add-requires : goal.add-requires
add-requires c =
    let a = c.args in
    let v = a.v.now in
    let r = c.requires.signed_ranged in
    let to : get_or v (a.to - 1) unset ≡ vector_of v a.to = read-any v (a.to - 1) unset zero_signed (omega (arith, c.requires.le_to, c.told-v)) in
    let from : get_or v (a.from - 1) unset ≡ vector_of v a.from = read-any v (a.from - 1) unset zero_signed (omega (arith, c.requires.le_to, c.told-v)) in (
      subst (SignedRanged reach) (sym to) (signed-ranged-more (omega arith) r.0),
      subst (SignedRanged reach) (sym (c.times.ensures ∙ ap (λ (x : Signed). signed_product x (plain a.w)) from))
          (signed-ranged-more (omega arith) (product-reach (omega arith) r.1 (signed-ranged-plain r.2))),
    )
