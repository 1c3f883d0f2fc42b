-- `through` meets its contract. The invariant: the items are carried through the letters from t on.
use mathlib.Core.Path.{◌≡◌, sym, ap, ◌∙◌, subst}
use Prim.Native.Nat.{ℕ, ◌+◌, ◌-◌, ◌*◌, ◌<◌}
use native.Mathlib.Omega.{arith}
use lib.ListN.{drop}
use Rattle.number.specs.Signed.{zero_signed}
use Rattle.words.specs.Word.{D}
use Rattle.walk.specs.Letters.{middle}
use Rattle.table.specs.Table.{factors_of}
use Rattle.items.specs.Items.{ItemsRanged}
use Rattle.items.proofs.Fronts.{items-ranged-more}
use Rattle.lists.specs.Lists.{signed_word}
use Rattle.lists.specs.Carrying.{Carries, letter_of, working_reach}
use Rattle.lists.proofs.LetterReach.{ranged-letters, word-reach}
use Rattle.lists.proofs.Carried.{carries-start, carries-letter, carries-ranged}
use Rattle.lists.proofs.Spelled.{signed-length}
use Rattle.lists.proofs.FirstItems.{carries-list}
use Rattle.lists.proofs.carrying.through.Goals as goal
use Rattle.lists.proofs.carrying.through.Goals.{At-loop-t}

pub loop-t-init : goal.loop-t-init
loop-t-init c =
    let a = c.args in
    let p = c.requires in
    let e : 2 * c.middle.result + 1 ≡ 2 * middle a.n + 1 = ap (λ (k : ℕ). 2 * k + 1) c.middle.ensures.value in (
      omega arith,
      carries-start a.n (signed_word a.n (factors_of a.b)) (ranged-letters a.n (factors_of a.b) p.3) _ a.v
          (e ∙ sym (signed-length a.b a.n p.0 p.1)) p.2.eight,
    )

-- how far the exponents are
held : (c : At-loop-t) → ItemsRanged working_reach c.args.n c.loop-t.u
held c =
    let a = c.args in
    let p = c.requires in
    let f = word-reach a.n (factors_of a.b) p.0 p.1 in
    items-ranged-more (omega arith)
    (carries-ranged a.n (signed_word a.n (factors_of a.b)) (ranged-letters a.n (factors_of a.b) p.3)
    c.loop-t.t 1000 (omega arith) p.2 c.loop-t.invariant.1)

pub letter-requires : goal.letter-requires
letter-requires c = record {
  le_n = (c.requires.0, c.requires.1, omega (arith, c.loop-t.invariant.0, c.loop-t-test.true));
  items_ranged = (items-ranged-more (omega arith) (held (goal.at.letter-requires c).At-loop-t), c.requires.3);
}

pub loop-t-preserved : goal.loop-t-preserved
unfolding letter_of
loop-t-preserved c =
    let a = c.args in
    let p = c.requires in
    let h : 0 < c.loop-t.t = c.loop-t-test.true in
    let e : c.loop-t.t ≡ c.loop-t.t - 1 + 1 = omega arith in (
      omega (arith, c.loop-t.invariant.0),
      carries-letter a.n (signed_word a.n (factors_of a.b)) (ranged-letters a.n (factors_of a.b) p.3) (c.loop-t.t - 1) (D (λ i. zero_signed))
          (omega (arith, signed-length a.b a.n p.0 p.1, c.loop-t.invariant.0))
          (subst (λ (k : ℕ). Carries a.n (drop k (signed_word a.n (factors_of a.b))) a.v c.loop-t.u) e c.loop-t.invariant.1)
          c.letter.ensures,
    )

pub returns : goal.returns
returns c =
    let a = c.args in
    let p = c.requires in
    let e : c.loop-t.t ≡ 0 = omega (arith, c.loop-t-test.false) in
    record {
      result_value = carries-list (factors_of a.b) a.v c.loop-t.u p.1 (ranged-letters a.n (factors_of a.b) p.3)
          (subst (λ (k : ℕ). Carries a.n (drop k (signed_word a.n (factors_of a.b))) a.v c.loop-t.u) e c.loop-t.invariant.1);
      items_ranged = items-ranged-more (omega arith) (held (goal.at.returns c).At-loop-t);
    }
