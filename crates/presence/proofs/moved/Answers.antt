-- `moved` meets its contract. The invariant: the masks below s are gone through.
use borrow.Author.Rules.{rules}
use mathlib.Core.Path.{refl, sym, ◌∙◌}
use Prim.Native.Nat.{◌^◌, ◌≤◌}
use native.Mathlib.Omega.{arith}
use lib.Pow.{pow_mono}
use Rattle.rowset.proofs.Shifts.{shift-exact}
use Rattle.presence.specs.Held.{held_at}
use Rattle.presence.proofs.Letter.{gone-none, gone-skip, gone-move, gone-all}
use Rattle.presence.proofs.moved.Goals as goal
use Rattle.presence.proofs.moved.Goals.{then-moves, else-moves}

pub loop-s-init : goal.loop-s-init
loop-s-init c = gone-none c.told-v

pub loop-s-preserved : goal.loop-s-preserved
unfolding held_at
loop-s-preserved c =
    let a = c.args in
    let g = c.loop-s.invariant in
    let masks : 2 ^ a.n ≤ 2 ^ 8 = pow_mono c.requires.0 in
    elim c.if-moves.branch [
      | then-moves w ↦ rw w.v-is (gone-move g (omega (arith, shift-exact a.n (omega arith))) (omega arith) (omega arith)
          (sym c.moves.ensures ∙ w.if-moves.true) _ w.replaced.ensures.value _ refl)
      | else-moves w ↦ rw w.v-is (gone-skip g (sym c.moves.ensures ∙ w.if-moves.false))
    ]

pub returns : goal.returns
returns c =
    let n = c.args.n in
    gone-all n (search rules) (search rules) (search rules) (search rules) (search rules) (omega (arith, shift-exact n (omega arith))) c.loop-s.invariant
