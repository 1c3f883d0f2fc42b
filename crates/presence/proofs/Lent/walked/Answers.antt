-- `Lent::walked` meets its contract. The invariant: k letters are applied.
use mathlib.Core.Path.{◌≡◌, sym, ap, ◌∙◌}
use mathlib.Core.Bool.{true}
use Prim.Native.Nat.{ℕ, ◌+◌, ◌*◌}
use native.Mathlib.Omega.{arith}
use lib.ListN.{length}
use Rattle.words.specs.Word.{D}
use Rattle.walk.specs.Lent.{table_in}
use Rattle.presence.specs.Held.{state_of, present_word, present_letter}
use Rattle.presence.proofs.Spelled.{present-length}
use Rattle.presence.proofs.Walking.{done-none, done-more, done-all}
use Rattle.presence.proofs.Lent.walked.Goals as goal
use Rattle.presence.proofs.Lent.walked.Goals.{After-middle}

-- the letters are as many as are gone through
size : (c : After-middle) → let s = c.args.self.now in length (present_word s.n s.way (table_in s.factors.now s.c)) ≡ 2 * c.middle.result + 1
size c =
    let s = c.args.self.now in
    present-length s.n s.way (table_in s.factors.now s.c) s.walkable s.some s.few ∙ sym (ap (λ (m : ℕ). 2 * m + 1) c.middle.ensures.value)

pub loop-k-init : goal.loop-k-init
loop-k-init c =
    let a = c.args in
    let s = a.self.now in
    done-none s.n (present_word s.n s.way (table_in s.factors.now s.c)) (2 * c.middle.result + 1) (size (goal.at.loop-k-init c).After-middle)
    (state_of a.v.now) a.turned

pub loop-k-preserved : goal.loop-k-preserved
unfolding present_letter
loop-k-preserved c =
    let a = c.args in
    let s = a.self.now in
    done-more s.n (present_word s.n s.way (table_in s.factors.now s.c)) (2 * c.middle.result + 1) (size (goal.at.loop-k-preserved c).After-middle)
    (state_of a.v.now) a.turned c.loop-k.k (omega arith) c.in_turn.result c.in_turn.ensures.value (D (λ i. true)) (state_of c.loop-k.v) _ c.loop-k.invariant
    c.act.ensures

pub returns : goal.returns
returns c =
    let a = c.args in
    let s = a.self.now in
    done-all s.n (present_word s.n s.way (table_in s.factors.now s.c)) (2 * c.middle.result + 1) (size (goal.at.returns c).After-middle)
    (state_of a.v.now) a.turned c.loop-k.k (omega arith) (state_of c.loop-k.v) c.loop-k.invariant
