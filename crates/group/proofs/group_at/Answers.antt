-- `group::group_at` meets its contract. The loop's invariant: the group at the start is what the bytes passed give, in front of the group behind them.
use Prim.Native.Nat.{◌-◌, ◌*◌, ◌^◌, ◌≤◌, ◌<◌}
use native.Mathlib.Omega.{arith}
use borrow.Author.Tests.{ltb-true, ltb-false}
use mathlib.Core.Path.{◌≡◌, sym, ◌∙◌}
use mathlib.Core.Logic.{◌⊎◌, inl, inr}
use lib.ListN.{length, get_or}
use Rattle.group.proofs.Reading.{product_small, weight-small, passed-end, passed-five, passed-zero, passed-value, passed-large, passed-more}
use Rattle.group.proofs.group_at.Goals as goal
use Rattle.group.proofs.group_at.Goals.{After-from-b, Joined-else-b-eq0, else-b-eq0-via-then-b-eq0+else-later, else-b-eq0-via-else-b-eq0}

-- the byte that was found
inside : (c : After-from-b) → c.loop-i.i < length c.args.s.now
inside c = ltb-true _ _ (sym (c.in-Some.ensures).lookup.0)

found : (c : After-from-b) → c.from-b.result ≡ get_or c.args.s.now c.loop-i.i 0
found c = c.from-b.ensures ∙ (c.in-Some.ensures).lookup.4 (omega arith) 0

weighted : (c : After-from-b) → (c.loop-i.weight * (c.from-b.result - 128) ≤ 2 ^ 35) × (c.loop-i.weight ≤ 2 ^ 28)
weighted c = (
  product_small c.loop-i.invariant _ (omega arith) (omega (arith, found c, c.type_inv.s c.loop-i.i)),
  weight-small c.loop-i.invariant (omega arith),
)

pub returns-in_default-clause-value : goal.returns-in_default-clause-value
returns-in_default-clause-value c = passed-end c.loop-i.invariant (omega arith) (ltb-false _ _ (sym (c.in_default.ensures).lookup.0))

pub returns-then-later-clause-value : goal.returns-then-later-clause-value
returns-then-later-clause-value c = let d = (goal.at.returns-then-later-clause-value c).After-from-b in
    passed-zero c.loop-i.invariant c.from-b.result (omega arith) (inside d) (found d) c.if-b-eq0.true c.if-later.true

-- a byte that is not 0, or the first
lone : (c : Joined-else-b-eq0) → (c.from-b.result ≡ 0 → ⊥) ⊎ (c.loop-i.i ≡ 0)
lone c = elim c.else-b-eq0.branch [ else-b-eq0-via-then-b-eq0+else-later w ↦ inr w.if-later.false | else-b-eq0-via-else-b-eq0 w ↦ inl w.if-b-eq0.false ]

pub returns-then-fits-clause-value : goal.returns-then-fits-clause-value
returns-then-fits-clause-value c = let e = goal.at.returns-then-fits-clause-value c in
    passed-value c.loop-i.invariant c.from-b.result (omega arith) (inside e.After-from-b) (found e.After-from-b) c.if-b-lt128.true (lone e.Joined-else-b-eq0)
    c.if-fits.true

pub returns-then-b-lt128-clause-value : goal.returns-then-b-lt128-clause-value
returns-then-b-lt128-clause-value c = let e = goal.at.returns-then-b-lt128-clause-value c in
    passed-large c.loop-i.invariant c.from-b.result (omega arith) (inside e.After-from-b) (found e.After-from-b) c.if-b-lt128.true (lone e.Joined-else-b-eq0)
    c.if-fits.false

pub overflow_add-value : goal.overflow_add-value
overflow_add-value c = omega (arith, weighted (goal.at.overflow_add-value c).After-from-b)

pub loop-i-preserved : goal.loop-i-preserved
loop-i-preserved c = let d = (goal.at.loop-i-preserved c).After-from-b in
    passed-more c.loop-i.invariant c.from-b.result (omega arith) (inside d) (found d) c.if-b-lt128.false (omega (arith, found d, c.type_inv.s c.loop-i.i))

pub returns-clause-value : goal.returns-clause-value
returns-clause-value c = passed-five c.loop-i.invariant c.loop-i-test.false
