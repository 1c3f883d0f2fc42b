-- `mistimed` meets its contract. The invariant: the first k stamps are passed, the last of them being `before` (`Passed`).
use native.Mathlib.Omega.{arith}
use mathlib.Core.Path.{sym}
use borrow.Author.Tests.{eqb-true, eqb-false}
use lib.ListN.{length}
use Rattle.stamps.proofs.Timed.{none-mistimed, many-mistimed, passed_none, passed-end, passed-low, passed-large, passed-more}
use Rattle.stamps.proofs.mistimed.Goals as goal
use Rattle.stamps.proofs.mistimed.Goals.{then-is_empty-via-then-is_empty, then-is_empty-via-else-is_empty+then-stamps-gt8}
use Rattle.stamps.proofs.mistimed.Goals.{then-not_above-via-then-not_above, then-not_above-via-else-not_above+then-too_large}

pub returns-then-is_empty : goal.returns-then-is_empty
returns-then-is_empty c = elim c.then-is_empty.branch [
  | then-is_empty-via-then-is_empty w ↦ sym (none-mistimed _ (omega (arith, eqb-true (length c.args.stamps.now) 0 (sym w.if-is_empty.ensures))))
  | then-is_empty-via-else-is_empty+then-stamps-gt8 w ↦ sym (many-mistimed _ w.if-stamps-gt8.true)
]

pub loop-stamp-init : goal.loop-stamp-init
loop-stamp-init c = passed_none _ (omega (arith, eqb-false (length c.args.stamps.now) 0 (sym c.if-is_empty.ensures))) (omega arith)

pub returns-then-not_above : goal.returns-then-not_above
returns-then-not_above c = elim c.then-not_above.branch [
  | then-not_above-via-then-not_above w ↦ sym (passed-low _ c.loop-stamp.invariant c.loop-stamp-test.true w.if-not_above.true)
  | then-not_above-via-else-not_above+then-too_large w ↦
      sym (passed-large _ c.loop-stamp.invariant c.loop-stamp-test.true w.if-not_above.false w.if-too_large.true)
]

pub loop-stamp-preserved : goal.loop-stamp-preserved
loop-stamp-preserved c = passed-more _ c.loop-stamp.invariant c.loop-stamp-test.true c.if-not_above.false c.if-too_large.false

pub returns : goal.returns
returns c = sym (passed-end _ c.loop-stamp.invariant c.loop-stamp-test.false)
