-- `is_good` meets its contract. The loops' invariants say what is passed: the places before p, and of place p the numbers before k; behind its rows, where no
-- fault was gathered. The lengths of the two arrays are their types'.
use native.Mathlib.Omega.{arith}
use mathlib.Core.Path.{sym, subst, ◌∙◌}
use mathlib.Core.Bool.{false≢true}
use borrow.Author.Tests.{not-true, not-false}
use Rattle.arrays.proofs.Structs.{length-mapped}
use Rattle.places.specs.Shelf.{rows_at}
use Rattle.places.proofs.Checking.{tested-good}
use Rattle.places.proofs.Passing.{seen_none, Passed, all-passed, rows-failed, place-passed, number-failed, number_passed, gathered_none}
use Rattle.places.proofs.Passing.{gathered-more}
use borrow.Author.Rules.{rules}
use mathlib.Core.Bool.{not}
use mathlib.Core.Path.{ap}
use Rattle.places.proofs.check.is_good.Goals as goal

pub loop-p-init : goal.loop-p-init
loop-p-init c = record { rows = seen_none _ 8; numbers = seen_none _ 512 }

pub returns-then-n-gt8 : goal.returns-then-n-gt8
unfolding rows_at
returns-then-n-gt8 c = record { value = sym (rows-failed _ c.loop-p.p (search rules) c.if-n-gt8.true); good = λ h. absurd (false≢true h) }

pub loop-k-init : goal.loop-k-init
loop-k-init c = (search rules, c.loop-p.invariant)

pub returns-then-not-sound : goal.returns-then-not-sound
unfolding rows_at
returns-then-not-sound c =
    let failed = sym c.sound.ensures ∙ not-true _ (ap not c.if-not-sound.true) in
    record {
      value = sym (number-failed _ c.loop-p.p (search rules) c.loop-k.k (search rules) _ c.back.ensures.value failed);
      good = λ h. absurd (false≢true h);
    }

pub loop-k-preserved : goal.loop-k-preserved
unfolding rows_at
loop-k-preserved c = let passed = sym c.sound.ensures ∙ not-false _ (ap not c.if-not-sound.false) in
    (search rules, number_passed _ _ (search rules) _ (search rules) _ c.back.ensures.value c.loop-k.invariant.1 passed)

pub loop-k-2-init : goal.loop-k-2-init
loop-k-2-init c = (search rules, search rules, gathered_none _ (subst (Passed _ _) (omega arith) c.loop-k.invariant.1))

pub loop-k-2-preserved : goal.loop-k-2-preserved
unfolding rows_at
loop-k-2-preserved c =
    (search rules, search rules, gathered-more _ c.loop-k-2.invariant.2 (search rules) c.loop-k-2.invariant.0 (search rules) _ c.fault-faults.ensures)

pub returns-then-faults-ne0 : goal.returns-then-faults-ne0
returns-then-faults-ne0 c = record { value = sym (c.loop-k-2.invariant.2.some c.if-faults-ne0.true); good = λ h. absurd (false≢true h) }

pub loop-p-preserved : goal.loop-p-preserved
unfolding rows_at
loop-p-preserved c = let w = c.loop-k-2.invariant.2.none c.if-faults-ne0.false in
    place-passed _ _ (search rules) (subst (Passed _ _) (omega arith) w) c.if-n-gt8.false

pub returns : goal.returns
returns c =
    let e = all-passed _ _ c.loop-p.invariant (search rules) in
    record { value = sym e; good = λ h. tested-good _ (search (rules, length-mapped)) (search (rules, length-mapped)) e }
