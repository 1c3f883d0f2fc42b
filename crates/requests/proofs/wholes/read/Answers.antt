-- `requests::wholes::read` meets its contract. The loop's invariant: the words passed are whole numbers, and they stand in the list.
use native.Mathlib.Nat.{mul-one}
use native.Mathlib.Omega.{arith}
use mathlib.Core.Path.{refl, sym, ap, ◌∙◌}
use mathlib.Core.List.{[], ◌∷◌}
use Rattle.requests.specs.Wholes.{single_number}
use Rattle.requests.proofs.Listed.{passed_none, passed-end, passed-many, passed-other, passed-more}
use Rattle.requests.proofs.wholes.read.Goals as goal

pub loop-next-init : goal.loop-next-init
loop-next-init c = passed_none c.requires

pub returns-then-count-ge-LONGEST : goal.returns-then-count-ge-LONGEST
returns-then-count-ge-LONGEST c = passed-many c.loop-next.invariant (omega arith) c.if-count-ge-LONGEST.true

pub returns-in_err-list : goal.returns-in_err-list
returns-in_err-list c = rw c.from_residual.ensures
    (passed-other c.loop-next.invariant (omega arith) (omega arith)
    (ap single_number (sym (rw c.word.ensures at c.spelled_member.ensures) ∙ c.in_err-list.was)))

pub loop-next-preserved : goal.loop-next-preserved
loop-next-preserved c = rw c.next_word-next.ensures
    (passed-more c.loop-next.invariant (omega arith) (omega arith) (_ ∷ [])
    (ap single_number (sym (rw c.word.ensures at c.spelled_member.ensures) ∙ c.in_ok-list.was)) refl (rw mul-one))

pub returns : goal.returns
returns c = passed-end c.loop-next.invariant (omega arith)
