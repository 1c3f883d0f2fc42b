-- `requests::items::read` meets its contract. The loop's invariant: the words passed are items, and their numbers stand in the list.
use native.Mathlib.Omega.{arith}
use mathlib.Core.Path.{sym, ap, ◌∙◌}
use Rattle.requests.specs.Items.{three_numbers}
use Rattle.requests.proofs.Triples.{passed-item}
use Rattle.requests.proofs.Listed.{passed_none, passed-end, passed-many, passed-other}
use borrow.Author.Rules.{rules}
use mir.Syntax.{w64}
use mir.Val.{SFits}
use Rattle.std.proofs.lemmas.Int.{to_z-of_z}
use Rattle.requests.proofs.items.read.Goals as goal

pub loop-next-init : goal.loop-next-init
loop-next-init c = passed_none c.requires

pub returns-then-count-ge-LONGEST : goal.returns-then-count-ge-LONGEST
returns-then-count-ge-LONGEST c = passed-many c.loop-next.invariant (omega arith) c.if-count-ge-LONGEST.true

pub returns-in_err-item : goal.returns-in_err-item
returns-in_err-item c = rw c.from_residual.ensures
    (passed-other c.loop-next.invariant (omega arith) (omega arith)
    (ap three_numbers (sym (rw c.word.ensures at c.spelled_item.ensures) ∙ c.in_err-item.was)))

pub loop-next-preserved : goal.loop-next-preserved
loop-next-preserved c =
    let i = c.in_ok-item.item in
    let x : SFits w64 i.sign = search rules in
    let y : SFits w64 i.mantissa = search rules in
    let z : SFits w64 i.exponent = search rules in
    rw (c.next_word-next.ensures, to_z-of_z w64 i.sign x, to_z-of_z w64 i.mantissa y, to_z-of_z w64 i.exponent z)
    (passed-item c.loop-next.invariant (omega arith) (omega arith) i (sym (rw c.word.ensures at c.spelled_item.ensures) ∙ c.in_ok-item.was))

pub returns : goal.returns
returns c = passed-end c.loop-next.invariant (omega arith)
