-- `reader::Input::matrix` meets its contract. The loop's invariant: the factors read so far, and those behind the offset, make what the definition reads.
use borrow.Author.Rules.{rules}
use mathlib.Core.Path.{◌∙◌}
use Rattle.reader.proofs.Reading.{read_more, read-fault, read_all}
use Rattle.reader.proofs.Input.matrix.Goals as goal

pub returns-in_err-numbers-clause-value : goal.returns-in_err-numbers-clause-value
returns-in_err-numbers-clause-value c =
    let i = c.loop-k.invariant in
    let e = read-fault i.1 c.loop-k-test.true c.in_err-numbers.field-0.0 (rw i.0 at c.in_err-numbers.ensures.value) in
    search rules

pub loop-k-preserved : goal.loop-k-preserved
loop-k-preserved c =
    let i = c.loop-k.invariant in
    (c.factor.ensures.kept ∙ i.0, read_more i.1 c.loop-k-test.true c.in_ok-numbers.field-0 c.factor.new.self.at (rw i.0 at c.in_ok-numbers.ensures.value))

pub returns-clause-value : goal.returns-clause-value
returns-clause-value c = read_all c.loop-k.invariant.1 c.loop-k-test.false
