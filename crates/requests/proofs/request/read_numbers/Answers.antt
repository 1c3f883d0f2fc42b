-- `requests::request::read_numbers` meets its contract. The loop's invariant: the numbers of the letters passed are read.
use native.Mathlib.Omega.{arith}
use mathlib.Core.Path.{refl, sym, ◌∙◌}
use Rattle.requests.proofs.Numbers.{numbered-none, numbered-end, numbered-other, numbered_more}
use Rattle.requests.proofs.request.read_numbers.Goals as goal

pub loop-k-init : goal.loop-k-init
loop-k-init c = numbered-none _ _ _ _ c.told-letters refl

pub returns-in_err-values : goal.returns-in_err-values
returns-in_err-values c = rw c.from_residual.ensures
    (numbered-other c.loop-k.invariant c.loop-k-test.true (sym c.number_at.ensures ∙ c.in_err-values.was))

pub loop-k-preserved : goal.loop-k-preserved
loop-k-preserved c = rw c.behind-next.ensures
    (numbered_more c.loop-k.invariant c.loop-k-test.true _ (sym c.number_at.ensures ∙ c.in_ok-values.was))

pub returns : goal.returns
returns c = numbered-end c.loop-k.invariant (omega arith)
