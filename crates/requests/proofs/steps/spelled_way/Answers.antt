-- `requests::steps::spelled_way` meets its contract.
use mathlib.Core.Path.{sym, ◌∙◌}
use Rattle.lines.proofs.Words.{same-is}
use Rattle.requests.specs.Steps.{spelled_way}
use Rattle.requests.proofs.steps.spelled_way.Goals as goal

pub returns-then-same : goal.returns-then-same
unfolding spelled_way
returns-then-same c = rw (sym (same-is _ _ _ c.same.ensures) ∙ c.if-same.true)

pub returns-then-same-2 : goal.returns-then-same-2
unfolding spelled_way
returns-then-same-2 c = rw (sym (same-is _ _ _ c.same.ensures) ∙ c.if-same.false, sym (same-is _ _ _ c.same-2.ensures) ∙ c.if-same-2.true)

pub returns-then-same-3 : goal.returns-then-same-3
unfolding spelled_way
returns-then-same-3 c = rw (
  sym (same-is _ _ _ c.same.ensures) ∙ c.if-same.false,
  sym (same-is _ _ _ c.same-2.ensures) ∙ c.if-same-2.false,
  sym (same-is _ _ _ c.same-3.ensures) ∙ c.if-same-3.true,
)

pub returns-then-same-4 : goal.returns-then-same-4
unfolding spelled_way
returns-then-same-4 c = rw (
  sym (same-is _ _ _ c.same.ensures) ∙ c.if-same.false,
  sym (same-is _ _ _ c.same-2.ensures) ∙ c.if-same-2.false,
  sym (same-is _ _ _ c.same-3.ensures) ∙ c.if-same-3.false,
  sym (same-is _ _ _ c.same-4.ensures) ∙ c.if-same-4.true,
)

pub returns : goal.returns
unfolding spelled_way
returns c = rw (
  sym (same-is _ _ _ c.same.ensures) ∙ c.if-same.false,
  sym (same-is _ _ _ c.same-2.ensures) ∙ c.if-same-2.false,
  sym (same-is _ _ _ c.same-3.ensures) ∙ c.if-same-3.false,
  sym (same-is _ _ _ c.same-4.ensures) ∙ c.if-same-4.false,
)
