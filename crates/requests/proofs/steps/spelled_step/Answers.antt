-- `requests::steps::spelled_step` meets its contract.
use mathlib.Core.Path.{refl, sym, ◌∙◌}
use Rattle.requests.proofs.Spelled.{step_is}
use Rattle.requests.proofs.steps.spelled_step.Goals as goal

pub returns-in_err-place : goal.returns-in_err-place
returns-in_err-place c = c.from_residual.ensures
    ∙ step_is c.args.word.now _ _ _ _ c.before-a.ensures.value refl (sym c.in_err-place.was ∙ rw c.from.ensures at c.read_whole.ensures.value) refl

pub returns-in_err-way : goal.returns-in_err-way
returns-in_err-way c = c.from_residual-in_err-way.ensures
    ∙ step_is c.args.word.now _ _ _ _ c.before-a.ensures.value c.behind.ensures (sym c.in_ok-place.was ∙ rw c.from.ensures at c.read_whole.ensures.value)
    (sym c.in_err-way.was ∙ c.spelled_way.ensures)

pub returns : goal.returns
returns c = rw c.code.ensures
    (step_is c.args.word.now _ _ _ _ c.before-a.ensures.value c.behind.ensures (sym c.in_ok-place.was ∙ rw c.from.ensures at c.read_whole.ensures.value)
    (sym c.in_ok-way.was ∙ c.spelled_way.ensures))
