-- `requests::request::of_line` meets its contract.
use mathlib.Core.Path.{refl, sym, ap, ◌∙◌}
use Rattle.requests.specs.Commands.{mode_of, form_by}
use Rattle.requests.specs.Requests.{with_tail}
use Rattle.requests.proofs.Tails.{request-is}
use Rattle.requests.proofs.request.of_line.Goals as goal

pub returns-in_err-form : goal.returns-in_err-form
returns-in_err-form c = rw c.from_residual.ensures
    (request-is _ c.mode_of-mode.result _ c.start-own.result _ (c.mode_of-mode.ensures ∙ ap mode_of c.word.ensures) c.start-own.ensures
    (sym c.in_err-form.was ∙ c.form_by.ensures ∙ ap (form_by _) c.word-2.ensures) refl)

pub returns-in_err-read : goal.returns-in_err-read
returns-in_err-read c = rw c.from_residual-in_err-read.ensures
    (ap (with_tail c.in_ok-form.form.command c.in_ok-form.form.tail) (rw c.in_err-read.was at c.read_numbers.ensures)
    ∙ request-is _ c.mode_of-mode.result _ c.start-own.result _ (c.mode_of-mode.ensures ∙ ap mode_of c.word.ensures) c.start-own.ensures
    (sym c.in_ok-form.was ∙ c.form_by.ensures ∙ ap (form_by _) c.word-2.ensures) c.next_word.ensures)

pub returns : goal.returns
returns c = c.with_tail.ensures
    ∙ ap (with_tail c.in_ok-form.form.command c.in_ok-form.form.tail) (rw c.in_ok-read.was at c.read_numbers.ensures)
    ∙ request-is _ c.mode_of-mode.result _ c.start-own.result _ (c.mode_of-mode.ensures ∙ ap mode_of c.word.ensures) c.start-own.ensures
    (sym c.in_ok-form.was ∙ c.form_by.ensures ∙ ap (form_by _) c.word-2.ensures) c.next_word.ensures
