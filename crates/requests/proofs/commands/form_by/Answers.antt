-- `requests::commands::form_by` meets its contract.
use mathlib.Core.Path.{sym, ap, ◌∙◌}
use Rattle.std.specs.Prelude.{option_map}
use mathlib.Core.List.{◌++◌}
use Rattle.requests.specs.declared.commands.Mode.TheVariants.{Direct}
use Rattle.requests.specs.Commands.{operation_forms, first_forms, second_forms, no_form, form_from, without_target, form_by}
use Rattle.requests.proofs.Forms.{form-or}
use Rattle.requests.proofs.commands.form_by.Goals as goal

pub returns-in-Direct : goal.returns-in-Direct
unfolding form_by
returns-in-Direct c =
    let operation = rw c.in-Direct.is at c.operation_form-operation.ensures in
    rw (c.in-Direct.is, c.or.ensures, c.other_form.ensures, operation)
    (sym (form-or c.args.word.now (first_forms ++ second_forms) (form_from c.args.word.now (operation_forms Direct) no_form)))

pub returns-in_err-operation-in-Foretold : goal.returns-in_err-operation-in-Foretold
unfolding form_by
returns-in_err-operation-in-Foretold c =
    let operation = sym c.in_err-operation-in-Foretold.was ∙ rw c.in-Foretold.is at c.operation_form-operation.ensures in
    rw (c.from_residual.ensures, c.in-Foretold.is) (ap (option_map without_target) operation)

pub returns-in_ok-operation-in-Foretold : goal.returns-in_ok-operation-in-Foretold
unfolding form_by
returns-in_ok-operation-in-Foretold c =
    let operation = sym c.in_ok-operation-in-Foretold.was ∙ rw c.in-Foretold.is at c.operation_form-operation.ensures in
    rw (c.without_target.ensures, c.in-Foretold.is) (ap (option_map without_target) operation)
