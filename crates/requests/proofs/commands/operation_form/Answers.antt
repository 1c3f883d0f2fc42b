-- `requests::commands::operation_form` meets its contract.
use mathlib.Core.Path.{refl}
use Rattle.lines.specs.Words.{same}
use Rattle.requests.specs.Commands.{lacks, differ}
use Rattle.requests.proofs.commands.operation_form.Goals as goal

pub form_in-requires : goal.form_in-requires
unfolding differ lacks same
form_in-requires c = refl

pub returns : goal.returns
returns c =
    rw (
      c.operation-product.ensures,
      c.operation-inverse.ensures,
      c.operation-converse.ensures,
      c.operation-transpose.ensures,
      c.operation-submatrix.ensures,
      c.operation-schur.ensures,
    ) at c.form_in.ensures
