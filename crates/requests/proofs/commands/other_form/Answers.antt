-- `requests::commands::other_form` meets its contract.
use mathlib.Core.Path.{refl}
use Rattle.lines.specs.Words.{same}
use Rattle.requests.specs.Commands.{lacks, differ}
use Rattle.requests.proofs.commands.other_form.Goals as goal

pub form_in-requires : goal.form_in-requires
unfolding differ lacks same
form_in-requires c = refl

pub returns : goal.returns
returns c = c.form_in.ensures
