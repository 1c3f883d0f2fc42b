-- `requests::commands::form_in` meets its contract: the entry that `find` gives is the first that has the word.
use mathlib.Core.Path.{ap, ◌∙◌}
use Rattle.std.specs.Prelude.{option_map}
use Rattle.std.proofs.lemmas.Iterator.{YieldsList-from_slice}
use Rattle.std.proofs.lemmas.Iterator.Search.{find_from_yields_List}
use borrow.Author.Rules.{rules}
use Rattle.lines.specs.Words.{same}
use Rattle.lines.proofs.Words.{same-is}
use Rattle.requests.proofs.Forms.{form_of, first-form}
use Rattle.requests.proofs.commands.form_in.Goals as goal

pub returns-in_err-command : goal.returns-in_err-command
returns-in_err-command c =
    let found = find_from_yields_List (λ e. same c.args.word.now e.0.now) _ _ c.find.result c.find.ensures.ran (YieldsList-from_slice c.args.table.now cc)
    (λ x b q k. (search rules, same-is _ _ _ (search rules))) in
    rw c.from_residual.ensures (ap (option_map form_of) (rw c.in_err-command.was at found) ∙ first-form c.args.word.now c.args.table.now c.requires)

pub returns : goal.returns
returns c =
    let found = find_from_yields_List (λ e. same c.args.word.now e.0.now) _ _ c.find.result c.find.ensures.ran (YieldsList-from_slice c.args.table.now cc)
    (λ x b q k. (search rules, same-is _ _ _ (search rules))) in
    ap (option_map form_of) (rw c.in_ok-command.was at found) ∙ first-form c.args.word.now c.args.table.now c.requires
