-- `requests::commands::mode_of` meets its contract.
use mathlib.Core.Path.{sym, ◌∙◌}
use Rattle.requests.specs.Commands.{mode_of}
use Rattle.lines.proofs.Words.{same-is}
use Rattle.requests.proofs.commands.mode_of.Goals as goal

pub returns-then-same : goal.returns-then-same
unfolding mode_of
returns-then-same c = rw (sym (same-is _ _ _ c.same.ensures) ∙ c.if-same.true)

pub returns : goal.returns
unfolding mode_of
returns c = rw (sym (same-is _ _ _ c.same.ensures) ∙ c.if-same.false)
