-- `tnb_reversals` meets its contract.
use mathlib.Core.Path.{ap, ◌∙◌}
use Rattle.tnb_c.specs.Answers.{length_of}
use Rattle.tnb_c.proofs.tnb_reversals.Goals as goal

pub returns : goal.returns
returns c = c.into.ensures ∙ ap length_of c.count_reversals.ensures
