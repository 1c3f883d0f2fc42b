-- `word::minor` meets its contract: the word of one plain step is that of the matrix.
use mathlib.Core.Path.{◌∙◌}
use Rattle.words.specs.Operation.{joined_word}
use Rattle.operations.proofs.Made.{made-minor}
use Rattle.operations.proofs.word.minor.Goals as goal

pub returns : goal.returns
unfolding joined_word
returns c =
    let minor = rw (c.from-i.ensures, c.from-j.ensures) at c.minor.ensures.number_value in
    minor ∙ made-minor c.of_source-plain.ensures c.args.rows c.args.columns
