-- `code` meets its contract: the three parts of a move lie in digits of their own, and fit 16 bits.
use borrow.Author.Rules.{rules}
use Rattle.walk.specs.Lent.{code_of}
use Rattle.walk.proofs.source.code.Goals as goal

pub returns : goal.returns
unfolding code_of
returns c = search rules
