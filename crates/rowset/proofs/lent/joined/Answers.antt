-- `joined` meets its contract: the two are copied one after the other into the first places.
use borrow.Author.Rules.{rules}
use Rattle.rowset.proofs.Blocks.{copied}
use Rattle.rowset.proofs.lent.joined.Goals as goal

pub returns : goal.returns
returns c =
    copied _ _ _ _ c.copy_from_slice.ensures.after c.copy_from_slice-2.ensures.after (search rules) (search rules) c.requires.0 c.requires.1
