-- `any_outside` meets its contract: the iterator's `any` is the definition's "or".
use borrow.Author.Rules.{rules}
use mathlib.Core.Path.{refl}
use lib.ListN.{take}
use Rattle.std.proofs.lemmas.List.Recursion.{or_is}
use Rattle.items.proofs.Fronts.{unset}
use Rattle.lists.specs.Lists.{item_outside, any_outside}
use Rattle.lists.proofs.any_outside.Goals as goal

pub returns : goal.returns
unfolding any_outside
returns c = or_is any_outside item_outside refl (λ _ _. refl) (take c.args.n c.args.v) unset _ (search rules) (search rules)
