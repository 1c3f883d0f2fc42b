-- The tests of a recipe's sources, by what any of its places has (`recipe-alone`): the first line that refuses decides, and behind the others the last.
use native.Mathlib.Omega.{arith}
use mathlib.Core.Path.{◌≡◌}
use lib.ListN.{length}
use borrow.Author.Rules.{rules}
use Rattle.std.proofs.lemmas.Grind.{common_steps}
use Rattle.arrays.proofs.Structs.{length-mapped}
use Rattle.places.proofs.Recipes.{recipe-alone}
use Rattle.places.proofs.judge.sources_alone.Goals as goal
use Rattle.places.proofs.judge.sources_alone.Goals.{Start}

-- six slots
long : (c : Start) → length c.args.recipe.steps ≡ 6
long c = search (rules, length-mapped)

pub returns-in_err-refuse_if : goal.returns-in_err-refuse_if
returns-in_err-refuse_if c =
    rw (← (recipe-alone c.args.shelf c.args.recipe (long (goal.at.returns-in_err-refuse_if c).Start) c.requires.0 c.requires.1)) (grind (arith, common_steps))

pub returns-in_err-refuse_if-2 : goal.returns-in_err-refuse_if-2
returns-in_err-refuse_if-2 c =
    rw (← (recipe-alone c.args.shelf c.args.recipe (long (goal.at.returns-in_err-refuse_if-2 c).Start) c.requires.0 c.requires.1)) (grind (arith, common_steps))

pub returns : goal.returns
returns c =
    rw (← (recipe-alone c.args.shelf c.args.recipe (long (goal.at.returns c).Start) c.requires.0 c.requires.1)) (grind (arith, common_steps))
