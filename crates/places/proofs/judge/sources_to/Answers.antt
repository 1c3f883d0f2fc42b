-- The tests of a recipe's sources and a target, by what any of its places has (`recipe-to`): the first line that refuses decides, and behind the others the
-- last.
use native.Mathlib.Omega.{arith}
use mathlib.Core.Path.{◌≡◌}
use lib.ListN.{length}
use borrow.Author.Rules.{rules}
use Rattle.std.proofs.lemmas.Grind.{common_steps}
use Rattle.arrays.proofs.Structs.{length-mapped}
use Rattle.places.proofs.Recipes.{recipe-to}
use Rattle.places.proofs.judge.sources_to.Goals as goal
use Rattle.places.proofs.judge.sources_to.Goals.{Start}

-- six slots
long : (c : Start) → length c.args.recipe.steps ≡ 6
long c = search (rules, length-mapped)

pub returns-in_err-refuse_if : goal.returns-in_err-refuse_if
returns-in_err-refuse_if c =
    rw (← (recipe-to c.args.shelf c.args.recipe (long (goal.at.returns-in_err-refuse_if c).Start) c.requires.0 c.requires.1 c.args.target))
    (grind (arith, common_steps))

pub returns-in_err-refuse_if-2 : goal.returns-in_err-refuse_if-2
returns-in_err-refuse_if-2 c =
    rw (← (recipe-to c.args.shelf c.args.recipe (long (goal.at.returns-in_err-refuse_if-2 c).Start) c.requires.0 c.requires.1 c.args.target))
    (grind (arith, common_steps))

pub returns-in_err-refuse_if-3 : goal.returns-in_err-refuse_if-3
returns-in_err-refuse_if-3 c =
    rw (← (recipe-to c.args.shelf c.args.recipe (long (goal.at.returns-in_err-refuse_if-3 c).Start) c.requires.0 c.requires.1 c.args.target))
    (grind (arith, common_steps))

pub returns-in_err-refuse_if-4 : goal.returns-in_err-refuse_if-4
returns-in_err-refuse_if-4 c =
    rw (← (recipe-to c.args.shelf c.args.recipe (long (goal.at.returns-in_err-refuse_if-4 c).Start) c.requires.0 c.requires.1 c.args.target))
    (grind (arith, common_steps))

pub returns : goal.returns
returns c =
    rw (← (recipe-to c.args.shelf c.args.recipe (long (goal.at.returns c).Start) c.requires.0 c.requires.1 c.args.target))
    (grind (arith, common_steps))
