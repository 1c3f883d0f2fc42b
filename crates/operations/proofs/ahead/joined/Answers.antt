-- The forecast of steps joined asks for the rows of the first source, which its tests have shown (`alone-rows`).
use mathlib.Core.Path.{◌≡◌, sym, ◌∙◌}
use lib.ListN.{length}
use native.Mathlib.Omega.{arith}
use borrow.Author.Rules.{rules}
use Rattle.arrays.proofs.Structs.{length-mapped}
use Rattle.operations.proofs.Recipes.{alone-rows}
use Rattle.operations.proofs.ahead.joined.Goals as goal
use Rattle.operations.proofs.ahead.joined.Goals.{Start}

-- six slots
long : (c : Start) → length c.args.recipe.steps ≡ 6
long c = search (rules, length-mapped)

pub of_sizes-requires : goal.of_sizes-requires
of_sizes-requires c =
    let a = c.args in
    let z =
    alone-rows a.shelf a.recipe (long (goal.at.of_sizes-requires c).Start) c.requires.1 c.requires.2 c.requires.0
    (sym c.sources_alone.ensures ∙ c.in_ok-sources_alone.was) in
    rw c.rows_at-n.ensures (c.requires.2, z.0, z.1, omega (arith, z.1))
