-- The recipe is worked and kept; the outcome is that of the definition, and demand 3 holds (`operation-done`).
use lib.ListN.{length}
use mathlib.Core.Path.{◌≡◌}
use borrow.Author.Rules.{rules}
use Rattle.arrays.proofs.Structs.{length-mapped}
use Rattle.operations.proofs.Results.{operation-done}
use Rattle.operations.proofs.Recipes.{recipe-ready}
use Rattle.operations.proofs.perform_recipe.Goals as goal

pub returns : goal.returns
returns c =
    let a = c.args in
    let long : length a.recipe.steps ≡ 6 = search (rules, length-mapped) in
    let met =
    operation-done _ a.target _ _ (recipe-ready a.shelf c.requires a.recipe a.target long) a.shelf c.requires _ _ c.counted.ensures.value
    (c.keep.ensures.value, c.keep.ensures.good) in
    record { result_value = met.0; good = met.1.0; promised = met.1.1 }
