-- The product is worked as steps joined and kept; the outcome is that of the definition, and demand 3 holds (`operation-done`).
use Rattle.operations.proofs.Results.{operation-done}
use Rattle.operations.proofs.Recipes.{product-ready}
use Rattle.operations.proofs.product.Goals as goal

pub returns : goal.returns
returns c =
    let a = c.args in
    let met =
    operation-done _ a.target _ _ (product-ready a.shelf c.requires a.left a.right a.target) a.shelf c.requires _ _
    (rw c.two-steps.ensures at c.joined.ensures.value) (c.keep.ensures.value, c.keep.ensures.good) in
    record { result_value = met.0; good = met.1.0; promised = met.1.1 }
