-- The re-signed inverse is worked as steps joined and kept; the outcome is that of the definition, and demand 3 holds (`operation-done`).
use Rattle.walk.specs.declared.Way.TheVariants.{Inverted}
use Rattle.operations.proofs.Results.{operation-done}
use Rattle.operations.proofs.Recipes.{whole_ready}
use Rattle.operations.proofs.inverse.Goals as goal

pub returns : goal.returns
returns c =
    let a = c.args in
    let met =
    operation-done _ a.target _ _ (whole_ready a.shelf c.requires Inverted a.source a.target) a.shelf c.requires _ _
    (rw c.one-steps.ensures at c.joined.ensures.value) (c.keep.ensures.value, c.keep.ensures.good) in
    record { result_value = met.0; good = met.1.0; promised = met.1.1 }
