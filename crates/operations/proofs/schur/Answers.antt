-- The Schur complement is worked and kept; the outcome is that of the definition, and demand 3 holds (`operation-done`).
use Rattle.operations.proofs.Results.{schur-ready, operation-done}
use Rattle.operations.proofs.schur.Goals as goal

pub returns : goal.returns
returns c =
    let a = c.args in
    let met =
    operation-done _ a.target _ _ (schur-ready a.shelf c.requires a.source a.k a.target) a.shelf c.requires _ _ c.schur.ensures.value
    (c.keep.ensures.value, c.keep.ensures.good) in
    record { result_value = met.0; good = met.1.0; promised = met.1.1 }
