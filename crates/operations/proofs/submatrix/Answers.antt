-- The submatrix, its sets as masks, is worked and kept; the outcome is that of the definition, and demand 3 holds (`operation-done`).
use Rattle.operations.proofs.Results.{submatrix-ready, operation-done}
use Rattle.operations.proofs.submatrix.Goals as goal

pub returns : goal.returns
returns c =
    let a = c.args in
    let met =
    operation-done _ a.target _ _ (submatrix-ready a.shelf c.requires a.source a.rows a.columns a.target) a.shelf c.requires _ _
    c.submatrix.ensures.value (c.keep.ensures.value, c.keep.ensures.good) in
    record { result_value = met.0; good = met.1.0; promised = met.1.1 }
