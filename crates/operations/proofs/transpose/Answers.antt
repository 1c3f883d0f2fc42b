-- The transpose is worked and kept; the outcome is that of the definition (`transpose-kept`).
use Rattle.operations.proofs.Proposals.{transpose-kept}
use Rattle.operations.proofs.transpose.Goals as goal

pub returns : goal.returns
returns c =
    let a = c.args in
    let met = transpose-kept a.shelf a.source a.target _ _ c.transposed.ensures.value (c.keep.ensures.value, c.keep.ensures.good) in
    record { result_value = met.0; good = met.1 }
