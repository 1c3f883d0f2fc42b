-- The matrix of powers is worked and kept; the outcome is that of the definition, and what is promised of the stamps holds (`build-done`).
use Rattle.operations.proofs.Building.{build-done}
use Rattle.operations.proofs.build.Goals as goal

pub returns : goal.returns
returns c =
    let a = c.args in
    let met =
    build-done a.shelf a.target a.stamps.now c.requires _ _ _ c.built.ensures.value (c.keep.ensures.value, c.keep.ensures.good) c.filled.ensures in
    record { result_value = met.0; good = met.1.0; build_promised = met.1.1 }
