-- A load, by the shelf that it makes (`load-answered`).
use native.Mathlib.Omega.{arith}
use mathlib.Core.Path.{ap, ◌∙◌}
use Rattle.group.specs.Group.{Bytes}
use Rattle.shelf.specs.Changed.{changed_by}
use Rattle.shelf.proofs.Loading.{load-answered}
use Rattle.shelf.proofs.load.Goals as goal

pub returns : goal.returns
returns c =
    let a = c.args in
    let b : Bytes a.bytes.now = λ i. omega (arith, c.type_inv.bytes i) in
    let met = load-answered a.shelf a.place a.bytes.now c.requires b _ (c.answered.ensures ∙ ap (changed_by a.shelf) c.loaded.ensures) in
    record { result_value = met.0; good = met.1 }
