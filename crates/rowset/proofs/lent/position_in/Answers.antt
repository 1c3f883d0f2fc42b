-- `position_in` meets its contract: by what the table holds.
use mathlib.Core.Path.{◌≡◌, ◌∙◌}
use native.Mathlib.Omega.{arith}
use Rattle.rowset.specs.Mask.{position_of}
use Rattle.rowset.proofs.Positions.{position-below}
use Rattle.rowset.proofs.lent.position_in.Goals as goal

pub returns : goal.returns
returns c =
    let p : c.wide.result ≡ position_of c.args.s = c.wide.ensures.value ∙ c.requires.1.entry c.args.s c.requires.0 in
    record { value = p; upper_bound = omega (arith, position-below c.args.s c.requires.0) }
