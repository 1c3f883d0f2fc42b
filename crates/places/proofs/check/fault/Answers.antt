-- `fault` meets its contract.
use Rattle.places.proofs.Passing.{fault-zero}
use Rattle.places.proofs.check.fault.Goals as goal

pub returns : goal.returns
returns c = fault-zero _
