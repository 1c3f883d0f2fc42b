-- `lines::put_whole` meets its contract.
use native.Mathlib.Omega.{arith}
use mathlib.Core.Path.{◌∙◌}
use Rattle.lines.proofs.Numerals.{digits_decimal}
use Rattle.lines.proofs.writing.put_whole.Goals as goal

pub returns : goal.returns
returns c = let e = c.decimal-k.ensures.digits ∙ digits_decimal _ _ (omega (arith, c.ranges.n)) c.decimal-k.ensures.len in
    rw e at c.put.ensures
