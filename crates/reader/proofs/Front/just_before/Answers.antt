-- `reader::Front::just_before` meets its contract: the factor that it reads is one of those in front, and it stands where the definition has it.
use Prim.Native.Nat.{◌-◌}
use native.Mathlib.Omega.{arith}
use mathlib.Core.Path.{sym, ◌∙◌}
use lib.ListN.{length}
use Rattle.number.specs.Number.{zero_number}
use Rattle.arrays.proofs.Filled.{read-any}
use Rattle.reader.proofs.Continued.{before-below, before_above, row-above, column-left}
use Rattle.reader.proofs.Front.just_before.Goals as goal

pub returns-then-k-self : goal.returns-then-k-self
returns-then-k-self c = let f = c.args.self.now in let L = f.factors.now in let k = length L in
    read-any L (k - f.rows) _ zero_number (omega (arith, row-above f.rows k c.if-k-self.true))
    ∙ sym (before-below f.rows k L c.if-k-self.true)

pub returns-else-k-self : goal.returns-else-k-self
returns-else-k-self c = let f = c.args.self.now in let L = f.factors.now in let k = length L in let h = c.requires in
    read-any L (k - 1) _ zero_number (omega (arith, column-left f.rows k (omega arith)))
    ∙ sym (before_above f.rows k L (omega arith))
