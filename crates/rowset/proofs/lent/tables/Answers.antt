-- `tables` meets its contract. The loop's invariant: the blocks of the rows below l are filled.
use borrow.Author.Rules.{rules}
use mathlib.Core.Path.{◌≡◌}
use Prim.Native.Nat.{◌+◌, ◌*◌}
use native.Mathlib.Omega.{arith}
use Rattle.rowset.proofs.Blocks.{filled_none, filled-all}
use Rattle.rowset.proofs.lent.tables.Goals as goal

pub loop-l-init : goal.loop-l-init
loop-l-init c = (omega arith, filled_none _ 64 _ (omega arith) c.joined-t.ensures.0 c.joined-t.ensures.1)

pub loop-l-preserved : goal.loop-l-preserved
loop-l-preserved c = let e : (c.loop-l.l + 1) * 64 ≡ c.loop-l.l * 64 + 64 = omega arith in
    (omega arith, rw e c.fill.ensures)

pub returns : goal.returns
returns c = filled-all c.loop-l.invariant.1 (search rules) (omega arith)
