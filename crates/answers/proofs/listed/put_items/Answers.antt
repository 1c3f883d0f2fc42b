-- `answers::put_items` meets its contract.
use Prim.Native.Nat.{◌-◌}
use lib.ListN.{length, drop, length-drop}
use lib.Seq.{take_all}
use native.Mathlib.Omega.{arith}
use Rattle.lines.proofs.Text.{puts-behind}
use Rattle.answers.proofs.Lists.{items-none, items-some}
use Rattle.answers.proofs.listed.put_items.Goals as goal

pub returns-then-list-lt3 : goal.returns-then-list-lt3
returns-then-list-lt3 c = rw (items-none c.args.list.now c.if-list-lt3.true) c.put.ensures

pub returns : goal.returns
returns c = let whole = take_all (length c.args.list.now - 3) (drop 3 c.args.list.now) (simp length-drop (omega arith)) in
    rw (items-some c.args.list.now (omega arith)) (puts-behind c.put_item-second.ensures (rw whole at c.put_more.ensures))
