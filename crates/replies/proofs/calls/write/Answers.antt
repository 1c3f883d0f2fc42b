-- `replies::calls::write` meets its contract: so many bytes are lent, and the call leaves the shelf as it is.
use Prim.Native.Nat.{ℕ, ◌≤◌}
use native.Mathlib.Omega.{arith}
use mathlib.Core.List.{List}
use lib.ListN.{take, replicate}
use Rattle.lines.specs.Ascii.{ascii}
use Rattle.shelf.specs.Run.{run, write}
use Rattle.replies.proofs.Lent.{take-replicate}
use Rattle.replies.proofs.Replies.{bytes-as, write_keeps}
use Rattle.replies.proofs.calls.write.Goals as goal

pub returns-clause-replied : goal.returns-clause-replied
unfolding run
returns-clause-replied c =
    let lent : List ℕ = take c.lent.result (replicate 512 0xa5) in
    let few : c.lent.result ≤ 512 = omega (arith, c.lent.ensures) in
    let done = bytes-as (ascii "wrote") (run c.args.shelf (write c.args.place lent)) (write_keeps _ _ _) c.write-written.ensures.result_value
    c.write-written.ensures.out_after c.wrote.ensures.replied in
    rw (take-replicate c.lent.result 512 0xa5 few, c.lent.ensures) at done
