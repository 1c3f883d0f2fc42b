-- `replies::calls::sentence` meets its contract: so many bytes are lent, and the shelf stays.
use Prim.Native.Nat.{ℕ, ◌≤◌}
use native.Mathlib.Omega.{arith}
use mathlib.Core.Path.{refl}
use mathlib.Core.List.{List}
use lib.ListN.{take, replicate}
use Rattle.lines.specs.Ascii.{ascii}
use Rattle.notices.specs.Sentence.{notice}
use Rattle.shelf.specs.Run.{run, sentence}
use Rattle.replies.proofs.Lent.{take-replicate}
use Rattle.replies.proofs.Replies.{bytes-as}
use Rattle.replies.proofs.calls.sentence.Goals as goal

pub returns-clause-replied : goal.returns-clause-replied
unfolding run
returns-clause-replied c =
    let lent : List ℕ = take c.lent.result (replicate 512 0xa5) in
    let few : c.lent.result ≤ 512 = omega (arith, c.lent.ensures) in
    let handed = notice c.args.number c.args.offset c.args.places.now in
    let done = bytes-as (ascii "wrote") (run c.args.shelf (sentence handed lent)) refl c.sentence-written.ensures.result_value
    c.sentence-written.ensures.out_after c.wrote.ensures.replied in
    rw (take-replicate c.lent.result 512 0xa5 few, c.lent.ensures) at done
