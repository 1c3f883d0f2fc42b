-- `starts` meets its contract. The invariant: the sets of fewer than c rows are there.
use mathlib.Core.Path.{◌≡◌, ap, ◌∙◌}
use Prim.Native.Nat.{◌+◌}
use native.Mathlib.Omega.{arith}
use Rattle.rowset.specs.Mask.{mask_count, mask_run, mask_among}
use Rattle.presence.proofs.Search.{count-few}
use Rattle.presence.proofs.Starting.{Started, started_none, leading-count, started-next, started-all}
use Rattle.presence.proofs.starts.Goals as goal
use Rattle.presence.proofs.starts.Goals.{After-among}
use lib.ListN.{set}
use mathlib.Core.Bool.{true}

pub loop-c-init : goal.loop-c-init
loop-c-init c = started_none _

-- one set more
next : (c : After-among) → Started c.args.p (set c.loop-c.v c.among.result true) (c.loop-c.c + 1)
next c =
    let a = c.args in
    let l = c.loop-c in
    let e : c.among.result ≡ mask_among a.p (mask_run 1 l.c) = c.among.ensures.value ∙ ap (mask_among a.p) c.run.ensures.value in
    let k = leading-count a.p l.c c.requires (omega (arith, c.count-c-end.ensures.value)) (count-few a.p) in
    started-next l.invariant c.among.result e (ap mask_count e ∙ k) c.among.ensures.upper_bound

pub loop-c-preserved : goal.loop-c-preserved
loop-c-preserved c = next (goal.at.loop-c-preserved c).After-among

pub returns-2 : goal.returns-2
returns-2 c = started-all (next (goal.at.returns-2 c).After-among) (omega (arith, c.count-c-end.ensures.value))
