-- `tnb_console::respond_all` meets its contract: the lines are answered one after the other (`Going`).
use Rattle.tnb_console.proofs.Going.{going-first, going_next, going-last}
use Rattle.tnb_console.proofs.respond_all.Goals as goal

pub loop-end-init : goal.loop-end-init
loop-end-init c = going-first c.requires.orderly c.requires.start_in_bounds c.line_end-end.ensures.value

pub loop-end-preserved : goal.loop-end-preserved
loop-end-preserved c =
    going_next c.loop-end.invariant c.loop-end-test.true c.respond-now.ensures.orderly c.respond-now.ensures.output_after.0 c.respond-now.ensures.output_after.1
    c.line_end-end-in-loop-end.ensures.value

pub returns : goal.returns
returns c = record { orderly_2 = c.loop-end.invariant.ready; responded = going-last c.loop-end.invariant c.loop-end-test.false }
