-- `lines::put_pairs` meets its contract. The loop's invariant: the pairs put so far, and those that are left, make the text.
use native.Mathlib.Omega.{arith}
use Rattle.lines.proofs.Text.{spelt-none, spelt-end, spelt-more}
use Rattle.lines.proofs.writing.put_pairs.Goals as goal

pub loop-b-init : goal.loop-b-init
loop-b-init c = spelt-none _ _ _ _

pub loop-b-preserved : goal.loop-b-preserved
loop-b-preserved c = spelt-more _ c.loop-b.invariant 0 (omega arith) c.put_pair-to.ensures

pub returns : goal.returns
returns c = spelt-end _ c.loop-b.invariant (omega arith)
