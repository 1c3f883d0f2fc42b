-- `sentences::put_places` meets its contract. The loop's invariant: the places so far are put, each behind a space.
use native.Mathlib.Omega.{arith}
use Rattle.lines.specs.Ascii.{ascii}
use Rattle.lines.proofs.Text.{puts-behind, spelt-more, spelt-end}
use Rattle.sentences.proofs.put_places.Goals as goal

pub loop-place-preserved : goal.loop-place-preserved
loop-place-preserved c = let place = puts-behind {a = ascii " "} c.put-next.ensures c.put_whole-to.ensures in
    spelt-more _ c.loop-place.invariant 0 (omega arith) place

pub returns : goal.returns
returns c = spelt-end _ c.loop-place.invariant c.loop-place-test.false
