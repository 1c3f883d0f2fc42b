-- `answers::put_place` meets its contract.
use Rattle.lines.proofs.Text.{puts-behind}
use Rattle.answers.proofs.Places.{place-empty, place-held}
use Rattle.answers.proofs.matrix.put_place.Goals as goal

pub returns-then-n-eq0 : goal.returns-then-n-eq0
returns-then-n-eq0 c = rw (place-empty _ _ c.rows_at-n.ensures c.if-n-eq0.true)
    c.put.ensures

pub returns : goal.returns
returns c = let e = place-held _ _ c.rows_at-n.ensures
    c.if-n-eq0.false in
    rw e (puts-behind c.put_count-first.ensures c.put_factors.ensures)
