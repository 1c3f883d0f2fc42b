-- The forecast of a Schur complement: its tests have shown that one row or more is clamped, and one or more is left (`clamped`).
use mathlib.Core.Path.{sym, ◌∙◌}
use Prim.Native.Nat.{◌≤◌, ◌<◌}
use native.Mathlib.Omega.{arith}
use Rattle.conditions.specs.Conditions.{misclamped}
use Rattle.conditions.proofs.Passed.{clamped, choice-passed}
use Rattle.places.specs.Shelf.{rows_at}
use Rattle.places.specs.Tests.{source_tests}
use Rattle.places.proofs.Verdicts.{rows_few}
use Rattle.operations.proofs.ahead.schur.Goals as goal
use Rattle.operations.proofs.ahead.schur.Goals.{After-rows_at-n}

-- the source's rows, more than the clamped ones
rows : (c : After-rows_at-n) → (c.args.k < c.rows_at-n.result) × (c.rows_at-n.result ≤ 8)
rows c =
    let a = c.args in
    let e = choice-passed (source_tests a.shelf a.source) (misclamped (rows_at a.shelf a.source) a.k) (sym c.clamped.ensures ∙ c.in_ok-clamped.was) in
    rw c.rows_at-n.ensures ((clamped (rows_at a.shelf a.source) a.k e.1).1, rows_few a.shelf c.requires a.source)

pub overflow_sub-rest : goal.overflow_sub-rest
overflow_sub-rest c = omega (arith, (rows c).0)

pub of_sizes-requires : goal.of_sizes-requires
of_sizes-requires c = let r = rows (goal.at.of_sizes-requires c).After-rows_at-n in (omega arith, omega (arith, r.0), r.1, omega (arith, r.0, r.1))
