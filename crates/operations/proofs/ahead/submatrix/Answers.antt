-- The forecast of a submatrix: its tests have shown the rows of its source and sets that fit (`sets-passed`); then by the rows of both.
use mathlib.Core.Path.{sym, ap₂, ◌∙◌}
use Prim.Native.Nat.{ℕ}
use native.Mathlib.Omega.{arith}
use Rattle.rowset.proofs.Counts.{mask-count}
use Rattle.words.specs.Effort.{minor_foretold, result_steps}
use Rattle.words.proofs.Totals.{none-clamped}
use Rattle.places.proofs.Verdicts.{rows_few}
use Rattle.operations.proofs.MinorCalls.{sets-passed}
use Rattle.operations.proofs.Forecasts.{told-steps}
use Rattle.operations.proofs.ahead.submatrix.Goals as goal

pub of_sizes-requires : goal.of_sizes-requires
of_sizes-requires c =
    let a = c.args in
    let p = sets-passed a.shelf a.source a.rows a.columns (sym c.sets.ensures ∙ c.in_ok-sets.was) in
    let few = rows_few a.shelf c.requires a.source in
    rw c.rows_at-n.ensures (omega arith, p.0.some, few, omega (arith, c.count-k.ensures.upper_bound))

pub returns : goal.returns
returns c =
    let a = c.args in
    let e = sym c.sets.ensures ∙ c.in_ok-sets.was in
    let p = sets-passed a.shelf a.source a.rows a.columns e in
    told-steps _ _ _ e
    (c.of_sizes.ensures ∙ none-clamped _ _ _ ∙ ap₂ (λ (n k : ℕ). result_steps (minor_foretold 1 n) k) c.rows_at-n.ensures
    ((rw c.from.ensures at c.count-k.ensures.value) ∙ sym (mask-count _ _ (rows_few a.shelf c.requires a.source) p.1.rows)))
