-- Clamped rows behind a source and a target, by the law of a choice behind the tests of its places (`choice-verdict`).
use mathlib.Core.Path.{◌≡◌, refl, sym, ap, ◌∙◌}
use Prim.Native.Nat.{ℕ}
use borrow.Author.Rules.{rules}
use Rattle.std.specs.Prelude.{Err}
use Rattle.conditions.proofs.Passed.{choice-verdict}
use Rattle.conditions.specs.Conditions.{misclamped}
use Rattle.places.specs.Tests.{one_source}
use Rattle.operations.proofs.tests.clamped_to.Goals as goal

pub returns-in_err-one_source : goal.returns-in_err-one_source
returns-in_err-one_source c =
    let a = c.args in
    let e : c.from_residual.result ≡ Err c.in_err-one_source.field-0.0 = search rules in
    choice-verdict (one_source a.shelf a.source a.target) (sym c.in_err-one_source.was ∙ c.one_source.ensures) refl e

pub returns : goal.returns
returns c =
    let a = c.args in
    choice-verdict (one_source a.shelf a.source a.target) (sym c.in_ok-one_source.was ∙ c.one_source.ensures) (c.misclamped.ensures ∙ ap (λ (n : ℕ). misclamped n a.k) c.rows_at.ensures) c.refuse_if.ensures
