-- Row and column sets behind a source, by the law of a choice behind the tests of its places (`choice-verdict`).
use mathlib.Core.Path.{◌≡◌, refl, sym, ◌∙◌}
use borrow.Author.Rules.{rules}
use Rattle.std.specs.Prelude.{Err}
use Rattle.conditions.proofs.Passed.{choice-verdict}
use Rattle.places.specs.Tests.{source_tests}
use Rattle.operations.proofs.tests.sets.Goals as goal

pub returns-in_err-source : goal.returns-in_err-source
returns-in_err-source c =
    let a = c.args in
    let e : c.from_residual.result ≡ Err c.in_err-source.field-0.0 = search rules in
    choice-verdict (source_tests a.shelf a.source) (sym c.in_err-source.was ∙ c.source.ensures) refl e

pub returns : goal.returns
returns c =
    let a = c.args in
    choice-verdict (source_tests a.shelf a.source) (sym c.in_ok-source.was ∙ c.source.ensures) c.unfit.ensures c.refuse_if.ensures
