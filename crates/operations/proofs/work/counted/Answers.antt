-- `work::counted` meets its contract: the count of the recipe's steps is tested, and then its steps are joined.
use native.Mathlib.Omega.{arith}
use mathlib.Core.Path.{◌≡◌, sym, ◌∙◌}
use borrow.Author.Rules.{rules}
use Rattle.std.specs.Prelude.{Err}
use Rattle.verdict.specs.declared.Reason.TheVariants.{WrongStepCount}
use Rattle.verdict.proofs.Verdicts.{when-passed}
use Rattle.conditions.specs.Conditions.{miscounted}
use Rattle.conditions.proofs.Passed.{counted}
use Rattle.operations.proofs.Results.{first-refused, proposed-turned, proposed-behind}
use Rattle.operations.proofs.work.counted.Goals as goal
use Rattle.operations.proofs.work.counted.Goals.{In_ok-refuse_if}
use mathlib.Core.Bool.{false}

passed : (c : In_ok-refuse_if) → miscounted c.args.recipe.count ≡ false
passed c = sym c.miscounted-miscounted.ensures ∙ when-passed _ WrongStepCount (sym c.refuse_if.ensures ∙ c.in_ok-refuse_if.was)

pub returns-in_err-refuse_if-clause-value : goal.returns-in_err-refuse_if-clause-value
returns-in_err-refuse_if-clause-value c =
    let e : c.from_residual.result ≡ Err c.in_err-refuse_if.field-0.0 = search rules in
    e
    ∙ proposed-turned _ _ _ _ (first-refused _ _ (rw c.miscounted-miscounted.ensures at (sym c.refuse_if.ensures ∙ c.in_err-refuse_if.was)))

pub joined-requires : goal.joined-requires
joined-requires c = let h = counted c.args.recipe.count (passed (goal.at.joined-requires c).In_ok-refuse_if) in (c.requires, omega (arith, h.0), h.1)

pub returns : goal.returns
returns c = record {
  value = c.joined.ensures.value ∙ proposed-behind WrongStepCount _ _ _ (passed (goal.at.returns c).In_ok-refuse_if);
  keepable = c.joined.ensures.keepable;
}
