-- The loop of `of_recipe`: the steps before this one are put (`Put`).
use Rattle.operations.proofs.Recipes.{Put}
use Rattle.operations.proofs.word.of_recipe.Given as goal

abbrev pub invariant-loop-step : goal.invariant-loop-step
invariant-loop-step l = Put l.shelf l.n l.step-items l.step-index l.word l.letters l.sources
