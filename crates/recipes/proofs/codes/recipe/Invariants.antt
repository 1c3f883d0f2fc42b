-- The invariant of the loop of `codes::recipe`: the first c slots have their steps.
use Prim.Native.Nat.{◌-◌}
use lib.ListN.{get_or}
use Rattle.arrays.proofs.Filled.{Filled}
use Rattle.walk.specs.declared.Way.TheVariants.{Plain}
use Rattle.recipes.specs.Codes.{step_by}
use Rattle.recipes.specs.Recipe.{taken}
use Rattle.recipes.proofs.codes.recipe.Given as goal

abbrev pub invariant-loop-c : goal.invariant-loop-c
invariant-loop-c l = Filled (taken Plain 0) (λ i. step_by (get_or l.codes i 0)) 6 l.c l.steps

abbrev pub decreases-loop-c : goal.decreases-loop-c
decreases-loop-c l = 6 - l.c
