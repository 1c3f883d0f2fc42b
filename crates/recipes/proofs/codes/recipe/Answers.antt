-- `codes::recipe` meets its contract. The invariant: the first c slots have their steps.
use Prim.Native.Nat.{ℕ, zero, suc, ◌<◌}
use native.Mathlib.Omega.{arith}
use mathlib.Core.Path.{◌≡◌, refl, ap}
use mathlib.Core.List.{List, map}
use lib.ListN.{length, get_or}
use Rattle.arrays.proofs.Filled.{filled_none, filled_more, filled-all}
use Rattle.walk.specs.Lent.{numbered}
use Rattle.walk.specs.declared.Way.TheVariants.{Plain}
use Rattle.recipes.specs.declared.RecipeStep.{RecipeStep}
use Rattle.recipes.specs.declared.Recipe.{Recipe}
use Rattle.recipes.specs.Codes.{step_by, recipe_by}
use Rattle.recipes.specs.Recipe.{taken}
use Rattle.recipes.proofs.codes.recipe.Goals as goal

-- slot i of the definition
numbered-slot : (f : ℕ → RecipeStep) (i : ℕ) → i < 6 → get_or (map f numbered) i (taken Plain 0) ≡ f i
numbered-slot f zero h = refl
numbered-slot f (suc zero) h = refl
numbered-slot f (suc (suc zero)) h = refl
numbered-slot f (suc (suc (suc zero))) h = refl
numbered-slot f (suc (suc (suc (suc zero)))) h = refl
numbered-slot f (suc (suc (suc (suc (suc zero))))) h = refl
numbered-slot f (suc (suc (suc (suc (suc (suc i)))))) h = absurd (omega arith)

pub loop-c-init : goal.loop-c-init
loop-c-init c = filled_none (taken Plain 0) _ 6 _ refl

pub loop-c-preserved : goal.loop-c-preserved
loop-c-preserved c = filled_more (taken Plain 0) _ 6 c.loop-c.invariant c.loop-c-test.true _ c.slot.ensures

pub returns : goal.returns
unfolding recipe_by
returns c = ap (λ (l : List RecipeStep). let r : Recipe = record { steps = l; count = length c.args.codes.now } in r)
    (filled-all (taken Plain 0) (λ i. step_by (get_or c.args.codes.now i 0)) 6 c.loop-c.invariant c.loop-c-test.false _ refl
    (numbered-slot (λ i. step_by (get_or c.args.codes.now i 0))))
