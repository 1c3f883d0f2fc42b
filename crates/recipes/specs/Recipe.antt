-- RECIPES (document 02, (f)): a step is a place number together with the way it is taken, and a recipe has its steps in its first slots. The others are not
-- looked at.
use Rattle.std.specs.Prelude.{ℕ, List, ◌∷◌, map, get_or, take, replicate}
use Rattle.walk.specs.declared.Way.{Way}
use Rattle.walk.specs.declared.Way.TheVariants.{Plain}
use Rattle.recipes.specs.declared.RecipeStep.{RecipeStep}
use Rattle.recipes.specs.declared.Recipe.{Recipe}

-- place p, taken in the way w
abbrev pub taken : Way → ℕ → RecipeStep
taken w p = record { place = p; way = w }

abbrev pub place_of : RecipeStep → ℕ
place_of x = x.place

-- the steps of a recipe, in their order, and their places
abbrev pub steps_in : Recipe → List RecipeStep
steps_in r = take r.count r.steps

abbrev pub places_in : Recipe → List ℕ
places_in r = map place_of (steps_in r)

-- the step in slot c, counted from 0
abbrev pub slot_at : Recipe → ℕ → RecipeStep
slot_at r c = get_or r.steps c (taken Plain 0)

-- one place taken in a way, and two taken plain; the other slots repeat the last step
abbrev pub one_step : Way → ℕ → Recipe
one_step w p = record { steps = replicate 6 (taken w p); count = 1 }

abbrev pub two_steps : ℕ → ℕ → Recipe
two_steps l r = record { steps = taken Plain l ∷ replicate 5 (taken Plain r); count = 2 }
