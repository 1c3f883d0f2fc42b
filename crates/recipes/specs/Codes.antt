-- STEPS AS NUMBERS, as C and the console hand them over: four times one more than the place, plus 0 for plain, 1 for the re-signed inverse, 2 for the converse,
-- 3 for the transpose (`step_code`). Every number is some step (`step_by`), so that nothing but its place is left to judge; 8, which is no place, stands for
-- every place above 7, and is that of a number that no step has, 0 among them.
use Rattle.std.specs.Prelude.{ℕ, zero, suc, ◌+◌, ◌*◌, ◌/◌, ◌%◌, cond, List, map, ltb, length, get_or}
use Rattle.walk.specs.Lent.{numbered}
use Rattle.walk.specs.declared.Way.{Way}
use Rattle.walk.specs.declared.Way.TheVariants.{Plain, Inverted, Conversed, Transposed}
use Rattle.recipes.specs.declared.RecipeStep.{RecipeStep}
use Rattle.recipes.specs.declared.Recipe.{Recipe}

abbrev pub way_code : Way → ℕ
way_code Plain = 0
way_code Inverted = 1
way_code Conversed = 2
way_code Transposed = 3

-- a place, or 8
abbrev pub up_to_eight : ℕ → ℕ
up_to_eight p = cond (ltb p 8) p 8

-- the number of a step
unfoldable pub step_code : Way → ℕ → ℕ
step_code w p = 4 * (up_to_eight p + 1) + way_code w

abbrev pub way_by : ℕ → Way
way_by zero = Plain
way_by (suc zero) = Inverted
way_by (suc (suc zero)) = Conversed
way_by (suc (suc (suc k))) = Transposed

abbrev pub place_by : ℕ → ℕ
place_by zero = 8
place_by (suc p) = up_to_eight p

-- the step of a number
unfoldable pub step_by : ℕ → RecipeStep
step_by code = record { place = place_by (code / 4); way = way_by (code % 4) }

-- as many steps as there are numbers: those of the first six have slots, and a slot without a number has the step of 0
unfoldable pub recipe_by : List ℕ → Recipe
recipe_by codes = record { steps = map (λ c. step_by (get_or codes c 0)) numbered; count = length codes }
