-- THE PLACES OF A RECIPE, as the code looks at them: whether any has what a test asks (`any_steps`), and the tests of a recipe by that (`recipe-alone`,
-- `recipe-to`).
use Prim.Native.Nat.{ℕ, ◌≤◌}
use native.Mathlib.Omega.{arith}
use mathlib.Core.Path.{◌≡◌, refl, ap}
use mathlib.Core.Bool.{Bool, ◌||◌}
use mathlib.Core.List.{List, [], ◌∷◌, map}
use lib.ListN.{length}
use Rattle.std.specs.List.{list_any}
use Rattle.recipes.specs.declared.RecipeStep.{RecipeStep}
use Rattle.recipes.specs.declared.Recipe.{Recipe}
use Rattle.recipes.specs.Recipe.{place_of, places_in, slot_at}
use Rattle.recipes.proofs.Slots.{taken-length, place_at}
use Rattle.verdict.specs.declared.Reason.TheVariants.{NoSuchPlace, SourceEmpty, TargetFull, SizesDiffer}
use Rattle.verdict.specs.Verdict.{first_of, or_else, when}
use Rattle.conditions.specs.Conditions.{above, any_of, empty, full, differ, sources_alone, sources_to}
use Rattle.conditions.proofs.Lists.{alone-any, to-any}
use Rattle.places.specs.declared.Shelf.{Shelf}
use Rattle.places.specs.Shelf.{rows_at}

-- a test of the places of steps, as an iterator runs it over the steps
pub any_steps : (f : ℕ → Bool) (L : List RecipeStep) → list_any (λ x. f (place_of x)) L ≡ any_of f (map place_of L)
any_steps f [] = refl
any_steps f (x ∷ L) = ap (λ (b : Bool). f (place_of x) || b) (any_steps f L)

-- THE TESTS, by what any place of a recipe has
module _ (s : Shelf) (r : Recipe) (long : length r.steps ≡ 6) (some : 1 ≤ r.count) (six : r.count ≤ 6) where
  abbrev any : (ℕ → Bool) → Bool
  any f = any_of f (places_in r)

  abbrev unlike : Bool
  unlike = any (differ (rows_at s) (place_of (slot_at r 0)))

  pub places-some : 1 ≤ length (places_in r)
  places-some = omega (arith, some, taken-length place_of r.count r.steps (omega (arith, long, six)))

  pub recipe-alone : or_else (or_else (when (any above) NoSuchPlace) (when (any (empty (rows_at s))) SourceEmpty)) (when unlike SizesDiffer)
      ≡ first_of (sources_alone (rows_at s) (places_in r))
  recipe-alone = alone-any (rows_at s) (place_of (slot_at r 0)) (places_in r) places-some (place_at r 0 some)

  pub recipe-to : (t : ℕ)
      → or_else
      (or_else
      (or_else (or_else (when (any above) NoSuchPlace) (when (above t) NoSuchPlace)) (when (any (empty (rows_at s))) SourceEmpty))
      (when (full (rows_at s) t) TargetFull))
      (when unlike SizesDiffer)
      ≡ first_of (sources_to (rows_at s) (places_in r) t)
  recipe-to t = to-any (rows_at s) (place_of (slot_at r 0)) (places_in r) t places-some (place_at r 0 some)
