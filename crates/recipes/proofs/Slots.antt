-- THE SLOTS OF A RECIPE. The first c steps and one more (`map_next`), how many they are (`taken-length`), and each by its slot
-- (`place_at`). What stands behind the count has no part (`steps-one`, `steps-two`).
use Prim.Native.Nat.{ℕ, zero, suc, ◌≤◌, ◌<◌}
use native.Mathlib.Nat.{not-suc-le-zero}
use native.Mathlib.Omega.{arith}
use mathlib.Core.Path.{◌≡◌, refl, ap, ◌∙◌}
use mathlib.Core.List.{List, [], ◌∷◌, ◌++◌, map}
use lib.ListN.{length, get_or, take, get_or-map}
use Rattle.walk.specs.declared.Way.TheVariants.{Plain}
use Rattle.recipes.specs.declared.RecipeStep.{RecipeStep}
use Rattle.recipes.specs.declared.Recipe.{Recipe}
use Rattle.recipes.specs.Recipe.{taken, place_of, steps_in, places_in, slot_at}

module _ {A B : Type 0} (f : A → B) where
  pub map_next : (l : List A) (c : ℕ) (d : A) → c < length l → map f (take (suc c) l) ≡ map f (take c l) ++ (f (get_or l c d) ∷ [])
  map_next [] c d h = absurd (not-suc-le-zero h)
  map_next (x ∷ l) zero d h = refl
  map_next (x ∷ l) (suc c) d h = ap (λ (L : List B). f x ∷ L) (map_next l c d (omega arith))

  pub taken-length : (c : ℕ) (l : List A) → c ≤ length l → length (map f (take c l)) ≡ c
  taken-length zero l h = refl
  taken-length (suc c) [] h = absurd (not-suc-le-zero h)
  taken-length (suc c) (x ∷ l) h = ap suc (taken-length c l (omega arith))

take_at : {A : Type 0} (l : List A) (m c : ℕ) (d : A) → c < m → get_or (take m l) c d ≡ get_or l c d
take_at [] zero c d h = refl
take_at [] (suc m) c d h = refl
take_at (x ∷ l) zero c d h = absurd (not-suc-le-zero h)
take_at (x ∷ l) (suc m) zero d h = refl
take_at (x ∷ l) (suc m) (suc c) d h = take_at l m c d (omega arith)

pub place_at : (r : Recipe) (c : ℕ) → c < r.count → get_or (places_in r) c 0 ≡ place_of (slot_at r c)
place_at r c h = get_or-map place_of (take r.count r.steps) c (taken Plain 0) ∙ ap place_of (take_at r.steps r.count c (taken Plain 0) h)

-- ONE STEP AND TWO, whatever stands in the other slots: none of it is looked at
pub steps-one : (x : RecipeStep) (others : List RecipeStep) → steps_in (record { steps = x ∷ others; count = 1 }) ≡ x ∷ []
steps-one x others = refl

pub steps-two : (x y : RecipeStep) (others : List RecipeStep) → steps_in (record { steps = x ∷ y ∷ others; count = 2 }) ≡ x ∷ y ∷ []
steps-two x y others = refl
