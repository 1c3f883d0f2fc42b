-- A STEP AS C HOLDS IT is taken for the place and the way that it was made of (`step-answered`). So a recipe of two plain steps is the product, as C is
-- answered (`plain-answered`).
use Prim.Native.Nat.{ℕ, ◌<◌}
use mathlib.Core.Path.{◌≡◌, ap, ap₂, ◌∙◌}
use mathlib.Core.Bool.{cond}
use mathlib.Core.List.{[], ◌∷◌}
use lib.ListN.{replicate}
use Rattle.walk.specs.declared.Way.{Way}
use Rattle.walk.specs.declared.Way.TheVariants.{Plain}
use Rattle.recipes.specs.declared.RecipeStep.{RecipeStep}
use Rattle.recipes.specs.Codes.{step_code, step_by, recipe_by}
use Rattle.recipes.proofs.Coded.{step-coded, above-coded}
use Rattle.places.specs.declared.Shelf.{Shelf}
use Rattle.places.specs.Check.{is_good}
use Rattle.places.specs.Outcome.{Outcome}
use Rattle.operations.specs.Operations.{recipe_call}
use Rattle.operations.proofs.Recipes.{recipe-product}
use Rattle.shelf.specs.Run.{recipe, product, run}
use Rattle.tnb_c.specs.declared.recipe.Step.{Step}
use Rattle.tnb_c.specs.Answers.{turned_away, checked, step_of, StepAnswer}

pub step-answered : (w : Way) (p : ℕ) {k : ℕ} → k ≡ step_code w p
    → (let x : Step = record { code = k } in (x ≡ step_of w p) × StepAnswer w p x)
step-answered w p e = (
  ap (λ (k : ℕ). let x : Step = record { code = k } in x) e,
  record { there = λ h. ap step_by e ∙ step-coded w p h; above = λ h. ap step_by e ∙ above-coded w p h },
)

pub plain-answered : (s : Shelf) (p q t : ℕ) → p < 8 → q < 8
    → checked s (recipe (recipe_by (step_code Plain p ∷ step_code Plain q ∷ [])) t) ≡ checked s (product p q t)
unfolding checked run recipe_by
plain-answered s p q t small there =
    ap (λ (x : Outcome). cond (is_good s) x (turned_away s [] []))
    (ap₂ (λ (x y : RecipeStep). recipe_call s (record { steps = x ∷ y ∷ replicate 4 (step_by 0); count = 2 }) t)
    (step-coded Plain p small) (step-coded Plain q there)
    ∙ recipe-product s p q t (replicate 4 (step_by 0)))
