-- `tnb_recipe` meets its contract: the shelf's own answer with demand 3, or 255.
use mathlib.Core.Path.{refl, ap, ◌∙◌}
use Rattle.recipes.specs.declared.Recipe.{Recipe}
use Rattle.recipes.specs.Codes.{recipe_by}
use Rattle.operations.specs.Operations.{recipe_call}
use Rattle.shelf.specs.Run.{recipe, run}
use Rattle.tnb_c.specs.Answers.{answer_of}
use Rattle.tnb_c.proofs.Checked.{answered, turned-away}
use Rattle.tnb_c.proofs.Answered.{with-demand, away-answered, recipe-answered}
use Rattle.tnb_c.proofs.recipe.tnb_recipe.Goals as goal

pub perform_recipe-requires : goal.perform_recipe-requires
perform_recipe-requires c = c.is_good.ensures.good c.if-is_good.true

pub returns-then-is_good : goal.returns-then-is_good
unfolding run recipe_by
returns-then-is_good c =
    let a = c.args in
    let r = recipe_by a.steps.now in
    let passed = c.if-is_good.true in
    let good = c.is_good.ensures.good passed in
    let own =
    c.into.ensures ∙ ap answer_of (c.perform_recipe.ensures.result_value ∙ ap (λ (x : Recipe). recipe_call a.shelf x a.target) c.recipe-made.ensures) in
    let ran = answered a.shelf (recipe r a.target) answer_of c.is_good.ensures.value passed own in
    let met = with-demand _ a.target _ _ _ ran (recipe-answered a.shelf good r a.target refl) in
    record { value = met.0; answered = met.1 }

pub returns : goal.returns
returns c =
    record {
      value = turned-away _ (recipe _ _) answer_of c.is_good.ensures.value c.if-is_good.false c.foreign.ensures;
      answered = away-answered _ _ _ _ _ c.foreign.ensures;
    }
