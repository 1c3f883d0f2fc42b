-- `any_unlike` meets its contract: the iterator's test of each step is that of its place (`any_steps`).
use Rattle.std.proofs.Common.{rules, ◌∙◌}
use Rattle.std.proofs.lemmas.Iterator.{YieldsList-from_slice}
use Rattle.std.proofs.lemmas.Iterator.Search.{any_from_yields_List}
use borrow.Author.Tests.{tests}
use Rattle.recipes.specs.Recipe.{place_of}
use Rattle.conditions.specs.Conditions.{differ}
use Rattle.places.specs.Shelf.{rows_at}
use Rattle.places.proofs.Recipes.{any_steps}
use Rattle.places.proofs.judge.any_unlike.Goals as goal

pub returns : goal.returns
returns c =
    any_from_yields_List (λ x. differ (rows_at c.args.shelf) c.args.first (place_of x)) _ _ _ c.any.ensures.ran (YieldsList-from_slice c.args.steps.now cc)
    (λ x b q k. search (rules, tests))
    ∙ any_steps (differ (rows_at c.args.shelf) c.args.first) c.args.steps.now
