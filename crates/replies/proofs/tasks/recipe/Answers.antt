-- `replies::tasks::recipe` meets its contract.
use Rattle.lines.specs.Ascii.{ascii}
use Rattle.shelf.specs.Run.{run}
use Rattle.replies.proofs.Replies.{performed-as, report-as}
use Rattle.replies.proofs.tasks.recipe.Goals as goal

pub returns-in-Direct : goal.returns-in-Direct
unfolding run
returns-in-Direct c =
    let is = rw c.recipe-recipe.ensures at c.perform_recipe.ensures.result_value in
    record { good = c.performed.ensures.good; replied = rw c.in-Direct.is (performed-as _ is c.performed.ensures.replied) }

pub returns-in-Foretold : goal.returns-in-Foretold
unfolding run
returns-in-Foretold c =
    let is = rw c.recipe-recipe.ensures at c.forecast_recipe.ensures.result_value in
    record { good = c.foretold.ensures.good; replied = rw c.in-Foretold.is (report-as (ascii "steps") is c.foretold.ensures.replied) }
