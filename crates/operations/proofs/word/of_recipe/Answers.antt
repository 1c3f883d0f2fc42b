-- `of_recipe` meets its contract. The invariant: the steps before this one are put (`Put`).
use Prim.Native.Nat.{◌≤◌}
use native.Mathlib.Omega.{arith}
use lib.ListN.{length}
use lib.Seq.{take_all}
use Rattle.operations.specs.Operations.{step_with}
use Rattle.recipes.specs.Recipe.{steps_in}
use Rattle.recipes.proofs.Slots.{taken-length}
use Rattle.operations.proofs.Made.{made-ready}
use Rattle.operations.proofs.Recipes.{steps-none, steps_next}
use Rattle.operations.proofs.word.of_recipe.Goals as goal
use Rattle.std.proofs.lemmas.Grind.{common_steps}

pub loop-step-init : goal.loop-step-init
loop-step-init c = steps-none c.args.shelf c.args.n (steps_in c.args.recipe) c.no_steps-word.ensures c.requires.lent.0 c.requires.lent.1

pub put_step-word-requires : goal.put_step-word-requires
put_step-word-requires c =
    let L = steps_in c.args.recipe in
    let few : length L ≤ 6 = grind (arith, common_steps) in
    let many = taken-length (step_with c.args.shelf) c.loop-step.step-index L (omega arith) in
    made-ready c.loop-step.invariant c.requires.le_n.0 c.requires.le_n.1 (omega (arith, many))

pub loop-step-preserved : goal.loop-step-preserved
loop-step-preserved c =
    steps_next c.args.shelf c.args.n (steps_in c.args.recipe) c.loop-step-test.true c.loop-step.invariant
    (c.put_step-word.ensures.prepared, rw c.table_at-factors.ensures at c.put_step-word.ensures.b_after)

pub returns : goal.returns
returns c = rw (take_all c.loop-step.step-index (steps_in c.args.recipe) c.loop-step-test.false) at c.loop-step.invariant
