-- `work::joined` meets its contract: the tests, then the word of its steps, then the rule.
use Prim.Native.Nat.{◌≤◌}
use native.Mathlib.Omega.{arith}
use mathlib.Core.Path.{◌≡◌, refl, sym, ◌∙◌}
use lib.ListN.{length}
use borrow.Author.Rules.{rules}
use Rattle.arrays.proofs.Structs.{length-mapped}
use Rattle.std.specs.Prelude.{Ok, Err}
use Rattle.verdict.specs.Verdict.{first_of}
use Rattle.conditions.specs.Conditions.{sources_to}
use Rattle.recipes.specs.Recipe.{places_in}
use Rattle.places.specs.Shelf.{rows_at}
use Rattle.operations.specs.Operations.{joined_rows, joined_at}
use Rattle.operations.proofs.Results.{Ready, proposed-turned, answered-ranged}
use Rattle.operations.proofs.Worked.{Sets, all-sets, run-proper, run-result}
use Rattle.operations.proofs.Recipes.{joined_small, joined-ready}
use Rattle.operations.proofs.work.joined.Goals as goal
use Rattle.operations.proofs.work.joined.Goals.{Start, In_ok-sources_to, After-rows_at-n, After-run-all}

-- six slots
long : (c : Start) → length c.args.recipe.steps ≡ 6
long c = search (rules, length-mapped)

accepted : (c : In_ok-sources_to) → (let a = c.args in first_of (sources_to (rows_at a.shelf) (places_in a.recipe) a.target) ≡ Ok tt)
accepted c = sym c.sources_to.ensures ∙ c.in_ok-sources_to.was

-- where the tests passed
ready-where : (c : Start)
    → (let a = c.args in first_of (sources_to (rows_at a.shelf) (places_in a.recipe) a.target) ≡ Ok tt
    → Ready a.target (joined_rows a.shelf a.recipe) (joined_at a.shelf a.recipe))
ready-where c e = let a = c.args in joined-ready a.shelf a.recipe (long c) c.requires.1 c.requires.2 a.target e c.requires.0

ready : (c : In_ok-sources_to) → (let a = c.args in Ready a.target (joined_rows a.shelf a.recipe) (joined_at a.shelf a.recipe))
ready c = ready-where (goal.at.In_ok-sources_to c).Start (accepted c)

size : (c : After-rows_at-n) → (1 ≤ c.rows_at-n.result) × (c.rows_at-n.result ≤ 8)
size c = let r = ready (goal.at.After-rows_at-n c).In_ok-sources_to in rw c.rows_at-n.ensures (r.some, r.few)

sets : (c : After-run-all)
    → (let a = c.args in Sets (joined_rows a.shelf a.recipe) (joined_at a.shelf a.recipe) c.run-all.result c.run-all.result 0)
sets c = all-sets _ _ _ (ready (goal.at.After-run-all c).In_ok-sources_to).few (rw c.rows_at-n.ensures at c.run-all.ensures.value)

pub returns-in_err-sources_to-clause-value : goal.returns-in_err-sources_to-clause-value
returns-in_err-sources_to-clause-value c =
    let e : c.from_residual.result ≡ Err c.in_err-sources_to.field-0.0 = search rules in
    e ∙ proposed-turned _ _ _ _ (sym c.sources_to.ensures ∙ c.in_err-sources_to.was)

pub of_recipe-word-requires : goal.of_recipe-word-requires
of_recipe-word-requires c =
    let a = c.args in
    let z = size (goal.at.of_recipe-word-requires c).After-rows_at-n in
    let small =
    joined_small a.shelf a.recipe (long (goal.at.of_recipe-word-requires c).Start) c.requires.1 c.requires.2 a.target
    (accepted (goal.at.of_recipe-word-requires c).In_ok-sources_to) in
    record { le_n = (z.0, z.1, c.requires.2, small); lent = (refl, refl) }

pub run-all-requires : goal.run-all-requires
run-all-requires c = (omega arith, (size (goal.at.run-all-requires c).After-rows_at-n).1)

pub work-requires : goal.work-requires
work-requires c =
    run-proper c.args.target _ _ (rw c.rows_at-n.ensures at c.of_recipe-word.ensures) (sets (goal.at.work-requires c).After-run-all)
    (ready (goal.at.work-requires c).In_ok-sources_to)

pub returns : goal.returns
returns c =
    let a = c.args in
    let made =
    run-result a.target (joined_rows a.shelf a.recipe) (joined_at a.shelf a.recipe) (rw c.rows_at-n.ensures at c.of_recipe-word.ensures)
    (sets (goal.at.returns c).After-run-all) (ready (goal.at.returns c).In_ok-sources_to) in
    let met =
    answered-ranged _ a.target _ _ (ready-where (goal.at.returns c).Start) _ _ (accepted (goal.at.returns c).In_ok-sources_to) (c.work.ensures ∙ made)
    c.ranged.ensures in
    record { value = met.0; keepable = met.1 }
