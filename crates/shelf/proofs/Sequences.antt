-- WHATEVER IS CALLED, in whatever order, the shelf stays good (`run-good`, `calls-good`): by cases on the call.
use Prim.Native.Nat.{ℕ}
use mathlib.Core.List.{List, [], ◌∷◌}
use Rattle.walk.specs.declared.Way.TheVariants.{Inverted, Conversed}
use Rattle.places.specs.declared.Shelf.{Shelf}
use Rattle.places.specs.Shelf.{rows_at, empty_shelf, Good}
use Rattle.places.specs.Tests.{one_source, two_sources}
use Rattle.places.specs.Outcome.{Outcome}
use Rattle.places.proofs.Holding.{good-empty}
use Rattle.operations.specs.declared.Task.{Task}
use Rattle.operations.specs.declared.Task.TheVariants.{Product, Inverse, Converse, Transpose, Submatrix, Schur}
use Rattle.operations.specs.Forecast.{task_call}
use Rattle.operations.specs.Operations.{product_at, inverse_at, converse_at, submatrix_at, submatrix_tests, schur_at, clamped_tests}
use Rattle.operations.specs.Operations.{joined_rows, joined_at, recipe_tests}
use Rattle.operations.proofs.Proposals.{transpose-good}
use Rattle.operations.proofs.Building.{build-good}
use Rattle.operations.proofs.Results.{submatrix-ready, schur-ready, operation-good}
use Rattle.operations.proofs.Recipes.{product-ready, whole_ready, recipe-ready}
use Rattle.shelf.specs.Calls.{write_call, carry_call}
use Rattle.shelf.specs.Run.{Call, load, write, byte_length, drop, operate, forecast, recipe, forecast_recipe, build, minor}
use Rattle.shelf.specs.Run.{carry, reversals, arithmetic, rest, sentence, rows, factor}
use Rattle.shelf.specs.Run.{Given, AllGiven, run, after_each, after_calls}
use Rattle.shelf.proofs.Loading.{load-good}
use Rattle.shelf.proofs.Dropping.{drop-good}

task-good : (s : Shelf) → Good s → (o : Task) (t : ℕ) → Good (task_call s o t).shelf
task-good s g (Product l r) t = operation-good (two_sources s l r t) t (rows_at s l) (product_at s l r) (product-ready s g l r t) s g
task-good s g (Inverse p) t = operation-good (one_source s p t) t (rows_at s p) (inverse_at s p) (whole_ready s g Inverted p t) s g
task-good s g (Converse p) t = operation-good (one_source s p t) t (rows_at s p) (converse_at s p) (whole_ready s g Conversed p t) s g
task-good s g (Transpose p) t = transpose-good s p t g
task-good s g (Submatrix p I J) t = operation-good (submatrix_tests s p I J t) t (rows_at s p) (submatrix_at s p I J) (submatrix-ready s g p I J t) s g
task-good s g (Schur p k) t = operation-good (clamped_tests s p k t) t (rows_at s p) (schur_at s p k) (schur-ready s g p k t) s g

pub run-good : (s : Shelf) → Good s → (c : Call) → Given c → Good (run s c).shelf
unfolding run write_call carry_call
run-good s g (load p bytes) h = load-good s p bytes g h
run-good s g (write p out) h = g
run-good s g (byte_length p) h = g
run-good s g (drop p) h = drop-good s p g
run-good s g (operate o t) h = task-good s g o t
run-good s g (forecast o) h = g
run-good s g (recipe r t) h = operation-good (recipe_tests s r t) t (joined_rows s r) (joined_at s r) (recipe-ready s g r t h) s g
run-good s g (forecast_recipe r) h = g
run-good s g (build t stamps) h = build-good s t stamps g
run-good s g (minor p I J) h = g
run-good s g (carry p items out) h = g
run-good s g (reversals items) h = g
run-good s g (arithmetic o items) h = g
run-good s g (rest bytes) h = g
run-good s g (sentence a out) h = g
run-good s g (rows p) h = g
run-good s g (factor p i j) h = g

-- a list of calls, where each keeps a shelf good
pub each-good : (f : Shelf → Call → Outcome) → ((s : Shelf) → Good s → (c : Call) → Given c → Good (f s c).shelf)
    → (L : List Call) → AllGiven L → (s : Shelf) → Good s → Good (after_each f s L)
unfolding after_each
each-good f k [] h s g = g
each-good f k (c ∷ L) h s g = each-good f k L h.1 (f s c).shelf (k s g c h.0)

-- from the empty shelf on
pub calls-good : (L : List Call) → AllGiven L → Good (after_calls empty_shelf L)
calls-good L h = each-good run run-good L h empty_shelf good-empty
