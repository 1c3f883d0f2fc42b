-- FORECASTS (document 02, (k)): the steps of an operation on places, told without working it (`forecast_call`), and of a recipe (`recipe_forecast`). A forecast
-- names no target and tests as the call does, without 12, 14 and 17: what it tells of the call itself (`Foretelling`).
use Rattle.std.specs.Prelude.{ℕ, ◌<◌, ◌≡◌, ◌⊎◌, List, [], ◌∷◌, pos, Result}
use Rattle.words.specs.Effort.{steps_foretold}
use Rattle.verdict.specs.Verdict.{Verdict, first_of}
use Rattle.verdict.specs.declared.Refusal.{Refusal}
use Rattle.verdict.specs.Report.{Report, accepted, refused, answer_report, report_of}
use Rattle.places.specs.declared.Shelf.{Shelf}
use Rattle.places.specs.Shelf.{rows_at}
use Rattle.places.specs.Outcome.{Outcome}
use Rattle.places.specs.Tests.{source_tests, both_sources}
use Rattle.conditions.specs.Conditions.{misclamped, choice_alone, recipe_alone}
use Rattle.recipes.specs.declared.Recipe.{Recipe}
use Rattle.recipes.specs.Recipe.{places_in}
use Rattle.operations.specs.Operations.{done, product_at, inverse_at, converse_at, submatrix_at, schur_at, set_tests}
use Rattle.operations.specs.Operations.{joined_rows, joined_at, product_call, inverse_call, converse_call, transpose_call, submatrix_call, schur_call}
use Rattle.operations.specs.declared.Task.{Task}
use Rattle.operations.specs.declared.Task.TheVariants.{Product, Inverse, Converse, Transpose, Submatrix, Schur}

-- the steps, behind the tests L
abbrev pub foretelling : List Verdict → ℕ → Report
foretelling L steps = report_of (first_of L) (pos steps ∷ [])

-- the tests of a Schur complement without a target
abbrev pub clamped_alone : Shelf → ℕ → ℕ → List Verdict
clamped_alone s p k = choice_alone (rows_at s) p (misclamped (rows_at s p) k)

-- A FORECAST; a transpose has no word, and makes no step
unfoldable pub forecast_call : Shelf → Task → Report
forecast_call s (Product l r) = foretelling (both_sources s l r) (steps_foretold (rows_at s l) (product_at s l r))
forecast_call s (Inverse p) = foretelling (source_tests s p) (steps_foretold (rows_at s p) (inverse_at s p))
forecast_call s (Converse p) = foretelling (source_tests s p) (steps_foretold (rows_at s p) (converse_at s p))
forecast_call s (Transpose p) = foretelling (source_tests s p) 0
forecast_call s (Submatrix p I J) = foretelling (set_tests s p I J) (steps_foretold (rows_at s p) (submatrix_at s p I J))
forecast_call s (Schur p k) = foretelling (clamped_alone s p k) (steps_foretold (rows_at s p) (schur_at s p k))

-- of a recipe, whose array no task can hold
unfoldable pub recipe_forecast : Shelf → Recipe → Report
recipe_forecast s r = foretelling (recipe_alone (rows_at s) r.count (places_in r)) (steps_foretold (joined_rows s r) (joined_at s r))

-- the operation itself, to place t
abbrev pub task_call : Shelf → Task → ℕ → Outcome
task_call s (Product l r) t = product_call s l r t
task_call s (Inverse p) t = inverse_call s p t
task_call s (Converse p) t = converse_call s p t
task_call s (Transpose p) t = transpose_call s p t
task_call s (Submatrix p I J) t = submatrix_call s p I J t
task_call s (Schur p k) t = schur_call s p k t

-- what only the working of an operation finds: 14, of a submatrix 17 too, of a transpose nothing
abbrev pub Found : Task → ℕ → Type 0
Found (Product l r) k = k ≡ 14
Found (Inverse p) k = k ≡ 14
Found (Converse p) k = k ≡ 14
Found (Transpose p) k = ⊥
Found (Submatrix p I J) k = (k ≡ 14) ⊎ (k ≡ 17)
Found (Schur p c) k = k ≡ 14

-- of a recipe 14
abbrev pub RecipeFound : ℕ → Type 0
RecipeFound k = k ≡ 14

-- WHAT A FORECAST f TELLS of its call, which reports r: it is turned down alike; or it is done in the steps foretold; or its working turns it down, with a
-- number that only that finds
pub data Foretells (F : ℕ → Type 0) (f r : Report) : Type 0 where
  turned_down : (k offset : ℕ) → f ≡ refused k offset → r ≡ refused k offset → Foretells F f r
  done-in : (b e : ℕ) → f ≡ accepted (pos e ∷ []) → r ≡ accepted (done b e) → Foretells F f r
  found-out : (e k : ℕ) → f ≡ accepted (pos e ∷ []) → r ≡ refused k 0 → F k → Foretells F f r

-- so to any place that is there and empty; and to whatever place, what was done was foretold
pub record Foretelling (s : Shelf) (F : ℕ → Type 0) (call : ℕ → Outcome) (f : Report) : Type 0 where
  pub to-empty : (t : ℕ) → t < 8 → rows_at s t ≡ 0 → Foretells F f (call t).report
  pub made : (t b e : ℕ) → (call t).report ≡ accepted (done b e) → f ≡ accepted (pos e ∷ [])

-- what a forecast's answer reports
abbrev pub foretold_report : Result ℕ Refusal → Report
foretold_report = answer_report (λ n. pos n ∷ [])
