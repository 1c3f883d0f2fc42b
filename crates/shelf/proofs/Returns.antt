-- HOW MUCH A CALL RETURNS: no call returns more than four values (`report-few`), and the bytes and items that it is lent stay as many (`write-length`,
-- `sentence-length`, `carry-length`), since it writes in place or leaves them; `rest` returns a part of its bytes (`rest-length`).
use Prim.Native.Nat.{ℕ, ◌≤◌}
use native.Mathlib.Omega.{arith}
use mathlib.Core.Path.{◌≡◌, refl}
use mathlib.Core.List.{List, []}
use lib.IntN.{ℤ}
use lib.ListN.{length, length-drop}
use lib.Seq.{sets, length-sets}
use Rattle.number.specs.declared.Number.{Number}
use Rattle.words.specs.Operation.{Operation}
use Rattle.std.specs.Prelude.{Ok, Err}
use Rattle.verdict.specs.Verdict.{Verdict, first_of, after}
use Rattle.verdict.specs.Report.{Report, accepted, refused, report_of}
use Rattle.reader.specs.Matrix.{Reading, matrix, fault, matrix_of, behind_by}
use Rattle.arithmetic.specs.Arithmetic.{arithmetic_tests, arithmetic_call}
use Rattle.lists.specs.Lists.{reversals_tests, reversals_call}
use Rattle.notices.specs.Sentence.{Notice, sentence_tests, sentence_of, sentence_report, bytes_after_sentence}
use Rattle.conditions.specs.Conditions.{recipe_alone}
use Rattle.recipes.specs.Recipe.{places_in}
use Rattle.places.specs.declared.Shelf.{Shelf}
use Rattle.places.specs.Shelf.{rows_at}
use Rattle.places.specs.Tests.{source_tests, both_sources, one_source}
use Rattle.operations.specs.declared.Task.{Task}
use Rattle.operations.specs.declared.Task.TheVariants.{Product, Inverse, Converse, Transpose, Submatrix, Schur}
use Rattle.operations.specs.Forecast.{clamped_alone, task_call, forecast_call, recipe_forecast}
use Rattle.operations.specs.Operations.{build_tests, set_tests, minor_tests, operation_verdict, transpose_call, build_call, operation_call, minor_call}
use Rattle.shelf.specs.Calls.{load_tests, write_tests, place_carry_tests, bytes_at, carried_at}
use Rattle.shelf.specs.Calls.{load_call, drop_call, write_call, length_call, carry_call, factor_call}
use Rattle.shelf.specs.Run.{Call, load, write, byte_length, drop, operate, forecast, recipe, forecast_recipe, build, minor}
use Rattle.shelf.specs.Run.{carry, reversals, arithmetic, rest, sentence, rows, factor, run}

-- the values of a report, none of a refusal
abbrev pub values_of : Report → List ℤ
values_of (accepted values) = values
values_of (refused number offset) = []

few : (v : Verdict) (values : List ℤ) → length values ≤ 4 → length (values_of (report_of v values)) ≤ 4
few (Ok tt) values h = h
few (Err w) values h = omega arith

operation-few : (s : Shelf) (L : List Verdict) (t n : ℕ) (o : Operation Number) → length (values_of (operation_call s L t n o).report) ≤ 4
unfolding operation_call
operation-few s L t n o = few (operation_verdict L n o) _ (omega arith)

task-few : (s : Shelf) (o : Task) (t : ℕ) → length (values_of (task_call s o t).report) ≤ 4
unfolding transpose_call
task-few s (Product l r) t = operation-few s _ _ _ _
task-few s (Inverse p) t = operation-few s _ _ _ _
task-few s (Converse p) t = operation-few s _ _ _ _
task-few s (Transpose p) t = few (first_of (one_source s p t)) _ (omega arith)
task-few s (Submatrix p I J) t = operation-few s _ _ _ _
task-few s (Schur p k) t = operation-few s _ _ _ _

forecast-few : (s : Shelf) (o : Task) → length (values_of (forecast_call s o)) ≤ 4
unfolding forecast_call
forecast-few s (Product l r) = few (first_of (both_sources s l r)) _ (omega arith)
forecast-few s (Inverse p) = few (first_of (source_tests s p)) _ (omega arith)
forecast-few s (Converse p) = few (first_of (source_tests s p)) _ (omega arith)
forecast-few s (Transpose p) = few (first_of (source_tests s p)) _ (omega arith)
forecast-few s (Submatrix p I J) = few (first_of (set_tests s p I J)) _ (omega arith)
forecast-few s (Schur p k) = few (first_of (clamped_alone s p k)) _ (omega arith)

-- a result with its rest has four values, no other call as many
pub report-few : (s : Shelf) (c : Call) → length (values_of (run s c).report) ≤ 4
unfolding run load_call drop_call write_call length_call carry_call factor_call build_call minor_call reversals_call arithmetic_call sentence_report recipe_forecast
report-few s (load p bytes) = few (first_of (load_tests s p bytes)) _ (omega arith)
report-few s (write p out) = few (first_of (write_tests s p out)) _ (omega arith)
report-few s (byte_length p) = few (first_of (source_tests s p)) _ (omega arith)
report-few s (drop p) = few (first_of (source_tests s p)) _ (omega arith)
report-few s (operate o t) = task-few s o t
report-few s (forecast o) = forecast-few s o
report-few s (recipe r t) = operation-few s _ _ _ _
report-few s (forecast_recipe r) = few (first_of (recipe_alone (rows_at s) r.count (places_in r))) _ (omega arith)
report-few s (build t stamps) = few (first_of (build_tests s t stamps)) _ (omega arith)
report-few s (minor p I J) = few (first_of (minor_tests s p I J)) _ (omega arith)
report-few s (carry p items out) = few (first_of (place_carry_tests s p items out)) _ (omega arith)
report-few s (reversals items) = few (first_of (reversals_tests items)) _ (omega arith)
report-few s (arithmetic o items) = few (first_of (arithmetic_tests items)) _ (omega arith)
report-few s (rest bytes) = omega arith
report-few s (sentence a out) = few (first_of (sentence_tests a out)) _ (omega arith)
report-few s (rows p) = omega arith
report-few s (factor p i j) = omega arith

-- values put over what was lent, or what was lent
as_lent : {A : Type 0} (v : Verdict) (out values : List A) → length (after v out (sets out 0 values)) ≡ length out
as_lent (Ok tt) out values = length-sets out 0 values
as_lent (Err w) out values = refl

behind-short : (bytes : List ℕ) (r : Reading) → length (behind_by bytes r) ≤ length bytes
behind-short bytes (matrix n L q) = simp length-drop (omega arith)
behind-short bytes (fault k o) = omega arith

module _ (s : Shelf) where
  pub write-length : (p : ℕ) (out : List ℕ) → length (run s (write p out)).bytes ≡ length out
  unfolding run write_call
  write-length p out = as_lent (first_of (write_tests s p out)) out (bytes_at s p)

  pub sentence-length : (a : Notice) (out : List ℕ) → length (run s (sentence a out)).bytes ≡ length out
  unfolding run bytes_after_sentence
  sentence-length a out = as_lent (first_of (sentence_tests a out)) out (sentence_of a)

  pub carry-length : (p : ℕ) (items out : List ℤ) → length (run s (carry p items out)).items ≡ length out
  unfolding run carry_call
  carry-length p items out = as_lent (first_of (place_carry_tests s p items out)) out (carried_at s p items)

  pub rest-length : (bytes : List ℕ) → length (run s (rest bytes)).bytes ≤ length bytes
  unfolding run
  rest-length bytes = behind-short bytes (matrix_of bytes)
