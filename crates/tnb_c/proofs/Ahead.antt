-- WHAT WAS FORETOLD IS WHAT C IS ANSWERED: the steps of an operation or recipe that is answered 0 (`foretold-answered`, `recipe-foretold`), and the length of a
-- write (`measured-answered`).
-- A refusal has a number above 0, so 0 says accepted; and then `foretold-made` and `length-tells` say the rest. A shelf that is not good is answered 255.
use Prim.Native.Nat.{ℕ}
use native.Mathlib.Omega.{arith}
use mathlib.Core.Path.{◌≡◌, refl, sym, ap, ◌∙◌}
use mathlib.Core.Bool.{false}
use mathlib.Core.List.{List, [], ◌∷◌, ◌++◌}
use lib.IntN.{pos, nat_abs}
use lib.ListN.{length}
use Rattle.number.specs.declared.Number.{Number}
use Rattle.number.specs.Number.{rounded}
use Rattle.words.specs.Operation.{Operation, size, bound, row_by_row, result}
use Rattle.words.specs.Effort.{steps_made}
use Rattle.table.specs.Table.{outside}
use Rattle.std.specs.Prelude.{Ok, Err}
use Rattle.verdict.specs.Verdict.{Verdict, first_of}
use Rattle.verdict.specs.Report.{Report, accepted, refused, report_of}
use Rattle.places.specs.declared.Shelf.{Shelf}
use Rattle.places.specs.Shelf.{rows_at, Good}
use Rattle.places.specs.Check.{is_good}
use Rattle.places.proofs.Checking.{good-tested}
use Rattle.places.specs.Tests.{unfit, one_source, two_sources}
use Rattle.places.specs.Outcome.{Outcome}
use Rattle.operations.specs.declared.Task.{Task}
use Rattle.operations.specs.declared.Task.TheVariants.{Product, Inverse, Converse, Transpose, Submatrix, Schur}
use Rattle.operations.specs.Operations.{done, factor_test, operation_verdict, operation_call, transpose_call, singular, submatrix_at, chosen_tests, submatrix_tests}
use Rattle.operations.specs.Operations.{clamped_tests, recipe_tests}
use Rattle.operations.specs.Forecast.{task_call}
use Rattle.operations.proofs.Forecasts.{foretold-made, recipe-made}
use Rattle.conditions.specs.Conditions.{miscounted, misclamped}
use Rattle.recipes.specs.declared.Recipe.{Recipe}
use Rattle.recipes.specs.Recipe.{places_in}
use Rattle.shelf.specs.Calls.{write_call, length_call, Measures}
use Rattle.shelf.specs.Calls as calls
use Rattle.shelf.specs.Run.{Call, write, byte_length, operate, forecast, recipe, forecast_recipe, run}
use Rattle.shelf.proofs.Writing.{length-tells}
use Rattle.tnb_c.specs.declared.Steps.{Steps}
use Rattle.tnb_c.specs.declared.Length.{Length}
use Rattle.tnb_c.specs.Answers.{foreign, checked, number_of, value_at, answer_of, steps_of, length_of, ForetoldAnswer, MeasuredAnswer}
use Rattle.tnb_c.proofs.Checked.{run-checked, foreign-checked}
use Rattle.tnb_c.proofs.Numbers.{numbered}

-- AN OPERATION ANSWERED 0 was accepted: what it reports is its bound and its steps
pub record Made (r : Report) : Type 0 where
  pub bound-made : ℕ
  pub steps-made : ℕ
  pub reports : r ≡ accepted (done bound-made steps-made)

made : (v : Verdict) (b e : ℕ) → number_of (report_of v (done b e)) ≡ 0 → Made (report_of v (done b e))
made (Ok u) b e z = record { bound-made = b; steps-made = e; reports = refl }
made (Err w) b e z = absurd (let n = numbered w.reason in omega (arith, n, z))

operation-made : (s : Shelf) (L : List Verdict) (t n : ℕ) (o : Operation Number) → number_of (operation_call s L t n o).report ≡ 0
    → Made (operation_call s L t n o).report
unfolding operation_call
operation-made s L t n o = made (operation_verdict L n o) (bound n o) (steps_made rounded n o)

task-made : (s : Shelf) (o : Task) (t : ℕ) → number_of (task_call s o t).report ≡ 0 → Made (task_call s o t).report
unfolding transpose_call
task-made s (Product l r) t = operation-made s (two_sources s l r t) t _ _
task-made s (Inverse p) t = operation-made s (one_source s p t) t _ _
task-made s (Converse p) t = operation-made s (one_source s p t) t _ _
task-made s (Transpose p) t = made (first_of (one_source s p t)) 0 0
task-made s (Submatrix p I J) t =
    operation-made s (submatrix_tests s p I J t) t _ _
task-made s (Schur p k) t = operation-made s (clamped_tests s p k t) t _ _

-- a shelf that is not good: no call is answered 0
module _ (s : Shelf) (bad : is_good s ≡ false) where
  not-nothing : ◌≡◌ {A = ℕ} 255 0 → ⊥
  not-nothing z = omega arith

  -- both clauses of a forecast's contract
  pub away-foretold : (ahead : Call) (call : ℕ → Call) (f : Steps) → f ≡ steps_of (refused 255 0) → (foreign s ahead).report ≡ refused 255 0
      → ((t : ℕ) → (foreign s (call t)).report ≡ refused 255 0) → (f ≡ steps_of (checked s ahead).report) × ForetoldAnswer s call f
  away-foretold ahead call f told e away = (
    told ∙ sym (ap steps_of e) ∙ ap (λ (x : Outcome). steps_of x.report) (foreign-checked s ahead bad),
    λ t z. absurd (not-nothing (sym (ap number_of (away t)) ∙ ap (λ (x : Outcome). number_of x.report) (foreign-checked s (call t) bad) ∙ z)),
  )

  pub away-measured : (p : ℕ) (f : Length) → f ≡ length_of (checked s (byte_length p)).report → MeasuredAnswer s p f
  away-measured p f e out z = absurd (not-nothing (ap (λ (x : Outcome). number_of x.report) (foreign-checked s (write p out) bad) ∙ z))

-- A GOOD ONE
measured-by : {f r : Report} (room : ℕ) → Measures room f r → number_of r ≡ 0 → (number_of f ≡ 0) × ((length_of f).length ≡ (length_of r).length)
measured-by room (calls.turned_down k o p q) z =
    (ap number_of p ∙ sym (ap number_of q) ∙ z, ap (λ (x : Report). (length_of x).length) p ∙ sym (ap (λ (x : Report). (length_of x).length) q))
measured-by room (calls.done-in k p l q) z = (ap number_of p, ap (λ (x : Report). (length_of x).length) p ∙ sym (ap (λ (x : Report). (length_of x).length) q))
measured-by room (calls.no_room k p l q) z = absurd (let g : ◌≡◌ {A = ℕ} 10 0 = sym (ap number_of q) ∙ z in omega arith)

module _ (s : Shelf) (good : Good s) where
  -- a call whose steps were foretold by another
  answered-by : (call : ℕ → Call) (ahead : Call) → ((t : ℕ) → number_of (run s (call t)).report ≡ 0 → Made (run s (call t)).report)
      → ((t b e : ℕ) → (run s (call t)).report ≡ accepted (done b e) → (run s ahead).report ≡ accepted (pos e ∷ []))
      → (f : Steps) → f ≡ steps_of (checked s ahead).report → ForetoldAnswer s call f
  answered-by call ahead done-by told f e t z =
      let tested = good-tested s good in
      let own : run s (call t) ≡ checked s (call t) = run-checked s (call t) tested in
      let m = done-by t (ap (λ (x : Outcome). number_of x.report) own ∙ z) in
      let is : f ≡ steps_of (accepted (pos m.steps-made ∷ [])) =
      e ∙ ap (λ (x : Outcome). steps_of x.report) (sym (run-checked s ahead tested)) ∙ ap steps_of (told t m.bound-made m.steps-made m.reports) in (
        ap (λ (x : Steps). x.number) is,
        ap (λ (x : Steps). x.steps) is ∙ sym (ap (λ (r : Report). nat_abs (value_at 1 r)) m.reports) ∙ ap (λ (x : Outcome). (answer_of x).steps) own,
      )

  pub foretold-answered : (o : Task) (f : Steps) → f ≡ steps_of (checked s (forecast o)).report → ForetoldAnswer s (operate o) f
  unfolding run
  foretold-answered o = answered-by (operate o) (forecast o) (task-made s o) (foretold-made s good o)

  pub recipe-foretold : (r : Recipe) → length r.steps ≡ 6 → (f : Steps) → f ≡ steps_of (checked s (forecast_recipe r)).report → ForetoldAnswer s (recipe r) f
  unfolding run
  recipe-foretold r long =
      answered-by (recipe r) (forecast_recipe r)
      (λ t. operation-made s (recipe_tests s r t) t _ _) (recipe-made s good r long)

  pub measured-answered : (p : ℕ) (f : Length) → f ≡ length_of (checked s (byte_length p)).report → MeasuredAnswer s p f
  unfolding run
  measured-answered p f e out z =
      let tested = good-tested s good in
      let own : write_call s p out ≡ checked s (write p out) = run-checked s (write p out) tested in
      let m = measured-by (length out) (length-tells s p (length_call s p) refl out) (ap (λ (x : Outcome). number_of x.report) own ∙ z) in
      let is : f ≡ length_of (length_call s p) = e ∙ ap (λ (x : Outcome). length_of x.report) (sym (run-checked s (byte_length p) tested)) in (
        ap (λ (x : Length). x.number) is ∙ m.0,
        ap (λ (x : Length). x.length) is ∙ m.1 ∙ ap (λ (x : Outcome). (length_of x.report).length) own,
      )
