-- FORECASTS by what was found (`told-refused`, `told-steps`). WHAT A FORECAST TELLS (`to-empty`, `forecast-tells`, and `recipe-tells` of a recipe): with a
-- target that is there and empty the call's tests are the forecast's, then 17 and 14 (`told-by`), and where it is accepted its steps are those foretold. So a
-- forecast of whatever is accepted has the steps that are returned (`foretold-made`, `recipe-made`). Slots behind a recipe's count have no part in it
-- (`forecast-others`). For whole sources they are one formula (`product-total`, `inverse-total`, `converse-total`, `recipe-total`).
use Prim.Native.Nat.{ℕ, ◌<◌}
use native.Mathlib.Omega.{arith}
use mathlib.Core.Path.{◌≡◌, refl, sym, ap, ap₂, ◌∙◌, subst}
use mathlib.Core.Logic.{inl, inr}
use mathlib.Core.Bool.{Bool, true, false, false≢true}
use mathlib.Core.List.{List, [], ◌∷◌, map}
use lib.IntN.{pos, nat_abs}
use lib.ListN.{length, get_or}
use Rattle.number.specs.declared.Number.{Number}
use Rattle.number.specs.Number.{rounded}
use Rattle.words.specs.Operation.{Operation, joined, size, bound, row_by_row, result}
use Rattle.words.specs.Effort.{steps_made, steps_foretold, whole_steps}
use Rattle.words.proofs.Totals.{whole-total}
use Rattle.table.specs.Table.{outside}
use Rattle.verdict.specs.declared.Refusal.{Refusal}
use Rattle.std.specs.Prelude.{Ok, Err}
use Rattle.verdict.specs.declared.Reason.{Reason}
use Rattle.verdict.specs.declared.Reason.TheVariants.{ExponentOutOfRange, Singular, WrongStepCount}
use Rattle.verdict.specs.Verdict.{Verdict, number_of, first_behind, first_of, or_else, when}
use Rattle.verdict.specs.Report.{Report, accepted, refused, report_of}
use Rattle.verdict.proofs.Verdicts.{or-else-accepted, or-else-both, first-behind, first-last, first-passed, when-accepted, when-refused, when-left}
use Rattle.conditions.specs.Conditions.{miscounted, misclamped, sources_alone, sources_to, recipe_alone}
use Rattle.conditions.proofs.Passed.{Target, counted, apart, choice-apart, to-target}
use Rattle.recipes.specs.declared.Recipe.{Recipe}
use Rattle.recipes.specs.declared.RecipeStep.{RecipeStep}
use Rattle.recipes.specs.Recipe.{place_of, steps_in, places_in}
use Rattle.recipes.proofs.Slots.{taken-length}
use Rattle.walk.specs.declared.Way.TheVariants.{Inverted, Conversed}
use Rattle.places.specs.declared.Shelf.{Shelf}
use Rattle.places.specs.Shelf.{rows_at, Good}
use Rattle.places.specs.Tests.{unfit, source_tests, both_sources, one_source, two_sources}
use Rattle.places.proofs.Verdicts.{one-accepted}
use Rattle.operations.specs.declared.Task.{Task}
use Rattle.operations.specs.declared.Task.TheVariants.{Product, Inverse, Converse, Transpose, Submatrix, Schur}
use Rattle.operations.specs.Operations.{done, factor_test, operation_verdict, operation_call, transpose_call, product_at, inverse_at, converse_at, submatrix_at}
use Rattle.operations.specs.Operations.{step_with, joined_rows, joined_at, recipe_tests, recipe_call}
use Rattle.operations.specs.Operations.{schur_at, singular, chosen_tests, submatrix_tests, set_tests, clamped_tests}
use Rattle.operations.specs.Forecast.{foretelling, clamped_alone, forecast_call, recipe_forecast, task_call, foretold_report}
use Rattle.operations.specs.Forecast.{Found, RecipeFound, Foretells, Foretelling}
use Rattle.operations.specs.Forecast as forecast
use Rattle.operations.proofs.Results.{Ready, ready-foretold, submatrix-ready, schur-ready}
use Rattle.operations.proofs.Recipes.{product-ready, whole_ready, recipe-ready, rows-others}

module _ (L : List Verdict) where
  pub told-refused : (w : Refusal) (n : ℕ) → first_of L ≡ Err w → foretold_report (Err w) ≡ foretelling L n
  told-refused w n e = ap (λ (v : Verdict). report_of v (pos n ∷ [])) (sym e)

  pub told-steps : (k n : ℕ) → first_of L ≡ Ok tt → k ≡ n → foretold_report (Ok k) ≡ foretelling L n
  told-steps k n e f = ap (λ (x : ℕ). accepted (pos x ∷ [])) f ∙ ap (λ (v : Verdict). report_of v (pos n ∷ [])) (sym e)

  -- behind a test that passed
  pub told-behind : {c : Bool} (k : Reason) (n : ℕ) → c ≡ false → foretelling L n ≡ foretelling (when c k ∷ L) n
  told-behind k n e = ap (λ (v : Verdict). report_of v (pos n ∷ [])) (sym (when-left k L e))

-- behind the verdict v of a forecast, 17 where c holds and then 14 where b does
told-by : (F : ℕ → Type 0) (v : Verdict) (c b : Bool) (k made steps : ℕ) → (c ≡ true → F 17) → (b ≡ true → F 14)
    → (or_else (or_else v (when c Singular)) (when b ExponentOutOfRange) ≡ Ok tt → made ≡ steps)
    → Foretells F (report_of v (pos steps ∷ [])) (report_of (or_else (or_else v (when c Singular)) (when b ExponentOutOfRange)) (done k made))
told-by F (Err w) c b k made steps p q h = forecast.turned_down (number_of w.reason) w.offset refl refl
told-by F (Ok tt) true b k made steps p q h = forecast.found-out steps 17 refl refl (p refl)
told-by F (Ok tt) false true k made steps p q h = forecast.found-out steps 14 refl refl (q refl)
told-by F (Ok tt) false false k made steps p q h = forecast.done-in k steps refl (ap (λ (e : ℕ). accepted (done k e)) (h refl))

-- the operation x behind the tests L, where the forecast's are T
operation-tells : (s : Shelf) (F : ℕ → Type 0) (L T : List Verdict) (c : Bool) (t n : ℕ) (x : Operation Number) → (c ≡ true → F 17) → F 14
    → first_of L ≡ or_else (first_of T) (when c Singular) → (first_of L ≡ Ok tt → Ready t n x)
    → Foretells F (foretelling T (steps_foretold n x)) (operation_call s L t n x).report
unfolding operation_call
operation-tells s F L T c t n x p r e ready =
    let q : operation_verdict L n x ≡ or_else (or_else (first_of T) (when c Singular)) (factor_test n x)
    = first-last L (factor_test n x) ∙ ap (λ (v : Verdict). or_else v (factor_test n x)) e in
    subst (λ (v : Verdict). Foretells F (foretelling T (steps_foretold n x)) (report_of v (done (bound n x) (steps_made rounded n x)))) (sym q)
    (told-by F (first_of T) c (outside (row_by_row (size n x) (result rounded n x))) (bound n x) _ _ p (λ b. r)
    (λ h. ready-foretold (ready (e ∙ (or-else-both (or_else (first_of T) (when c Singular)) (factor_test n x) h).0))))

-- 17 is not tested
not_tested : {A : Type 0} → false ≡ true → A
not_tested e = absurd (false≢true e)

-- steps joined, where 17 is not tested
joined-tells : (s : Shelf) (L T : List Verdict) (t n : ℕ) (x : Operation Number) → first_of L ≡ first_of T → (first_of L ≡ Ok tt → Ready t n x)
    → Foretells (λ k. k ≡ 14) (foretelling T (steps_foretold n x)) (operation_call s L t n x).report
joined-tells s L T t n x e ready = operation-tells s (λ k. k ≡ 14) L T false t n x not_tested refl (e ∙ sym (or-else-accepted (first_of T))) ready

to-empty : (s : Shelf) → Good s → (o : Task) (t : ℕ) → t < 8 → rows_at s t ≡ 0 → Foretells (Found o) (forecast_call s o) (task_call s o t).report
unfolding forecast_call transpose_call
to-empty s g (Product l r) t small none =
    joined-tells s (two_sources s l r t) (both_sources s l r) t (rows_at s l) (product_at s l r) (apart (rows_at s) (l ∷ r ∷ []) t small none)
    (product-ready s g l r t)
to-empty s g (Inverse p) t small none =
    joined-tells s (one_source s p t) (source_tests s p) t (rows_at s p) (inverse_at s p) (apart (rows_at s) (p ∷ []) t small none) (whole_ready s g Inverted p t)
to-empty s g (Converse p) t small none =
    joined-tells s (one_source s p t) (source_tests s p) t (rows_at s p) (converse_at s p) (apart (rows_at s) (p ∷ []) t small none) (whole_ready s g Conversed p t)
to-empty s g (Transpose p) t small none =
    let v = first_of (source_tests s p) in
    let q : first_of (one_source s p t) ≡ or_else (or_else v (Ok tt)) (Ok tt)
    = apart (rows_at s) (p ∷ []) t small none ∙ sym (or-else-accepted v) ∙ sym (or-else-accepted (or_else v (Ok tt))) in
    subst (λ (u : Verdict). Foretells (Found (Transpose p)) (foretelling (source_tests s p) 0) (report_of u (done 0 0))) (sym q)
    (told-by (Found (Transpose p)) v false false 0 0 0 not_tested not_tested (λ h. refl))
to-empty s g (Submatrix p I J) t small none =
    let w = when (singular (rows_at s p) (submatrix_at s p I J)) Singular in
    operation-tells s (Found (Submatrix p I J)) (submatrix_tests s p I J t) (set_tests s p I J) (singular (rows_at s p) (submatrix_at s p I J)) t (rows_at s p)
    (submatrix_at s p I J) (λ e. inr refl) (inl refl)
    (first-last (chosen_tests s p I J t) w ∙ ap (λ (v : Verdict). or_else v w) (choice-apart (rows_at s) p (unfit (rows_at s p) I J) t small none))
    (submatrix-ready s g p I J t)
to-empty s g (Schur p k) t small none =
    joined-tells s (clamped_tests s p k t) (clamped_alone s p k) t (rows_at s p) (schur_at s p k)
    (choice-apart (rows_at s) p (misclamped (rows_at s p) k) t small none) (schur-ready s g p k t)

-- AN ACCEPTED OPERATION: its target is there and empty, and its report tells the steps
abbrev is_accepted : Report → Bool
is_accepted (accepted values) = true
is_accepted (refused k o) = false

abbrev second : Report → ℕ
second (accepted values) = nat_abs (get_or values 1 (pos 0))
second (refused k o) = 0

passed : (v : Verdict) (k e : ℕ) (r : Report) → report_of v (done k e) ≡ r → is_accepted r ≡ true → v ≡ Ok tt
passed (Ok tt) k e r h a = refl
passed (Err w) k e r h a = absurd (false≢true (ap is_accepted h ∙ a))

task-target : (s : Shelf) (o : Task) (t : ℕ) (r : Report) → (task_call s o t).report ≡ r → is_accepted r ≡ true → Target (rows_at s) t
unfolding transpose_call operation_call
task-target s (Product l r) t x h a = to-target (rows_at s) (l ∷ r ∷ []) t (first-passed (two_sources s l r t) _ (passed _ _ _ x h a)).0
task-target s (Inverse p) t x h a = (one-accepted s p t (first-passed (one_source s p t) _ (passed _ _ _ x h a)).0).1
task-target s (Converse p) t x h a = (one-accepted s p t (first-passed (one_source s p t) _ (passed _ _ _ x h a)).0).1
task-target s (Transpose p) t x h a = (one-accepted s p t (passed _ 0 0 x h a)).1
task-target s (Submatrix p I J) t x h a =
    let e = (first-passed (submatrix_tests s p I J t) _ (passed _ _ _ x h a)).0 in
    (one-accepted s p t (first-passed (one_source s p t) _ (first-passed (chosen_tests s p I J t) _ e).0).0).1
task-target s (Schur p k) t x h a =
    (one-accepted s p t (first-passed (one_source s p t) _ (first-passed (clamped_tests s p k t) _ (passed _ _ _ x h a)).0).0).1

made_by : {F : ℕ → Type 0} {f r : Report} → Foretells F f r → (b e : ℕ) → r ≡ accepted (done b e) → f ≡ accepted (pos e ∷ [])
made_by (forecast.turned_down k offset p q) b e h = absurd (false≢true (ap is_accepted (sym q ∙ h)))
made_by (forecast.done-in b' e' p q) b e h = p ∙ ap (λ (x : ℕ). accepted (pos x ∷ [])) (ap second (sym q ∙ h))
made_by (forecast.found-out e' k p q g) b e h = absurd (false≢true (ap is_accepted (sym q ∙ h)))

-- MADE AS FORETOLD, whatever is accepted
pub foretold-made : (s : Shelf) → Good s → (o : Task) (t b e : ℕ) → (task_call s o t).report ≡ accepted (done b e) → forecast_call s o ≡ accepted (pos e ∷ [])
foretold-made s g o t b e h = let a = task-target s o t _ h refl in made_by (to-empty s g o t a.small a.none) b e h

-- THE PROMISE OF (k)
pub forecast-tells : (s : Shelf) → Good s → (o : Task) (f : Report) → f ≡ forecast_call s o → Foretelling s (Found o) (task_call s o) f
forecast-tells s g o f e =
    subst (Foretelling s (Found o) (task_call s o)) (sym e) (record { to-empty = to-empty s g o; made = foretold-made s g o })

-- A RECIPE
module _ (s : Shelf) (g : Good s) (r : Recipe) (long : length r.steps ≡ 6) where
  abbrev tests : List Verdict
  tests = recipe_alone (rows_at s) r.count (places_in r)

  -- the count is tested alike
  recipe-apart : (t : ℕ) → t < 8 → rows_at s t ≡ 0 → first_of (recipe_tests s r t) ≡ first_of tests
  unfolding first_behind
  recipe-apart t small none =
      let w = when (miscounted r.count) WrongStepCount in
      first-behind w (sources_to (rows_at s) (places_in r) t) ∙ ap (or_else w) (apart (rows_at s) (places_in r) t small none)
      ∙ sym (first-behind w (sources_alone (rows_at s) (places_in r)))

  recipe-to-empty : (t : ℕ) → t < 8 → rows_at s t ≡ 0 → Foretells RecipeFound (recipe_forecast s r) (recipe_call s r t).report
  unfolding recipe_forecast
  recipe-to-empty t small none =
      joined-tells s (recipe_tests s r t) tests t (joined_rows s r) (joined_at s r) (recipe-apart t small none) (recipe-ready s g r t long)

  recipe-target : (t : ℕ) (x : Report) → (recipe_call s r t).report ≡ x → is_accepted x ≡ true → Target (rows_at s) t
  unfolding operation_call
  recipe-target t x h a =
      to-target (rows_at s) (places_in r) t
      (when-accepted (miscounted r.count) WrongStepCount (sources_to (rows_at s) (places_in r) t)
      (first-passed (recipe_tests s r t) _ (passed _ _ _ x h a)).0).1

  pub recipe-made : (t b e : ℕ) → (recipe_call s r t).report ≡ accepted (done b e) → recipe_forecast s r ≡ accepted (pos e ∷ [])
  recipe-made t b e h = let a = recipe-target t _ h refl in made_by (recipe-to-empty t a.small a.none) b e h

  pub recipe-tells : (f : Report) → f ≡ recipe_forecast s r → Foretelling s RecipeFound (recipe_call s r) f
  recipe-tells f e = subst (Foretelling s RecipeFound (recipe_call s r)) (sym e) (record { to-empty = recipe-to-empty; made = recipe-made })

-- where the count is wrong, nothing else has a part
miscounted-told : (s : Shelf) (r : Recipe) (n : ℕ) → miscounted r.count ≡ true
    → foretelling (recipe_alone (rows_at s) r.count (places_in r)) n ≡ refused 18 0
miscounted-told s r n e = ap (λ (v : Verdict). report_of v (pos n ∷ [])) (when-refused WrongStepCount (sources_alone (rows_at s) (places_in r)) e)

-- what stands behind the count changes nothing here either
pub forecast-others : (s : Shelf) (r q : Recipe) → r.count ≡ q.count → steps_in r ≡ steps_in q → recipe_forecast s r ≡ recipe_forecast s q
unfolding recipe_forecast
forecast-others s r q many same = by (miscounted r.count) refl
  where
    by : (b : Bool) → miscounted r.count ≡ b
        → foretelling (recipe_alone (rows_at s) r.count (places_in r)) (steps_foretold (joined_rows s r) (joined_at s r))
        ≡ foretelling (recipe_alone (rows_at s) q.count (places_in q)) (steps_foretold (joined_rows s q) (joined_at s q))
    by true e = miscounted-told s r _ e ∙ sym (miscounted-told s q _ (sym (ap miscounted many) ∙ e))
    by false e =
        ap₂ (λ (m : ℕ) (L : List RecipeStep).
        foretelling (recipe_alone (rows_at s) m (map place_of L)) (steps_foretold (joined_rows s r) (joined (map (step_with s) L)))) many same
        ∙ ap (λ (n : ℕ). foretelling (recipe_alone (rows_at s) q.count (places_in q)) (steps_foretold n (joined_at s q)))
        (rows-others s r q many same (counted r.count e).0)

-- WHAT A PLANNER WRITES DOWN: the steps of whole sources in one formula
module _ (s : Shelf) where
  pub product-total : (l r : ℕ) → forecast_call s (Product l r) ≡ foretelling (both_sources s l r) (whole_steps 2 (rows_at s l))
  unfolding forecast_call
  product-total l r = ap (foretelling (both_sources s l r)) (whole-total 2 (rows_at s l))

  pub inverse-total : (p : ℕ) → forecast_call s (Inverse p) ≡ foretelling (source_tests s p) (whole_steps 1 (rows_at s p))
  unfolding forecast_call
  inverse-total p = ap (foretelling (source_tests s p)) (whole-total 1 (rows_at s p))

  pub converse-total : (p : ℕ) → forecast_call s (Converse p) ≡ foretelling (source_tests s p) (whole_steps 1 (rows_at s p))
  unfolding forecast_call
  converse-total p = ap (foretelling (source_tests s p)) (whole-total 1 (rows_at s p))

  pub recipe-total : (r : Recipe) → length r.steps ≡ 6
      → recipe_forecast s r ≡ foretelling (recipe_alone (rows_at s) r.count (places_in r)) (whole_steps r.count (joined_rows s r))
  unfolding recipe_forecast
  recipe-total r long = by (miscounted r.count) refl
    where
      L : List Verdict
      L = recipe_alone (rows_at s) r.count (places_in r)

      by : (b : Bool) → miscounted r.count ≡ b
          → foretelling L (steps_foretold (joined_rows s r) (joined_at s r)) ≡ foretelling L (whole_steps r.count (joined_rows s r))
      by true e = miscounted-told s r _ e ∙ sym (miscounted-told s r _ e)
      by false e =
          let c = counted r.count e in
          ap (foretelling L) (whole-total (length (map (step_with s) (steps_in r))) (joined_rows s r)
          ∙ ap (λ (m : ℕ). whole_steps m (joined_rows s r)) (taken-length (step_with s) r.count r.steps (omega (arith, long, c.1))))
