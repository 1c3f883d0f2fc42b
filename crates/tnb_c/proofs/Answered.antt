-- WHAT THE ANSWERS PROMISE: demand 3 (`product-answered`, `inverse-answered`, `converse-answered`, `submatrix-answered`, `schur-answered`, `recipe-answered`)
-- and the promise of a build (`build-answered`); `away-answered`, `away-promising` of a shelf that is turned away. An answer with number 0 is the shelf's own,
-- of an accepted call, since 255 is not 0 and every reason has a number above 0 (`numbered`).
use Prim.Native.Nat.{ℕ, suc}
use native.Mathlib.Omega.{arith}
use mathlib.Core.Path.{◌≡◌, refl, sym, ap, ◌∙◌, subst}
use mathlib.Core.Bool.{Bool}
use mathlib.Core.List.{List, [], ◌∷◌, ◌++◌}
use lib.IntN.{ℤ, pos, nat_abs}
use lib.ListN.{length, get_or}
use Rattle.words.specs.Effort.{steps_made}
use Rattle.number.specs.declared.Number.{Number}
use Rattle.number.specs.Number.{rounded}
use Rattle.words.specs.Word.{Factors}
use Rattle.words.specs.Operation.{Operation, size, bound, row_by_row, result}
use Rattle.std.specs.Prelude.{Ok, Err}
use Rattle.verdict.specs.Verdict.{Verdict, first_of}
use Rattle.table.specs.Table.{outside}
use Rattle.stamps.specs.Stamps.{mistimed, built_factors, stamp_bound}
use Rattle.places.specs.declared.Shelf.{Shelf}
use Rattle.places.specs.Outcome.{Outcome}
use Rattle.places.specs.Shelf.{rows_at, holding, Good}
use Rattle.places.specs.Tests.{unfit, target_tests, one_source, two_sources}
use Rattle.conditions.specs.Conditions.{miscounted, misclamped, above, each_tested, empty, full, differ, alike_tests, sources_to, choice_to}
use Rattle.walk.specs.declared.Way.TheVariants.{Inverted, Conversed}
use Rattle.recipes.specs.declared.Recipe.{Recipe}
use Rattle.recipes.specs.Recipe.{places_in}
use Rattle.places.proofs.Checking.{good-tested}
use Rattle.operations.specs.Operations.{resulting, done, factor_test, operation_verdict, operation_call, product_at, inverse_at, converse_at, submatrix_at}
use Rattle.operations.specs.Operations.{singular, chosen_tests, submatrix_tests, schur_at, clamped_tests, joined_rows, joined_at, recipe_tests}
use Rattle.operations.specs.Operations.{build_tests, build_call}
use Rattle.operations.specs.Promise.{Met, Built}
use Rattle.operations.proofs.Results.{Ready, submatrix-ready, schur-ready, operation-met}
use Rattle.operations.proofs.Recipes.{product-ready, whole_ready, recipe-ready}
use Rattle.operations.proofs.Building.{build-met}
use Rattle.shelf.specs.Run.{Call, product, inverse, converse, submatrix, schur, recipe, build, run}
use Rattle.tnb_c.specs.declared.Answer.{Answer}
use Rattle.tnb_c.specs.Answers.{turned_away, checked, answer_of, Promising, Answered, BuiltAnswer}
use Rattle.tnb_c.proofs.Checked.{run-checked}
use Rattle.tnb_c.proofs.Numbers.{numbered}

-- A PROMISE P of the shelf, the bound and the steps
module _ (P : Shelf → ℕ → ℕ → Type 0) where
  -- the shelf's own answer to a call: where it was accepted, P of what is held and returned
  resulting-promises : (s : Shelf) (t k : ℕ) (values : List ℤ) (b : Factors Number) (v : Verdict)
      → (v ≡ Ok tt → P (holding s t k b) (nat_abs (get_or values 0 (pos 0))) (nat_abs (get_or values 1 (pos 0))))
      → Promising P (answer_of (resulting s t v k values b))
  resulting-promises s t k values b (Ok u) h g = h refl
  resulting-promises s t k values b (Err w) h g = absurd (let z = numbered w.reason in omega (arith, z, g))

  -- on a good shelf the call is run
  own-promises : (s : Shelf) → Good s → (c : Call) → Promising P (answer_of (run s c)) → Promising P (answer_of (checked s c))
  own-promises s good c h = subst (λ (x : Outcome). Promising P (answer_of x)) (run-checked s c (good-tested s good)) h

  -- what a call answered a is known to equal: the contract's two clauses
  pub with-promise : (a b : Answer) → a ≡ b → Promising P b → (a ≡ b) × Promising P a
  with-promise a b e h = (e, subst (Promising P) (sym e) h)

  -- 255 is not 0
  pub away-promising : (a : Answer) (s : Shelf) → a ≡ answer_of (turned_away s [] []) → Promising P a
  away-promising a s e h = absurd (let z : ◌≡◌ {A = ℕ} 255 0 = sym (ap (λ (x : Answer). x.number) e) ∙ h in omega arith)

-- DEMAND 3 of an operation o on sources of n rows, to place t
module _ (a : Answer) (t n : ℕ) (o : Operation Number) where
  pub with-demand : (b : Answer) → a ≡ b → Answered b t n o → (a ≡ b) × Answered a t n o
  with-demand b = with-promise (λ s k e. Met s t n o k e) a b

  pub away-answered : (s : Shelf) → a ≡ answer_of (turned_away s [] []) → Answered a t n o
  away-answered = away-promising (λ s k e. Met s t n o k e) a

-- behind the tests L
operation-answered : (L : List Verdict) (t n : ℕ) (o : Operation Number) → (first_of L ≡ Ok tt → Ready t n o) → (s : Shelf) → Good s
    → (c : Call) → run s c ≡ operation_call s L t n o → Answered (answer_of (checked s c)) t n o
unfolding operation_call
operation-answered L t n o ready s good c e =
    own-promises (λ s k e. Met s t n o k e) s good c
    (subst (λ (x : Outcome). Answered (answer_of x) t n o) (sym e)
    (resulting-promises (λ s k e. Met s t n o k e) s t (size n o) (done (bound n o) (steps_made rounded n o)) (result rounded n o) (operation_verdict L n o)
    (operation-met L t n o ready s good)))

module _ (s : Shelf) (good : Good s) where
  pub product-answered : (l r t : ℕ) → Answered (answer_of (checked s (product l r t))) t (rows_at s l) (product_at s l r)
  unfolding run
  product-answered l r t =
      operation-answered (two_sources s l r t) t _ _ (product-ready s good l r t) s good (product l r t) refl

  pub inverse-answered : (p t : ℕ) → Answered (answer_of (checked s (inverse p t))) t (rows_at s p) (inverse_at s p)
  unfolding run
  inverse-answered p t =
      operation-answered (one_source s p t) t _ _ (whole_ready s good Inverted p t) s good (inverse p t) refl

  pub converse-answered : (p t : ℕ) → Answered (answer_of (checked s (converse p t))) t (rows_at s p) (converse_at s p)
  unfolding run
  converse-answered p t =
      operation-answered (one_source s p t) t _ _ (whole_ready s good Conversed p t) s good (converse p t) refl

  pub submatrix-answered : (p I J t : ℕ) → Answered (answer_of (checked s (submatrix p I J t))) t (rows_at s p) (submatrix_at s p I J)
  unfolding run
  submatrix-answered p I J t =
      operation-answered (submatrix_tests s p I J t) t _ _ (submatrix-ready s good p I J t) s good (submatrix p I J t) refl

  pub schur-answered : (p k t : ℕ) → Answered (answer_of (checked s (schur p k t))) t (rows_at s p) (schur_at s p k)
  unfolding run
  schur-answered p k t =
      operation-answered (clamped_tests s p k t) t _ _ (schur-ready s good p k t) s good (schur p k t) refl

  pub recipe-answered : (r : Recipe) (t : ℕ) → length r.steps ≡ 6 → Answered (answer_of (checked s (recipe r t))) t (joined_rows s r) (joined_at s r)
  unfolding run
  recipe-answered r t long =
      operation-answered (recipe_tests s r t) t _ _ (recipe-ready s good r t long) s good (recipe r t) refl

  -- THE PROMISE OF A BUILD
  pub build-answered : (t : ℕ) (stamps : List ℕ) → BuiltAnswer (answer_of (checked s (build t stamps))) t stamps
  unfolding run build_call
  build-answered t stamps =
      own-promises (λ s k e. Built s t stamps k) s good (build t stamps)
      (resulting-promises (λ s k e. Built s t stamps k) s t (length stamps) (pos stamp_bound ∷ []) (built_factors stamps) (first_of (build_tests s t stamps))
      (build-met s t stamps good))
