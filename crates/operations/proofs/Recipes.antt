-- STEPS JOINED. The steps of a recipe as they are put one after the other (`steps-none`, `steps_next`). Where the tests of one to six sources
-- passed, each is a place (`joined_small`), and the rule can be run (`joined-ready`, and so `product-ready`, `whole_ready`, `recipe-ready`); how many rows they
-- have without a target (`alone-rows`). What stands behind the count changes nothing (`recipe-others`), and two plain steps are the product call
-- (`recipe-product`).
use Prim.Native.Nat.{ℕ, zero, suc, ◌+◌, ◌≤◌, ◌<◌}
use native.Mathlib.Nat.{not-suc-le-zero}
use native.Mathlib.Omega.{arith}
use mathlib.Core.Path.{◌≡◌, refl, sym, ap, ap₂, ◌∙◌, subst}
use mathlib.Core.Bool.{Bool, true, false}
use mathlib.Core.List.{List, [], ◌∷◌, ◌++◌, map}
use lib.ListN.{length, get_or, take}
use Rattle.number.specs.declared.Number.{Number}
use Rattle.number.specs.Number.{rounded}
use Rattle.words.specs.Operation.{Step, Operation, joined, size, bound, result}
use Rattle.words.specs.Effort.{steps_made}
use Rattle.words.specs.Sources.{BandedNumbers, Sources}
use Rattle.factors.specs.Demand.{Proper}
use Rattle.verdict.specs.declared.Refusal.{Refusal}
use Rattle.std.specs.Prelude.{Ok, Err}
use Rattle.verdict.specs.declared.Reason.TheVariants.{WrongStepCount}
use Rattle.verdict.specs.Verdict.{Verdict, number_of, first_behind, first_of, or_else}
use Rattle.verdict.specs.Report.{refused}
use Rattle.verdict.proofs.Verdicts.{first-last, when-accepted, when-refused}
use Rattle.conditions.specs.Conditions.{miscounted, sources_alone, sources_to, recipe_to}
use Rattle.conditions.proofs.Passed.{Target, Held, counted, alone-accepted, to-accepted}
use Rattle.recipes.specs.declared.RecipeStep.{RecipeStep}
use Rattle.recipes.specs.declared.Recipe.{Recipe}
use Rattle.recipes.specs.Recipe.{taken, place_of, steps_in, places_in, slot_at, one_step, two_steps}
use Rattle.recipes.proofs.Slots.{map_next, taken-length, place_at}
use Rattle.walk.specs.declared.Joined.{Joined}
use Rattle.walk.specs.declared.Way.{Way}
use Rattle.walk.specs.declared.Way.TheVariants.{Plain}
use Rattle.walk.specs.Lent.{steps_of, no_steps, Prepared}
use Rattle.places.specs.declared.Shelf.{Shelf}
use Rattle.places.specs.Shelf.{rows_at, factors_at, Good}
use Rattle.places.specs.Outcome.{outcome}
use Rattle.places.specs.Tests.{one_source, two_sources}
use Rattle.places.proofs.Recipes.{places-some}
use Rattle.operations.specs.Operations.{resulting, done, factor_test}
use Rattle.operations.specs.Operations.{operation_call, product_at, product_call, step_with, joined_rows, joined_at, recipe_tests, recipe_call}
use Rattle.operations.specs.Proposed.{Made}
use Rattle.operations.proofs.Made.{made-start, made-next}
use Rattle.operations.proofs.Results.{Ready, whole}

-- THE STEPS as they are put: the first c of them
module _ (s : Shelf) (n : ℕ) (L : List RecipeStep) where
  abbrev pub Put : ℕ → Joined → List ℕ → List ℕ → Type 0
  Put c = Made n (map (step_with s) (take c L))

  pub steps-none : {w : Joined} {l b : List ℕ} → w ≡ no_steps n → length l ≡ 342 → length b ≡ 768 → Put 0 w l b
  steps-none = made-start

  pub steps_next : {c : ℕ} {w v : Joined} {l b l' b' : List ℕ} → c < length L → Put c w l b
      → (Prepared v l' b' × (v.n ≡ w.n) × (v.count ≡ w.count + 1)) × (steps_of v b' ≡ steps_of w b ++ (step_with s (get_or L c (taken Plain 0)) ∷ []))
      → Put (c + 1) v l' b'
  steps_next {c} {w} {v} {l} {b} {l'} {b'} h p g =
      let z : suc c ≡ c + 1 = omega arith in
      subst (λ (M : List (Step Number)). Made n M v l' b')
      (sym (map_next (step_with s) L c (taken Plain 0) h) ∙ ap (λ (m : ℕ). map (step_with s) (take m L)) z)
      (made-next (step_with s (get_or L c (taken Plain 0))) p g)

-- WHERE THE TESTS OF THE SOURCES PASSED
held_small : (rows : ℕ → ℕ) (n : ℕ) (L : List ℕ) → Held rows n L → (c : ℕ) → c < length L → get_or L c 0 < 8
held_small rows n [] h c l = absurd (not-suc-le-zero l)
held_small rows n (p ∷ L) h zero l = h.0
held_small rows n (p ∷ L) h (suc c) l = held_small rows n L h.2 c (omega arith)

module _ (s : Shelf) (r : Recipe) (long : length r.steps ≡ 6) (low : 1 ≤ r.count) (high : r.count ≤ 6) where
  many : {A : Type 0} (f : RecipeStep → A) → length (map f (steps_in r)) ≡ r.count
  many f = taken-length f r.count r.steps (omega (arith, long, high))

  first_rows : rows_at s (get_or (places_in r) 0 0) ≡ joined_rows s r
  first_rows = ap (rows_at s) (place_at r 0 low)

  small : (n : ℕ) → Held (rows_at s) n (places_in r) → (c : ℕ) → c < r.count → place_of (slot_at r c) < 8
  small n h c l = subst (λ (p : ℕ). p < 8) (place_at r c l) (held_small (rows_at s) n (places_in r) h c (omega (arith, many place_of, l)))

  -- without a target
  pub alone-rows : Good s → first_of (sources_alone (rows_at s) (places_in r)) ≡ Ok tt → (1 ≤ joined_rows s r) × (joined_rows s r ≤ 8)
  alone-rows good e =
      let h = alone-accepted (rows_at s) (places_in r) (places-some s r long low high) e in
      (subst (λ (n : ℕ). 1 ≤ n) first_rows h.0, (good.held (place_of (slot_at r 0)) (small _ h.1 0 low)).few)

  module _ (t : ℕ) (e : first_of (sources_to (rows_at s) (places_in r) t) ≡ Ok tt) where
    shown : ((0 < rows_at s (get_or (places_in r) 0 0)) × Held (rows_at s) (rows_at s (get_or (places_in r) 0 0)) (places_in r)) × Target (rows_at s) t
    shown = to-accepted (rows_at s) (places_in r) t (places-some s r long low high) e

    pub joined_small : (c : ℕ) → c < r.count → place_of (slot_at r c) < 8
    joined_small = small _ shown.0.1

    module _ (good : Good s) where
      held-banded : (n : ℕ) (L : List RecipeStep) → Held (rows_at s) n (map place_of L) → Sources (BandedNumbers n) (map (step_with s) L)
      held-banded n [] h = tt
      held-banded n (x ∷ L) h =
          (subst (λ (m : ℕ). BandedNumbers m (factors_at s x.place)) h.1 (good.held x.place h.0).banded, held-banded n L h.2)

      proper : Proper (BandedNumbers (joined_rows s r)) (joined_rows s r) (joined_at s r)
      proper = record {
        sources = subst (λ (n : ℕ). Sources (BandedNumbers n) (map (step_with s) (steps_in r))) first_rows (held-banded _ (steps_in r) shown.0.1);
        fit = omega (arith, many (step_with s), low);
      }

      pub joined-ready : Ready t (joined_rows s r) (joined_at s r)
      joined-ready =
          let few = (good.held (place_of (slot_at r 0)) (joined_small 0 low)).few in
          record {
            small = shown.1.small;
            some = subst (λ (n : ℕ). 1 ≤ n) first_rows shown.0.0;
            few = few;
            six = omega (arith, many (step_with s), high);
            proper = proper;
            regular = whole _ _ proper;
            fits = few;
          }

-- ONE STEP AND TWO
module _ (s : Shelf) (good : Good s) where
  pub product-ready : (l r t : ℕ) → first_of (two_sources s l r t) ≡ Ok tt → Ready t (rows_at s l) (product_at s l r)
  product-ready l r t e = joined-ready s (two_steps l r) refl (omega arith) (omega arith) t e good

  pub whole_ready : (w : Way) (p t : ℕ) → first_of (one_source s p t) ≡ Ok tt → Ready t (rows_at s p) (joined_at s (one_step w p))
  whole_ready w p t e = joined-ready s (one_step w p) refl (omega arith) (omega arith) t e good

  -- a recipe that was accepted has two to six
  pub recipe-ready : (r : Recipe) (t : ℕ) → length r.steps ≡ 6 → first_of (recipe_tests s r t) ≡ Ok tt → Ready t (joined_rows s r) (joined_at s r)
  recipe-ready r t long e =
      let a = when-accepted (miscounted r.count) WrongStepCount (sources_to (rows_at s) (places_in r) t) e in
      let c = counted r.count a.0 in
      joined-ready s r long (omega (arith, c.0)) c.1 t a.1 good

-- WHAT STANDS BEHIND THE COUNT changes nothing: recipes of the same steps are the same call
turned : (s : Shelf) (L : List Verdict) (t n : ℕ) (o : Operation Number) (w : Refusal) → first_of L ≡ Err w
    → operation_call s L t n o ≡ outcome s (refused (number_of w.reason) w.offset)
unfolding operation_call
turned s L t n o w e =
    ap (λ (v : Verdict). resulting s t v (size n o) (done (bound n o) (steps_made rounded n o)) (result rounded n o))
    (first-last L (factor_test n o) ∙ ap (λ (v : Verdict). or_else v (factor_test n o)) e)

pub rows-others : (s : Shelf) (r q : Recipe) → r.count ≡ q.count → steps_in r ≡ steps_in q → 2 ≤ r.count → joined_rows s r ≡ joined_rows s q
rows-others s r q many same low =
    ap (rows_at s) (sym (place_at r 0 (omega arith)) ∙ ap (λ (L : List RecipeStep). get_or (map place_of L) 0 0) same ∙ place_at q 0 (omega (arith, many)))

pub recipe-others : (s : Shelf) (r q : Recipe) (t : ℕ) → r.count ≡ q.count → steps_in r ≡ steps_in q → recipe_call s r t ≡ recipe_call s q t
recipe-others s r q t many same = by (miscounted r.count) refl
  where
    by : (b : Bool) → miscounted r.count ≡ b → recipe_call s r t ≡ recipe_call s q t
    by true e =
        turned s (recipe_tests s r t) t _ _ (record { reason = WrongStepCount; offset = 0 }) (when-refused WrongStepCount _ e)
        ∙ sym (turned s (recipe_tests s q t) t _ _ (record { reason = WrongStepCount; offset = 0 })
        (when-refused WrongStepCount _ (sym (ap miscounted many) ∙ e)))
    by false e =
        ap₂ (λ (m : ℕ) (L : List RecipeStep). operation_call s (recipe_to (rows_at s) m (map place_of L) t) t (joined_rows s r) (joined (map (step_with s) L)))
        many same
        ∙ ap (λ (n : ℕ). operation_call s (recipe_tests s q t) t n (joined_at s q)) (rows-others s r q many same (counted r.count e).0)

-- TWO PLAIN STEPS, whatever stands in the other slots, are the product call: its bits, its bound, its steps and its refusals
pub recipe-product : (s : Shelf) (p q t : ℕ) (others : List RecipeStep)
    → recipe_call s (record { steps = taken Plain p ∷ taken Plain q ∷ others; count = 2 }) t ≡ product_call s p q t
unfolding operation_call first_behind
recipe-product s p q t others = refl
