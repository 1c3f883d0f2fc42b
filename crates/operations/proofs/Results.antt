-- The rule's operations on places. Where the tests of the places passed, the rule can be run (`Ready`, `submatrix-ready`, `schur-ready`; of steps joined,
-- Recipes) and demand 3 holds (`ready-demand`, in plain words `ready-close`), and the steps made are those foretold (`ready-foretold`); what is accepted can be
-- kept, the shelf stays good, and what was promised holds (`operation-fits`, `operation-good`, `operation-met`). The result by what was found:
-- `proposed-turned`, `operation-ranged`. A submatrix is singular where its rounded minor is zero (`singular-tested`), which is how its tests are worked
-- (`chosen-tested`).
use Prim.Native.Nat.{ℕ, ◌<◌, ◌≤◌}
use native.Mathlib.Omega.{arith}
use mathlib.Core.Path.{◌≡◌, refl, sym, ap, ap₂, ◌∙◌}
use mathlib.Core.Bool.{Bool, true, false}
use mathlib.Core.List.{List, [], ◌∷◌, ◌++◌}
use lib.Dec.{eqb}
use lib.ListN.{length}
use borrow.Author.Tests.{eqb-false}
use Rattle.number.specs.declared.Number.{Number}
use Rattle.number.specs.Number.{zero_number, rounded, value, Ranged, Stored, reach, in_range}
use Rattle.number.proofs.Reach.{in-range-stored}
use Rattle.words.specs.RowSet.{In, RowSet, count, among, rows, of_mask}
use Rattle.words.specs.Word.{Factors, word}
use Rattle.words.specs.Walk.{minor}
use Rattle.words.specs.Operation.{Step, joined_word, Operation, joined, steps, size, bound, row_by_row, result, each_factor, each_steps}
use Rattle.words.specs.Sources.{Each, Banded, BandedNumbers}
use Rattle.words.proofs.RowSets.{length-rows}
use Rattle.words.specs.Effort.{steps_made, steps_foretold}
use Rattle.words.proofs.Chosen.{among-whole}
use Rattle.words.proofs.Banded.{banded-like}
use Rattle.words.proofs.Foretold.{steps-foretold}
use Rattle.rowset.proofs.Masks.{of_mask-length}
use Rattle.rowset.proofs.Counts.{mask-count, count-to, count_to-le}
use Rattle.fraction.specs.Fraction.{Fraction}
use Rattle.factors.specs.Demand.{Proper, AboveZero, determinant_of, Regular, exactly, Demand}
use Rattle.factors.proofs.Demanded.{joined-regular, schur-regular, proper-value, asked-zeros, demand, demand-close}
use Rattle.table.specs.Table.{table_of, outside}
use Rattle.rule.specs.declared.Refactored.{Refactored}
use Rattle.places.specs.declared.Shelf.{Shelf}
use Rattle.verdict.specs.declared.Refusal.{Refusal}
use Rattle.std.specs.Prelude.{Ok, Err}
use Rattle.places.specs.Shelf.{rows_at, factors_at, holding, Fits, Good}
use Rattle.verdict.specs.declared.Reason.{Reason}
use Rattle.verdict.specs.declared.Reason.TheVariants.{WrongChoice, ExponentOutOfRange, Singular}
use Rattle.verdict.specs.Verdict.{Verdict, first_behind, first_of, or_else, when}
use Rattle.places.specs.Tests.{unfit, one_source}
use Rattle.table.proofs.Ranges.{rows-ranged, outside-table}
use Rattle.places.proofs.Holding.{fits-table}
use Rattle.verdict.proofs.Verdicts.{first-behind, first-last, first-passed, when-passed, when-left}
use Rattle.conditions.specs.Conditions.{misclamped}
use Rattle.conditions.proofs.Passed.{Source, clamped, choice-passed}
use Rattle.places.proofs.Verdicts.{Fit, one-accepted, sets-accepted}
use Rattle.operations.specs.declared.Operated.{Operated}
use Rattle.operations.specs.Operations.{done, factor_test, operation_verdict, operation_call, submatrix_at, schur_at, minor_at}
use Rattle.operations.specs.Operations.{singular, chosen_tests, submatrix_tests, clamped_tests}
use Rattle.operations.specs.Reports.{operated_outcome}
use Rattle.operations.specs.Proposed.{Proposal, behind, proposal, proposed, kept, ranged_of, Keepable}
use Rattle.operations.specs.Promise.{CloseFactors, Met, Promised}
use Rattle.operations.proofs.Proposals.{result-answered, result-good, result-held, result-done}

-- sources of n rows that hold accepted factors, sets that fit, a matrix that is not singular, and a place of the shelf
pub record Ready (t n : ℕ) (o : Operation Number) : Type 0 where
  pub small : t < 8
  pub some : 1 ≤ n
  pub few : n ≤ 8
  pub six : length (steps o) ≤ 6
  pub proper : Proper (BandedNumbers n) n o
  pub regular : Regular n (exactly o)
  pub fits : size n o ≤ 8

pub ready-demand : {t n : ℕ} {o : Operation Number} → Ready t n o → Demand n o
ready-demand {t} {n} {o} w = demand n o w.some w.few w.six w.proper w.regular

pub ready-close : {t n : ℕ} {o : Operation Number} → Ready t n o → CloseFactors n o
ready-close {t} {n} {o} w = demand-close n o w.some w.few w.six w.proper w.regular

-- WHAT THE RULE'S CODE HANDS BACK for an operation
abbrev pub result_of : ℕ → Operation Number → Refactored
result_of n o = record { factors = table_of (size n o) (result rounded n o); rows = size n o; bound = bound n o; steps = steps_made rounded n o }

-- the steps that it makes are those foretold
pub ready-foretold : {t n : ℕ} {o : Operation Number} → Ready t n o → steps_made rounded n o ≡ steps_foretold n o
ready-foretold {t} {n} {o} w =
    let d = ready-demand w in
    steps-foretold rounded n o w.some w.proper.fit d.divisors-below d.divisors-above

-- what is not judged to be zero is above it
above_zero : (x : Fraction) → eqb x.top 0 ≡ false → AboveZero x
above_zero x e = let f : x.top ≡ 0 → ⊥ = eqb-false x.top 0 e in omega arith

-- a word joined is not singular, so only a submatrix is tested for it
pub whole : (n : ℕ) (L : List (Step Number)) → Proper (BandedNumbers n) n (joined L) → Regular n (exactly (joined L))
whole n L h = joined-regular n (each_steps value L) (proper-value n (joined L) h)

-- READY: each operation on the places that its tests accepted
module _ (s : Shelf) (good : Good s) where
  module _ (p t : ℕ) (e : first_of (one_source s p t) ≡ Ok tt) where
    source : (o : Operation Number) → length (steps o) ≤ 6 → Proper (BandedNumbers (rows_at s p)) (rows_at s p) o → Regular (rows_at s p) (exactly o)
        → size (rows_at s p) o ≤ rows_at s p → Ready t (rows_at s p) o
    source o six h g l =
        let a = one-accepted s p t e in
        let few = (good.held p a.0.small).few in
        record { small = a.1.small; some = a.0.some; few = few; six = six; proper = h; regular = g; fits = omega arith }

    pub source-banded : BandedNumbers (rows_at s p) (factors_at s p)
    source-banded = (good.held p (one-accepted s p t e).0.small).banded

    source-few : rows_at s p ≤ 8
    source-few = (good.held p (one-accepted s p t e).0.small).few

    fit-proper : (I J : ℕ) → Fit (rows_at s p) I J → Proper (BandedNumbers (rows_at s p)) (rows_at s p) (submatrix_at s p I J)
    fit-proper I J f =
        let n = rows_at s p in
        record {
          sources = (source-banded, tt);
          fit = (
            of_mask-length n I,
            of_mask-length n J,
            mask-count n J source-few f.columns ∙ sym f.counts ∙ sym (mask-count n I source-few f.rows),
          );
        }

    -- SINGULAR as the code tests it, by the rounded minor: it is zero where the exact determinant is
    pub singular-tested : (I J : ℕ) → Fit (rows_at s p) I J → eqb (minor_at s p I J).m 0 ≡ singular (rows_at s p) (submatrix_at s p I J)
    unfolding minor_at joined_word
    singular-tested I J f =
        let n = rows_at s p in
        let P : RowSet = of_mask n I in
        let Q : RowSet = of_mask n J in
        let o = submatrix_at s p I J in
        let h = fit-proper I J f in
        let k : count Q ≡ count P = h.fit.2 in
        ap₂ (λ (X Y : RowSet). eqb (minor rounded (word n (factors_at s p)) X Y).m 0) (sym (among-whole P))
        (sym (ap (λ (m : ℕ). among Q (rows m 1 m)) (sym k) ∙ among-whole Q))
        ∙ asked-zeros n o (one-accepted s p t e).0.some source-few (omega arith) h (rows (count P) 1 (count P)) (rows (count P) 1 (count P))
        (length-rows (count P) 1 (count P))

    fit-ready : (I J : ℕ) → Fit (rows_at s p) I J → singular (rows_at s p) (submatrix_at s p I J) ≡ false → Ready t (rows_at s p) (submatrix_at s p I J)
    fit-ready I J f g =
        source (submatrix_at s p I J) (omega arith) (fit-proper I J f) (above_zero (determinant_of (rows_at s p) (exactly (submatrix_at s p I J))) g)
        (omega (arith, count-to (rows_at s p) I, count_to-le (rows_at s p) I))

  pub submatrix-ready : (p I J t : ℕ) → first_of (submatrix_tests s p I J t) ≡ Ok tt → Ready t (rows_at s p) (submatrix_at s p I J)
  submatrix-ready p I J t e =
      let b = first-passed (chosen_tests s p I J t) (when (singular (rows_at s p) (submatrix_at s p I J)) Singular) e in
      let a = first-passed (one_source s p t) (when (unfit (rows_at s p) I J) WrongChoice) b.0 in
      fit-ready p t a.0 I J (sets-accepted (rows_at s p) I J a.1) (when-passed _ Singular b.1)

  -- rows that are clamped: one or more, and not all
  pub schur-clamped : (p k t : ℕ) → first_of (clamped_tests s p k t) ≡ Ok tt → (first_of (one_source s p t) ≡ Ok tt) × ((1 ≤ k) × (k < rows_at s p))
  schur-clamped p k t e =
      let a = choice-passed (one_source s p t) (misclamped (rows_at s p) k) e in
      (a.0, clamped (rows_at s p) k a.1)

  pub schur-ready : (p k t : ℕ) → first_of (clamped_tests s p k t) ≡ Ok tt → Ready t (rows_at s p) (schur_at s p k)
  schur-ready p k t e =
      let a = schur-clamped p k t e in
      let h : Proper (BandedNumbers (rows_at s p)) (rows_at s p) (schur_at s p k) = record { sources = (source-banded p t a.0, tt); fit = a.1 } in
      source p t a.0 (schur_at s p k) (omega arith) h
      (schur-regular (rows_at s p) (each_factor value (factors_at s p)) k (proper-value (rows_at s p) (schur_at s p k) h)) (omega arith)

-- a result in range can be stored
run-stored : (k : ℕ) (b : Factors Number) → Banded (λ a. 0 < a.m) (λ a. a ≡ zero_number) k b → Each (Ranged reach) k b
    → ((i j : ℕ) → In k i → In k j → in_range (b i j) ≡ true) → BandedNumbers k b
run-stored k b h g r =
    banded-like (λ a. 0 < a.m) (λ a. a ≡ zero_number) Stored (λ a. a ≡ zero_number) k b b
    (λ i j x y. record { positive = λ p. in-range-stored (g i j x y) p (r i j x y); zero = λ z. z; back = λ z. z }) h

-- a list whose first test turns the call down
pub first-refused : (v : Verdict) (L : List Verdict) {w : Refusal} → v ≡ Err w → first_of (v ∷ L) ≡ Err w
unfolding first_behind
first-refused v L e = first-behind v L ∙ ap (λ (u : Verdict). or_else u (first_of L)) e

-- where the tests turn the call down, that is what is proposed
pub proposed-turned : (L : List Verdict) (n : ℕ) (o : Operation Number) (w : Refusal) → first_of L ≡ Err w → Err w ≡ proposed L n o
unfolding proposed
proposed-turned L n o w e =
    let v : operation_verdict L n o ≡ Err w = first-last L (factor_test n o) ∙ ap (λ (u : Verdict). or_else u (factor_test n o)) e in
    ap (λ (u : Verdict). proposal u (size n o) (bound n o) (steps_made rounded n o) (result rounded n o)) (sym v)

-- behind a test that passed
pub proposed-behind : {c : Bool} (k : Reason) (L : List Verdict) (n : ℕ) (o : Operation Number) → c ≡ false → proposed L n o ≡ proposed (when c k ∷ L) n o
unfolding proposed
proposed-behind k L n o e =
    ap (λ (v : Verdict). proposal v (size n o) (bound n o) (steps_made rounded n o) (result rounded n o)) (sym (when-left k (L ++ (factor_test n o ∷ [])) e))

-- WHAT WAS ACCEPTED can be kept, and meets demand 3
module _ (L : List Verdict) (t n : ℕ) (o : Operation Number) (ready : first_of L ≡ Ok tt → Ready t n o) where
  verdict : operation_verdict L n o ≡ Ok tt → (first_of L ≡ Ok tt) × (outside (row_by_row (size n o) (result rounded n o)) ≡ false)
  verdict e =
      let a = first-passed L (factor_test n o) e in
      (a.0, when-passed _ ExponentOutOfRange a.1)

  operation-demand : first_of L ≡ Ok tt → Demand n o
  operation-demand e = ready-demand (ready e)

  operation-fits : operation_verdict L n o ≡ Ok tt → (t < 8) × Fits (size n o) (table_of (size n o) (result rounded n o))
  operation-fits e =
      let v = verdict e in
      let w = ready v.0 in
      let d = operation-demand v.0 in (
        w.small,
        fits-table (size n o) (result rounded n o) w.fits
            (run-stored (size n o) (result rounded n o) d.banded d.ranged (rows-ranged (size n o) (result rounded n o) w.fits v.1)),
      )

  pub operation-ranged : first_of L ≡ Ok tt → (x : Refactored) → x ≡ result_of n o → ranged_of x ≡ proposed L n o
  unfolding proposed
  operation-ranged e x f =
      let b = result rounded n o in
      let v : operation_verdict L n o ≡ factor_test n o = first-last L (factor_test n o) ∙ ap (λ (u : Verdict). or_else u (factor_test n o)) e in
      ap ranged_of f
      ∙ ap (λ (t : Bool). behind (when t ExponentOutOfRange) (result_of n o)) (outside-table (size n o) b (ready e).fits)
      ∙ ap (λ (u : Verdict). behind u (result_of n o)) (sym v)

  answered : (y : Proposal) → y ≡ proposed L n o → (y ≡ proposed L n o) × Keepable t y
  unfolding proposed
  answered = result-answered t (size n o) (bound n o) (steps_made rounded n o) (result rounded n o) (operation_verdict L n o) operation-fits

  -- what the rule handed back is an answer
  pub answered-ranged : (x : Refactored) (y : Proposal) → first_of L ≡ Ok tt → x ≡ result_of n o → y ≡ ranged_of x → (y ≡ proposed L n o) × Keepable t y
  answered-ranged x y e f g = answered y (g ∙ operation-ranged e x f)

  module _ (s : Shelf) (good : Good s) where
    pub operation-good : Good (operation_call s L t n o).shelf
    unfolding operation_call
    operation-good =
        result-good t (size n o) (result rounded n o) (operation_verdict L n o) operation-fits s good (done (bound n o) (steps_made rounded n o))

    pub operation-met : operation_verdict L n o ≡ Ok tt → Met (holding s t (size n o) (result rounded n o)) t n o (bound n o) (steps_made rounded n o)
    operation-met e = record {
      bound-is = refl;
      steps-are = refl;
      foretold = ready-foretold (ready (verdict e).0);
      held = result-held t (size n o) (result rounded n o) (operation_verdict L n o) operation-fits s good e;
      demand = operation-demand (verdict e).0;
      close = ready-close (ready (verdict e).0);
    }

    pub operation-done : (x : Proposal) (y : Operated) → x ≡ proposed L n o → (y ≡ kept s t x) × Good y.shelf
        → (operated_outcome y ≡ operation_call s L t n o) × (Good y.shelf × Promised y.shelf t n o y.answer)
    unfolding operation_call proposed
    operation-done =
        result-done (λ s k e. Met s t n o k e) s t (size n o) (bound n o) (steps_made rounded n o) (result rounded n o) (operation_verdict L n o) operation-met

-- THE TESTS OF A SUBMATRIX: those of its places and sets (`chosen-fit`), and then that it is not singular (`chosen-turned`, `chosen-tested`)
module _ (s : Shelf) (p I J t : ℕ) where
  abbrev fit : Verdict
  fit = when (unfit (rows_at s p) I J) WrongChoice

  pub chosen-fit : first_of (chosen_tests s p I J t) ≡ Ok tt → Source (rows_at s) p × Fit (rows_at s p) I J
  chosen-fit e =
      let a = first-passed (one_source s p t) fit e in
      ((one-accepted s p t a.0).0, sets-accepted (rows_at s p) I J a.1)

  pub submatrix-fit : first_of (submatrix_tests s p I J t) ≡ Ok tt → Source (rows_at s) p × Fit (rows_at s p) I J
  submatrix-fit e = chosen-fit (first-passed (chosen_tests s p I J t) _ e).0

  by-chosen : (v : Verdict) → first_of (chosen_tests s p I J t) ≡ v
      → or_else v (when (singular (rows_at s p) (submatrix_at s p I J)) Singular) ≡ first_of (submatrix_tests s p I J t)
  by-chosen v e =
      let z = when (singular (rows_at s p) (submatrix_at s p I J)) Singular in
      sym (first-last (chosen_tests s p I J t) z ∙ ap (λ (w : Verdict). or_else w z) e)

  pub chosen-turned : (w : Refusal) → first_of (chosen_tests s p I J t) ≡ Err w → Err w ≡ first_of (submatrix_tests s p I J t)
  chosen-turned w e = by-chosen (Err w) e

  pub chosen-tested : Good s → first_of (chosen_tests s p I J t) ≡ Ok tt → (z : Bool) → z ≡ eqb (minor_at s p I J).m 0
      → when z Singular ≡ first_of (submatrix_tests s p I J t)
  chosen-tested good e z f =
      let a = first-passed (one_source s p t) fit e in
      ap (λ (x : Bool). when x Singular) (f ∙ singular-tested s good p t a.0 I J (chosen-fit e).1) ∙ by-chosen (Ok tt) e
