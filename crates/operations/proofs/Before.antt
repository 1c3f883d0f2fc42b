-- EVERYTHING ACCEPTED BEFORE GIVES ITS OLD RESULT, as calls (`calls-before`). A call that is turned down for its places or sets is turned down alike. Where
-- these are accepted, no factor of the sources is zero, so that the new factors are document 01's (`as_before`), and with them 14 and what is kept
-- (`call-before`); and a submatrix is not singular, so that 17 does not come in (`chosen-before`).
use Prim.Native.Nat.{ℕ, ◌≤◌}
use native.Mathlib.Omega.{arith}
use mathlib.Core.Path.{◌≡◌, refl, sym, ap, ap₂, ◌∙◌, subst}
use mathlib.Core.Bool.{Bool, false}
use mathlib.Core.List.{List, [], ◌∷◌}
use lib.IntN.{pos}
use lib.ListN.{length}
use borrow.Author.Tests.{ne_eqb}
use Rattle.number.specs.declared.Number.{Number}
use Rattle.number.specs.Number.{rounded, zero_number, Stored}
use Rattle.words.specs.Operation.{Way, inverted, conversed, step, Operation, joined, steps, size, bound, row_by_row, result}
use Rattle.words.specs.Sources.{Each}
use Rattle.factors.specs.Demand.{Proper, determinant_of, exactly}
use Rattle.factors.specs.Before.{AsBefore}
use Rattle.factors.proofs.Old.{as_before}
use Rattle.table.specs.Table.{table_of, outside}
use Rattle.table.proofs.RowByRow.{row-by-row-same}
use Rattle.table.proofs.Table.{table_same}
use Rattle.rowset.proofs.Masks.{of_mask-length}
use Rattle.rowset.proofs.Counts.{mask-count}
use Rattle.std.specs.Prelude.{Ok, Err}
use Rattle.verdict.specs.declared.Reason.TheVariants.{ExponentOutOfRange, Singular}
use Rattle.verdict.specs.Verdict.{Verdict, first_of, after, when, or_else}
use Rattle.verdict.specs.Report.{report_of}
use Rattle.verdict.proofs.Verdicts.{first-last}
use Rattle.places.specs.declared.Shelf.{Shelf}
use Rattle.places.specs.Shelf.{rows_at, factors_at, holding, with_table, Good}
use Rattle.places.specs.Outcome.{Outcome, outcome}
use Rattle.places.specs.Tests.{one_source, two_sources}
use Rattle.conditions.proofs.Passed.{Source, to-accepted}
use Rattle.places.proofs.Verdicts.{one-accepted}
use Rattle.operations.specs.Operations.{resulting, done, operation_verdict, operation_call, product_at, inverse_at, converse_at, submatrix_at}
use Rattle.operations.specs.Operations.{singular, chosen_tests, submatrix_tests}
use Rattle.operations.specs.Before.{WithoutZeros, old_factors, old_call, bound_alone, without_steps, CallsBefore}
use Rattle.operations.proofs.Results.{chosen-fit}

-- ONE CALL, with the tests L now and M before, which give one verdict
module _ (s : Shelf) (t n : ℕ) (o : Operation Number) where
  -- what it leaves and returns behind a verdict, by its factors row by row and in a table
  left : Verdict → (rows table : List Number) → Outcome
  left v rows table =
      let w = or_else v (when (outside rows) ExponentOutOfRange) in
      outcome (after w s (with_table s t (size n o) table)) (report_of w (pos (bound n o) ∷ []))

  -- where the verdict accepts, the factors are as before; else they are not looked at
  by-verdict : (v : Verdict) → (v ≡ Ok tt → AsBefore n o)
      → left v (row_by_row (size n o) (result rounded n o)) (table_of (size n o) (result rounded n o))
      ≡ left v (row_by_row (size n o) (old_factors n o)) (table_of (size n o) (old_factors n o))
  unfolding left
  by-verdict (Ok tt) h =
      let same = (h refl).as-rounded in
      ap₂ (left (Ok tt)) (row-by-row-same zero_number (size n o) _ _ same) (table_same (size n o) _ _ same)
  by-verdict (Err w) h = refl

  -- a report behind a verdict, with its bound alone
  bound-alone : (b e : ℕ) (v : Verdict) → bound_alone (report_of v (done b e)) ≡ report_of v (pos b ∷ [])
  bound-alone b e (Ok tt) = refl
  bound-alone b e (Err w) = refl

  call-before : (L M : List Verdict) → first_of L ≡ first_of M → (first_of M ≡ Ok tt → AsBefore n o)
      → without_steps (operation_call s L t n o) ≡ old_call s M t n o
  unfolding operation_call left
  call-before L M same h =
      ap (outcome (after (operation_verdict L n o) s (holding s t (size n o) (result rounded n o)))) (bound-alone (bound n o) _ (operation_verdict L n o))
      ∙ ap (λ (v : Verdict). resulting s t v (size n o) (pos (bound n o) ∷ []) (result rounded n o))
      (first-last L _ ∙ ap (λ (v : Verdict). or_else v (when (outside (row_by_row (size n o) (result rounded n o))) ExponentOutOfRange)) same)
      ∙ by-verdict (first_of M) h
      ∙ sym (ap (λ (v : Verdict). resulting s t v (size n o) (pos (bound n o) ∷ []) (old_factors n o)) (first-last M _))

module _ (s : Shelf) (good : Good s) where
  -- an operation on sources of the rows of a place, whose factors are all stored
  source-before : (p : ℕ) (o : Operation Number) → length (steps o) ≤ 6 → Source (rows_at s) p → Proper (Each Stored (rows_at s p)) (rows_at s p) o
      → AsBefore (rows_at s p) o
  source-before p o six a proper = as_before (rows_at s p) o proper a.some (good.held p a.small).few six

  product-same : (l r t : ℕ) → WithoutZeros s l → WithoutZeros s r → first_of (two_sources s l r t) ≡ Ok tt → AsBefore (rows_at s l) (product_at s l r)
  product-same l r t left right e =
      let a = (to-accepted (rows_at s) (l ∷ r ∷ []) t (omega arith) e).0 in
      let both : Each Stored (rows_at s l) (factors_at s r) = subst (λ (n : ℕ). Each Stored n (factors_at s r)) a.1.2.1 right in
      source-before l (product_at s l r) (omega arith) (record { small = a.1.0; some = a.0 }) (record { sources = (left, (both, tt)); fit = omega arith })

  module _ (p t : ℕ) (stored : WithoutZeros s p) where
    taken-same : (w : Way) → first_of (one_source s p t) ≡ Ok tt → AsBefore (rows_at s p) (joined (step w (factors_at s p) ∷ []))
    taken-same w e = source-before p _ (omega arith) (one-accepted s p t e).0 (record { sources = (stored, tt); fit = omega arith })

    module _ (I J : ℕ) where
      abbrev n : ℕ
      n = rows_at s p

      chosen-same : first_of (chosen_tests s p I J t) ≡ Ok tt → AsBefore (rows_at s p) (submatrix_at s p I J)
      chosen-same e =
          let a = chosen-fit s p I J t e in
          let few = (good.held p a.0.small).few in
          source-before p (submatrix_at s p I J) (omega arith) a.0
          (record {
            sources = (stored, tt);
            fit = (
              of_mask-length n I,
              of_mask-length n J,
              mask-count n J few a.1.columns ∙ sym a.1.counts ∙ sym (mask-count n I few a.1.rows),
            );
          })

      -- not singular
      regular-same : AsBefore (rows_at s p) (submatrix_at s p I J) → singular (rows_at s p) (submatrix_at s p I J) ≡ false
      regular-same h = ne_eqb (determinant_of n (exactly (submatrix_at s p I J))).top 0 (λ z. omega (arith, h.regular))

      -- 17 DOES NOT COME IN
      chosen-before : first_of (submatrix_tests s p I J t) ≡ first_of (chosen_tests s p I J t)
      chosen-before = first-last (chosen_tests s p I J t) _ ∙ by (first_of (chosen_tests s p I J t)) refl
        where
          by : (v : Verdict) → first_of (chosen_tests s p I J t) ≡ v → or_else v (when (singular (rows_at s p) (submatrix_at s p I J)) Singular) ≡ v
          by (Ok tt) e = ap (λ (b : Bool). when b Singular) (regular-same (chosen-same e))
          by (Err w) e = refl

  -- THE OLD RESULT OF EVERY OPERATION
  pub calls-before : CallsBefore s
  calls-before = record {
    product-before = λ l r t left right. call-before s t (rows_at s l) (product_at s l r) _ _ refl (product-same l r t left right);
    inverse-before = λ p t stored. call-before s t (rows_at s p) (inverse_at s p) _ _ refl (taken-same p t stored inverted);
    converse-before = λ p t stored. call-before s t (rows_at s p) (converse_at s p) _ _ refl (taken-same p t stored conversed);
    submatrix-before = λ p I J t stored.
        call-before s t (rows_at s p) (submatrix_at s p I J) _ _ (chosen-before p t stored I J) (chosen-same p t stored I J);
  }
