-- A list carried through a place: what is answered and left, by what was found (`carry-turned`, `carry-done`), and that an accepted carry adds no reversal
-- (`call-steady`). The tests of the list stand behind those of the place.
use Prim.Native.Nat.{ℕ}
use mathlib.Core.Path.{◌≡◌, sym, ap, ◌∙◌, subst}
use mathlib.Core.List.{List}
use lib.IntN.{ℤ}
use lib.ListN.{length, take}
use lib.Seq.{sets}
use Rattle.number.specs.declared.Number.{Number}
use Rattle.words.proofs.Banded.{banded-ranged}
use Rattle.table.specs.Table.{factors_of}
use Rattle.lists.specs.Lists.{carry_tests, items_after_carry}
use Rattle.lists.specs.Promise.{NoMoreReversals}
use Rattle.lists.proofs.Steady.{carry-steady}
use Rattle.verdict.specs.declared.Refusal.{Refusal}
use Rattle.std.specs.Prelude.{Ok, Err}
use Rattle.verdict.specs.Verdict.{Verdict, first_of, or_else, after}
use Rattle.verdict.specs.Report.{verdict_report}
use Rattle.verdict.proofs.Verdicts.{first-append, or-else-both}
use Rattle.places.specs.declared.Shelf.{Shelf}
use Rattle.places.specs.Shelf.{rows_at, table_at, factors_at, Good}
use Rattle.places.specs.Tests.{source_tests}
use Rattle.places.proofs.Verdicts.{source-accepted}
use Rattle.shelf.specs.Calls.{carried_at, place_carry_tests, carrying, carry_call}

module _ (s : Shelf) (p : ℕ) (items out : List ℤ) where
  abbrev list_verdict : Verdict
  list_verdict = first_of (carry_tests (rows_at s p) (factors_at s p) items out)

  by : (u : Verdict) → first_of (source_tests s p) ≡ u → carrying s p items out (or_else u list_verdict) ≡ carry_call s p items out
  unfolding carry_call
  by u e =
      ap (carrying s p items out)
      (sym (first-append (source_tests s p) (carry_tests (rows_at s p) (factors_at s p) items out) ∙ ap (λ (v : Verdict). or_else v list_verdict) e))

  pub carry-turned : (w : Refusal) → first_of (source_tests s p) ≡ Err w
      → (verdict_report (Err w) ≡ (carry_call s p items out).report) × (out ≡ (carry_call s p items out).items)
  carry-turned w e = let h = by (Err w) e in (ap (λ o. o.report) h, ap (λ o. o.items) h)

  -- what the carry of lists answered, and what it left
  pub carry-done : first_of (source_tests s p) ≡ Ok tt → (n : ℕ) (t : List Number) → n ≡ rows_at s p → t ≡ table_at s p → (v : Verdict) (last : List ℤ)
      → v ≡ first_of (carry_tests n (factors_of t) items out) → last ≡ items_after_carry n (factors_of t) items out
      → (verdict_report v ≡ (carry_call s p items out).report) × (last ≡ (carry_call s p items out).items)
  unfolding items_after_carry
  carry-done e n t f g v last i l =
      let h = by (Ok tt) e in
      let x : v ≡ list_verdict = rw (f, g) at i in
      let y : last ≡ after list_verdict out (sets out 0 (carried_at s p items)) = rw (f, g) at l in
      (ap verdict_report x ∙ ap (λ o. o.report) h, y ∙ ap (λ o. o.items) h)

  -- where every test passed, the list that is left has no more reversals than the list given
  pub call-steady : Good s → first_of (place_carry_tests s p items out) ≡ Ok tt → NoMoreReversals items (take (length items) (carry_call s p items out).items)
  unfolding carry_call items_after_carry
  call-steady good h =
      let u = or-else-both (first_of (source_tests s p)) list_verdict
      (sym (first-append (source_tests s p) (carry_tests (rows_at s p) (factors_at s p) items out)) ∙ h) in
      let held = source-accepted s p u.0 in
      let fits = good.held p held.small in
      subst (λ (z : List ℤ). NoMoreReversals items (take (length items) z))
      (ap (λ (v : Verdict). after v out (sets out 0 (carried_at s p items))) (u.1 ∙ sym h))
      (carry-steady (rows_at s p) (factors_at s p) held.some fits.few (banded-ranged _ _ fits.banded) items out u.1)
