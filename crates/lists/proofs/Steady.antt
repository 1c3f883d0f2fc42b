-- A LIST CARRIED, AS ROUNDED, HAS NO MORE REVERSALS THAN IT HAD (`carried-steady`): any number of rows, any factors, zero or not, any list, since the letters
-- of the signed word are not negative (`word-steady`). So an accepted carry keeps its promise (`carry-steady`): what it wrote reads back as the carried list.
use mathlib.Core.Path.{◌≡◌, refl, ap, ◌∙◌, subst}
use mathlib.Core.Bool.{not}
use mathlib.Core.List.{List, [], ◌∷◌}
use Rattle.std.specs.Prelude.{Option, Some, Ok, unwrap_or}
use Prim.Native.Nat.{ℕ, ◌*◌, ◌≤◌}
use native.Mathlib.Omega.{arith}
use borrow.Author.Tests.{le-leb}
use lib.IntN.{ℤ, pos}
use lib.ListN.{length, take}
use Rattle.verdict.specs.declared.Reason.TheVariants.{WrongList}
use Rattle.verdict.specs.Verdict.{when, first_behind, first_of}
use Rattle.verdict.specs.Report.{accepted, report_of}
use Rattle.number.specs.declared.Number.{Number}
use Rattle.number.specs.declared.signed.Signed.{Signed}
use Rattle.number.specs.Number.{Ranged}
use Rattle.number.specs.Signed.{plain}
use Rattle.words.specs.Word.{Factors}
use Rattle.words.specs.Sources.{Each}
use Rattle.words.proofs.Walks.{All}
use Rattle.words.proofs.Stages.{word-all, word_rows}
use Rattle.items.specs.Items.{list_of, items_of, proper, vector_of}
use Rattle.items.proofs.Reading.{Numbered, list-numbered}
use Rattle.reversals.specs.Reversals.{reversals}
use Rattle.reversals.proofs.Steady.{Unsigned, word-steady}
use Rattle.lists.specs.Lists.{signed_word, carried_vector, carried_list, carry_tests, items_after_carry, reversals_call}
use Rattle.lists.specs.Promise.{NoMoreReversals}
use Rattle.lists.proofs.FirstItems.{first-length, first_back}
use Rattle.lists.proofs.Outcomes.{carry-accepted}
use Rattle.lists.proofs.RoundTrip.{carry_back}

unsigned-word : (n : ℕ) (b : Factors Number) → All Unsigned (signed_word n b)
unsigned-word n b = word-all Unsigned n (λ i j. plain (b i j)) (λ i j p q r. refl) (λ i. refl) (λ i j p q r. refl)

pub carried-steady : (n : ℕ) (b : Factors Number) (L : List Signed) → length L ≡ n → reversals (carried_list n b L) ≤ reversals L
unfolding carried_vector
carried-steady n b L e =
    subst (λ M. reversals (carried_list n b L) ≤ reversals M) (first_back n L e)
    (word-steady n (signed_word n b) (word_rows n (λ i j. plain (b i j))) (unsigned-word n b) (vector_of L))

-- ---- by the calls
-- what the count answers for a well-formed row of 1 to 8 items
reversals-answered : (z : List ℤ) (L : List Signed) → list_of z ≡ Some L → 1 ≤ length L → length L ≤ 8 → reversals_call z ≡ accepted (pos (reversals L) ∷ [])
unfolding reversals_call first_behind
reversals-answered z L e l m =
    ap (λ (o : Option (List Signed)). report_of (when (not (proper 1 8 o)) WrongList) (pos (reversals (unwrap_or o [])) ∷ [])) e
    ∙ simp (le-leb 1 (length L) l, le-leb (length L) 8 m)

module _ (n : ℕ) (b : Factors Number) (low : 1 ≤ n) (high : n ≤ 8) (s : Each (Ranged 1000) n b) (z out : List ℤ) where
  pub carry-steady : first_of (carry_tests n b z out) ≡ Ok tt → NoMoreReversals z (take (length z) (items_after_carry n b z out))
  carry-steady h =
      let a = carry-accepted n b z out h in
      let L : List Signed = items_of z in
      let numbers : length z ≡ 3 * length L = subst (Numbered z) a.formed (list-numbered z) in
      let whole : length z ≡ 3 * n = omega (arith, a.exact) in
      let long : length (carried_list n b L) ≡ n = first-length n (carried_vector n b (vector_of L)) in
      record {
        before = reversals L;
        after = reversals (carried_list n b L);
        counted-before = reversals-answered z L a.formed (omega (arith, a.exact)) (omega (arith, a.exact));
        counted-after =
            reversals-answered _ (carried_list n b L) (ap (λ k. list_of (take k (items_after_carry n b z out))) whole ∙ carry_back n b low high s z out h)
            (omega arith) (omega arith);
        no_more = carried-steady n b L a.exact;
      }
