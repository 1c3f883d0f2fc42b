-- What a carry writes reads back (`carry_back`): carried items of which none is outside are zero or stored (`carried-formed`).
use mathlib.Core.Path.{◌≡◌, refl, sym, ap, ap₂, ◌∙◌, subst}
use mathlib.Core.Bool.{Bool, false, not, ◌&&◌}
use mathlib.Core.List.{List, [], ◌∷◌}
use mathlib.Core.Logic.{inl, inr}
use Rattle.std.specs.Prelude.{Some, Ok}
use Prim.Native.Nat.{ℕ, zero, suc, ◌+◌, ◌-◌, ◌*◌, ◌≤◌, ◌<◌}
use native.Mathlib.Omega.{arith}
use borrow.Author.Tests.{ne_eqb, not-false}
use lib.IntN.{ℤ}
use lib.ListN.{length, get_or, take}
use lib.Seq.{sets}
use Rattle.arrays.proofs.Runs.{take-sets-front}
use Rattle.verdict.specs.Verdict.{Verdict, first_of, after}
use Rattle.number.specs.Number.{Ranged, in_range}
use Rattle.number.specs.Signed.{zero_signed, SignedRanged}
use Rattle.number.specs.declared.Number.{Number}
use Rattle.number.specs.declared.signed.Signed.{Signed}
use Rattle.number.proofs.Tests.{neither}
use Rattle.number.proofs.Reach.{in-range-stored}
use Rattle.words.specs.Word.{Factors}
use Rattle.words.specs.Sources.{Each}
use Rattle.items.specs.Items.{list_of, items_of, list_numbers, vector_of}
use Rattle.items.proofs.Reading.{RangedList, list-ranged}
use Rattle.items.proofs.RoundTrip.{Formed, AllFormed, list_back, numbers-length}
use Rattle.lists.specs.Lists.{carried_vector, carried_list, item_outside, any_outside, carry_tests, items_after_carry}
use Rattle.lists.specs.Carrying.{working_reach}
use Rattle.lists.proofs.FirstItems.{first-length, first-at}
use Rattle.lists.proofs.LetterReach.{carried-reach}
use Rattle.lists.proofs.Outcomes.{carry-accepted}

-- an item in range is formed, if it is not outside
formed-item : {r : ℕ} (a : Signed) → SignedRanged r a → item_outside a ≡ false → Formed a
formed-item a u h = go a.size.m refl
  where
    go : (m : ℕ) → a.size.m ≡ m → Formed a
    go zero e = inl (ap₂ (λ (t : Bool) (x : Number). record { negative = t; size = x }) (u.zero e)
        (ap₂ (λ (m x : ℕ). record { m = m; x = x }) e (u.size.zero e)))
    go (suc m) e =
        let f : not (in_range a.size) ≡ false = sym (ap (λ (t : Bool). not t && not (in_range a.size)) (ne_eqb a.size.m 0 (λ z. omega arith))) ∙ h in
        inr (in-range-stored u.size (omega arith) (not-false (in_range a.size) f))

formed-list : {r : ℕ} (L : List Signed) → ((k : ℕ) → k < length L → SignedRanged r (get_or L k zero_signed)) → any_outside L ≡ false → AllFormed L
unfolding any_outside
formed-list [] u h = tt
formed-list (a ∷ L) u h =
    let e = neither (item_outside a) (any_outside L) h in
    (formed-item a (u 0 (omega arith)) e.0, formed-list L (λ k p. u (suc k) (omega arith)) e.1)

module _ (n : ℕ) (b : Factors Number) (low : 1 ≤ n) (high : n ≤ 8) (s : Each (Ranged 1000) n b) (z out : List ℤ) where
  -- the carried items of a well-formed list are formed, if none is outside
  pub carried-formed : (L : List Signed) → list_of z ≡ Some L → length L ≡ n → any_outside (carried_list n b L) ≡ false → AllFormed (carried_list n b L)
  carried-formed L e f h = formed-list (carried_list n b L) (λ k p.
      let l : k < n = omega (arith, first-length n (carried_vector n b (vector_of L))) in
      subst (SignedRanged working_reach) (sym (first-at n (carried_vector n b (vector_of L)) k l))
      (carried-reach n b (vector_of L) low high s (λ i q. subst RangedList e (list-ranged z) (i - 1) (omega (arith, q.0, q.1)))
      (k + 1) (omega arith, omega arith))) h

  -- an accepted carry has written a well-formed list, the carried one
  pub carry_back : first_of (carry_tests n b z out) ≡ Ok tt → list_of (take (3 * n) (items_after_carry n b z out)) ≡ Some (carried_list n b (items_of z))
  unfolding items_after_carry
  carry_back h =
      let a = carry-accepted n b z out h in
      let L : List Signed = carried_list n b (items_of z) in
      let m : length (list_numbers L) ≡ 3 * n = numbers-length L ∙ ap (λ k. 3 * k) (first-length n (carried_vector n b (vector_of (items_of z)))) in
      ap (λ (v : Verdict). list_of (take (3 * n) (after v out (sets out 0 (list_numbers L))))) h
      ∙ ap list_of (take-sets-front (3 * n) out (list_numbers L) m a.room)
      ∙ list_back L (carried-formed (items_of z) a.formed a.exact a.inside)
