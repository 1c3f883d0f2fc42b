-- What the list calls find and leave, by the list as it was read: a count of reversals (`reversals-counted`, `reversals-refused`), and a carry: its tests
-- (`carry-improper`, `carry-judged`), what it writes (`carry-written`, `carry-kept`), and what an accepted one has shown (`AcceptedCarry`, `carry-accepted`).
use mathlib.Core.Path.{◌≡◌, sym, ap, ap₂, ◌∙◌}
use mathlib.Core.Bool.{Bool, true, false, not}
use mathlib.Core.List.{List, [], ◌∷◌}
use Prim.Native.Nat.{ℕ, ◌*◌, ◌≤◌}
use native.Mathlib.Omega.{arith}
use borrow.Author.Tests.{ltb-false, not-false}
use lib.Dec.{ltb}
use lib.IntN.{ℤ, pos}
use lib.ListN.{length, take}
use lib.Seq.{sets}
use Rattle.std.specs.Prelude.{Some, Ok, Err}
use Rattle.verdict.specs.declared.Reason.TheVariants.{WrongList, ExponentOutOfRange, OutputTooShort}
use Rattle.verdict.specs.declared.Refusal.{Refusal}
use Rattle.verdict.specs.Verdict.{Verdict, when, or_else, refused_at, first_behind, first_of, after}
use Rattle.verdict.specs.Report.{report_of}
use Rattle.verdict.proofs.Verdicts.{when-accepted, when-refused}
use Rattle.number.specs.declared.Number.{Number}
use Rattle.number.specs.declared.signed.Signed.{Signed}
use Rattle.words.specs.Word.{Factors}
use Rattle.items.specs.Items.{list_of, items_of, list_numbers, proper}
use Rattle.items.specs.declared.ItemList.{ItemList}
use Rattle.items.proofs.Reading.{proper-exactly}
use Rattle.items.proofs.ListRead.{Read}
use Rattle.reversals.specs.Reversals.{reversals}
use Rattle.lists.specs.Lists.{carried_list, any_outside, carry_tests, items_after_carry, reversals_call, reversals_report}

-- ---- a count of reversals
module _ (z : List ℤ) where
  reported : (t : Bool) → proper 1 8 (list_of z) ≡ t → report_of (when (not t) WrongList) (pos (reversals (items_of z)) ∷ []) ≡ reversals_call z
  unfolding reversals_call first_behind
  reported t e = sym (ap (λ (s : Bool). report_of (when (not s) WrongList) (pos (reversals (items_of z)) ∷ [])) e)

  pub reversals-counted : (r : ItemList) → Read 1 8 (list_of z) r → reversals_report (Ok (reversals (take r.count r.items))) ≡ reversals_call z
  reversals-counted r w = ap (λ (L : List Signed). reversals_report (Ok (reversals L))) w.front ∙ reported true w.judged

  pub reversals-refused : proper 1 8 (list_of z) ≡ false → reversals_report (Err (record { reason = WrongList; offset = 0 })) ≡ reversals_call z
  reversals-refused e = reported false e

-- ---- a carry
module _ (n : ℕ) (b : Factors Number) (z out : List ℤ) where
  pub carry-improper : proper n n (list_of z) ≡ false → first_of (carry_tests n b z out) ≡ refused_at WrongList 0
  carry-improper e = when-refused WrongList _ (ap not e)

  -- u is what the items that were read are carried to
  module _ (r : ItemList) (w : Read n n (list_of z) r) (u : List Signed) (c : take n u ≡ carried_list n b (take n r.items)) where
    carried-items : take n u ≡ carried_list n b (items_of z)
    carried-items =
        let e : n ≡ r.count = omega (arith, w.low, w.high) in
        c ∙ ap (carried_list n b) (ap (λ (k : ℕ). take k r.items) e ∙ w.front)

    -- its two other tests
    pub carry-judged : first_of (carry_tests n b z out)
        ≡ or_else (when (any_outside (take n u)) ExponentOutOfRange) (when (ltb (length out) (3 * n)) OutputTooShort)
    unfolding first_behind
    carry-judged = sym (ap₂ (λ (s t : Bool).
        first_of (when (not s) WrongList ∷ when t ExponentOutOfRange ∷ when (ltb (length out) (3 * n)) OutputTooShort ∷ []))
        (sym w.judged) (ap any_outside carried-items))

    pub carry-written : first_of (carry_tests n b z out) ≡ Ok tt → sets out 0 (list_numbers (take n u)) ≡ items_after_carry n b z out
    unfolding items_after_carry
    carry-written h =
        ap (λ (L : List Signed). sets out 0 (list_numbers L)) carried-items
        ∙ sym (ap (λ (v : Verdict). after v out (sets out 0 (list_numbers (carried_list n b (items_of z))))) h)

  pub carry-kept : (why : Refusal) → first_of (carry_tests n b z out) ≡ Err why → out ≡ items_after_carry n b z out
  unfolding items_after_carry
  carry-kept why h = sym (ap (λ (v : Verdict). after v out (sets out 0 (list_numbers (carried_list n b (items_of z))))) h)

-- ---- an accepted carry
pub record AcceptedCarry (n : ℕ) (b : Factors Number) (z out : List ℤ) : Type 0 where
  pub formed : list_of z ≡ Some (items_of z)
  pub exact : length (items_of z) ≡ n
  pub inside : any_outside (carried_list n b (items_of z)) ≡ false
  pub room : 3 * n ≤ length out

pub carry-accepted : (n : ℕ) (b : Factors Number) (z out : List ℤ) → first_of (carry_tests n b z out) ≡ Ok tt → AcceptedCarry n b z out
carry-accepted n b z out h =
    let a = when-accepted (not (proper n n (list_of z))) WrongList _ h in
    let c = when-accepted (any_outside (carried_list n b (items_of z))) ExponentOutOfRange _ a.1 in
    let d = when-accepted (ltb (length out) (3 * n)) OutputTooShort _ c.1 in
    let e = proper-exactly n (list_of z) (not-false (proper n n (list_of z)) a.0) in
    record { formed = e.0; exact = e.1; inside = c.0; room = ltb-false (length out) (3 * n) d.0 }
