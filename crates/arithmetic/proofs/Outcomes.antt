-- The arithmetic call by the list as it was read: the items (`item-read`), what its tests come to (`improper`, `judged`), and what it returns, worked or
-- turned down (`answered`, `turned_down`).
use mathlib.Core.Path.{◌≡◌, sym, ap, ap₂, ◌∙◌}
use mathlib.Core.Bool.{Bool, false, not}
use mathlib.Core.List.{List, [], ◌∷◌}
use Prim.Native.Nat.{ℕ, ◌<◌}
use native.Mathlib.Omega.{arith}
use lib.IntN.{ℤ}
use lib.ListN.{get_or}
use lib.Seq.{get_or-take}
use Rattle.std.specs.Prelude.{Ok, Err}
use Rattle.verdict.specs.declared.Reason.TheVariants.{WrongList}
use Rattle.verdict.specs.declared.Refusal.{Refusal}
use Rattle.verdict.specs.Verdict.{Verdict, when, or_else, first_behind, first_of, refused_at}
use Rattle.verdict.specs.Report.{report_of}
use Rattle.verdict.proofs.Verdicts.{when-refused}
use Rattle.arrays.proofs.Filled.{read-any}
use Rattle.number.specs.Signed.{zero_signed}
use Rattle.number.specs.declared.signed.Signed.{Signed}
use Rattle.rests.specs.Rest.{worked_by}
use Rattle.rests.specs.declared.Operator.{Operator}
use Rattle.items.proofs.Fronts.{unset}
use Rattle.items.proofs.ListRead.{Read}
use Rattle.items.specs.Items.{list_of, items_of, proper}
use Rattle.items.specs.declared.ItemList.{ItemList}
use Rattle.arithmetic.specs.Arithmetic.{is_positive, first_item, second_item, arithmetic_tests, result_values, result_of, arithmetic_call, worked_report}

-- the first two of the eight are the items of the list
pub item-read : (z : List ℤ) (r : ItemList) → Read 2 2 (list_of z) r → (i : ℕ) → i < 2 → get_or r.items i unset ≡ get_or (items_of z) i zero_signed
item-read z r w i h =
    let l : i < r.count = omega (arith, w.low) in
    read-any r.items i unset zero_signed (omega (arith, w.eight)) ∙ sym (get_or-take r.count r.items i zero_signed l)
    ∙ ap (λ (L : List Signed). get_or L i zero_signed) w.front

-- ---- the tests
pub improper : (z : List ℤ) → proper 2 2 (list_of z) ≡ false → first_of (arithmetic_tests z) ≡ refused_at WrongList 0
improper z e = when-refused WrongList _ (ap not e)

-- the items of a proper list decide
pub judged : (z : List ℤ) (r : ItemList) → Read 2 2 (list_of z) r → (u v : Verdict)
    → u ≡ when (not (is_positive (get_or r.items 0 unset))) WrongList → v ≡ when (not (is_positive (get_or r.items 1 unset))) WrongList
    → first_of (arithmetic_tests z) ≡ or_else u v
unfolding first_behind
judged z r w u v e f =
    ap (λ (t : Bool). first_of (when (not t) WrongList ∷ when (not (is_positive (first_item z))) WrongList
    ∷ when (not (is_positive (second_item z))) WrongList ∷ [])) w.judged
    ∙ sym (ap₂ or_else (e ∙ ap (λ a. when (not (is_positive a)) WrongList) (item-read z r w 0 (omega arith)))
    (f ∙ ap (λ a. when (not (is_positive a)) WrongList) (item-read z r w 1 (omega arith))))

-- ---- what is answered
pub answered : (o : Operator) (z : List ℤ) → first_of (arithmetic_tests z) ≡ Ok tt
    → worked_report (Ok (result_of (worked_by o (first_item z).size (second_item z).size))) ≡ arithmetic_call o z
unfolding arithmetic_call
answered o z h = sym (ap (λ (v : Verdict). report_of v (result_values (worked_by o (first_item z).size (second_item z).size))) h)

pub turned_down : (o : Operator) (z : List ℤ) (w : Refusal) → first_of (arithmetic_tests z) ≡ Err w → worked_report (Err w) ≡ arithmetic_call o z
unfolding arithmetic_call
turned_down o z w h = sym (ap (λ (v : Verdict). report_of v (result_values (worked_by o (first_item z).size (second_item z).size))) h)
