-- What an accepted arithmetic call has shown: two positive numbers in reach, from whose items the row of numbers is written (`TwoPositive`, `accepted-two`).
-- So what the items stand for are these numbers' values (`first-value`, `second-value`), and the log balances (`logged`).
use mathlib.Core.Path.{◌≡◌, refl, sym, ap, ap₂, ◌∙◌, subst}
use mathlib.Core.Bool.{Bool, true, not, cond}
use mathlib.Core.List.{List, [], ◌∷◌}
use Rattle.std.specs.Prelude.{Ok, Some}
use Prim.Native.Nat.{ℕ, ◌<◌}
use native.Mathlib.Nat.{one-mul}
use native.Mathlib.Omega.{arith}
use borrow.Author.Tests.{not-false, not-true, eqb-false}
use lib.IntN.{ℤ, pos, negsuc, ◌*ℤ◌}
use lib.ListN.{length}
use Rattle.fraction.specs.SignedFraction.{SignedFraction, signed}
use Rattle.verdict.specs.declared.Reason.TheVariants.{WrongList}
use Rattle.verdict.specs.Verdict.{first_of}
use Rattle.verdict.proofs.Verdicts.{when-accepted}
use Rattle.number.proofs.Reach.{ranged-more}
use Rattle.number.proofs.Tests.{both}
use Rattle.number.specs.Number.{value, exponent_of}
use Rattle.number.specs.declared.signed.Signed.{Signed}
use Rattle.rests.proofs.Balance.{balanced}
use Rattle.rests.proofs.Dyadic.{number-value}
use Rattle.rests.specs.Balance.{dyadic, Balanced}
use Rattle.rests.specs.Rest.{worked_by, rest_integer, rest_exponent, PositivePair}
use Rattle.rests.specs.declared.Operator.{Operator}
use Rattle.items.proofs.Reading.{RangedList, list-ranged, proper-exactly}
use Rattle.items.proofs.RoundTrip.{Written, list_written}
use Rattle.items.specs.Items.{is_zero_item, sign_of, list_numbers, list_of, items_of, vector_of, proper}
use Rattle.arithmetic.specs.Arithmetic.{is_positive, first_item, second_item, arithmetic_tests, result_of}
use Rattle.arithmetic.specs.Promise.{item_value, Logged}

-- ---- positive items
positive-size : (a : Signed) → is_positive a ≡ true → 0 < a.size.m
positive-size a h =
    let z = eqb-false a.size.m 0 (not-true (is_zero_item a) (both (not (is_zero_item a)) (not a.negative) h).0) in
    omega arith

positive-sign : (a : Signed) → is_positive a ≡ true → sign_of a ≡ pos 1
positive-sign a h =
    let p = both (not (is_zero_item a)) (not a.negative) h in
    ap₂ (λ (s t : Bool). cond s (pos 0) (cond t (negsuc 0) (pos 1))) (not-true (is_zero_item a) p.0) (not-true a.negative p.1)

-- ---- two of them
pub record TwoPositive (z : List ℤ) : Type 0 where
  pub row : list_numbers (first_item z ∷ second_item z ∷ []) ≡ z
  pub first : is_positive (first_item z) ≡ true
  pub second : is_positive (second_item z) ≡ true
  pub numbers : PositivePair (first_item z).size (second_item z).size

pair : (L : List Signed) → length L ≡ 2 → vector_of L 1 ∷ vector_of L 2 ∷ [] ≡ L
pair [] h = absurd (omega arith)
pair (a ∷ []) h = absurd (omega arith)
pair (a ∷ b ∷ []) h = refl
pair (a ∷ b ∷ c ∷ L) h = absurd (omega arith)

pub accepted-two : (z : List ℤ) → first_of (arithmetic_tests z) ≡ Ok tt → TwoPositive z
accepted-two z h =
    let a = when-accepted (not (proper 2 2 (list_of z))) WrongList _ h in
    let b = when-accepted (not (is_positive (first_item z))) WrongList _ a.1 in
    let c = when-accepted (not (is_positive (second_item z))) WrongList _ b.1 in
    let e = proper-exactly 2 (list_of z) (not-false (proper 2 2 (list_of z)) a.0) in
    let p = not-false (is_positive (first_item z)) b.0 in
    let q = not-false (is_positive (second_item z)) c.0 in
    let ranged : RangedList (Some (items_of z)) = subst RangedList e.0 (list-ranged z) in
    record {
      row = ap list_numbers (pair (items_of z) e.1) ∙ subst (Written z) e.0 (list_written z);
      first = p;
      second = q;
      numbers = record {
        first = ranged-more (omega arith) (ranged 0 (omega (arith, e.1))).size;
        second = ranged-more (omega arith) (ranged 1 (omega (arith, e.1))).size;
        first-positive = positive-size (first_item z) p;
        second-positive = positive-size (second_item z) q;
      };
    }

-- ---- what the items stand for
item-value : (a : Signed) → is_positive a ≡ true → dyadic (sign_of a *ℤ pos a.size.m) (exponent_of a.size) ≡ signed (value a.size)
item-value a h =
    ap (λ (s : ℤ). dyadic (s *ℤ pos a.size.m) (exponent_of a.size)) (positive-sign a h)
    ∙ ap (λ (m : ℕ). dyadic (pos m) (exponent_of a.size)) (one-mul a.size.m) ∙ number-value a.size

module _ (z : List ℤ) (t : TwoPositive z) where
  first-value : item_value z 0 ≡ signed (value (first_item z).size)
  unfolding list_numbers
  first-value = ap (λ (y : List ℤ). item_value y 0) (sym t.row) ∙ item-value (first_item z) t.first

  second-value : item_value z 1 ≡ signed (value (second_item z).size)
  unfolding list_numbers
  second-value = ap (λ (y : List ℤ). item_value y 1) (sym t.row) ∙ item-value (second_item z) t.second

  -- THE LOG BALANCES, in the numbers that go in and come out
  pub logged : (o : Operator) → Logged o z (Ok (result_of (worked_by o (first_item z).size (second_item z).size)))
  logged o =
      let r = worked_by o (first_item z).size (second_item z).size in
      let Log : (a b c : SignedFraction) → Type 0 = λ a b c. Balanced o a b c (rest_integer r.rest) (rest_exponent r.rest) in
      subst (λ c. Log (item_value z 0) (item_value z 1) c) (sym (number-value r.number))
      (subst (λ b. Log (item_value z 0) b (signed (value r.number))) (sym second-value)
      (subst (λ a. Log a (signed (value (second_item z).size)) (signed (value r.number))) (sym first-value)
      (balanced o (first_item z).size (second_item z).size t.numbers)))
