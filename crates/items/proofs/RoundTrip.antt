-- What is written reads back: an item that is zero or stored (`Formed`, `item_back`), and a list of such (`AllFormed`, `list_back`). What is read well is what
-- would be written (`list_written`). A list is written as three numbers an item (`numbers-length`).
use mathlib.Core.Path.{◌≡◌, refl, sym, ap, ap₂, ◌∙◌}
use mathlib.Core.Bool.{Bool, true, false, cond}
use mathlib.Core.List.{List, [], ◌∷◌, ◌++◌}
use mathlib.Core.Logic.{◌⊎◌, inl, inr}
use Rattle.std.specs.Prelude.{Option, Some, None}
use Prim.Native.Nat.{◌*◌}
use native.Mathlib.Omega.{arith}
use borrow.Author.Tests.{ne_eqb}
use lib.IntN.{ℤ, pos, negsuc, nat_abs}
use lib.ListN.{length}
use Rattle.number.specs.Integer.{is_negative}
use Rattle.number.specs.Number.{Stored, exponent_of}
use Rattle.number.specs.Signed.{zero_signed}
use Rattle.number.specs.declared.signed.Signed.{Signed}
use Rattle.number.proofs.Integers.{biased-exponent, exponent-near}
use Rattle.items.specs.Items.{ListItem, signed_item, item_before, list_of, sign_of, list_numbers}
use Rattle.items.proofs.ItemForms.{item-zero, item-value, NumbersOf, item-numbers}

-- zero, or a stored number with a sign
abbrev pub Formed : Signed → Type 0
Formed a = (a ≡ zero_signed) ⊎ Stored a.size

-- the item of an item's numbers
abbrev pub item_again : Signed → ListItem
item_again a = signed_item (sign_of a) (pos a.size.m) (exponent_of a.size)

module _ (a : Signed) (s : Stored a.size) where
  sign-is : sign_of a ≡ cond a.negative (negsuc 0) (pos 1)
  sign-is = ap (λ (t : Bool). cond t (pos 0) (cond a.negative (negsuc 0) (pos 1))) (ne_eqb a.size.m 0 (λ e. omega (arith, s.low)))

  stored_back : item_again a ≡ Some a
  stored_back =
      item-value (sign_of a) (pos a.size.m) (exponent_of a.size)
      (record {
        sign = ap nat_abs sign-is ∙ one a.negative;
        plain = refl;
        low = s.low;
        high = s.high;
        near = exponent-near a.size.x s.start s.stop;
      })
      a.negative a.size.m a.size.x (sym (ap is_negative sign-is ∙ same a.negative)) refl (sym (biased-exponent a.size.x))
    where
      one : (t : Bool) → nat_abs (cond t (negsuc 0) (pos 1)) ≡ 1
      one true = refl
      one false = refl

      same : (t : Bool) → is_negative (cond t (negsuc 0) (pos 1)) ≡ t
      same true = refl
      same false = refl

pub item_back : (a : Signed) → Formed a → item_again a ≡ Some a
item_back a (inl e) = ap item_again e ∙ item-zero (pos 0) (pos 0) (pos 0) refl refl refl ∙ ap Some (sym e)
item_back a (inr s) = stored_back a s

abbrev pub AllFormed : List Signed → Type 0
AllFormed [] = Unit {0}
AllFormed (a ∷ L) = Formed a × AllFormed L

pub list_back : (L : List Signed) → AllFormed L → list_of (list_numbers L) ≡ Some L
unfolding list_of list_numbers
list_back [] h = refl
list_back (a ∷ L) h = ap₂ item_before (item_back a h.0) (list_back L h.1)

-- and what is read well is what would be written
abbrev pub Written : List ℤ → Option (List Signed) → Type 0
Written z (Some L) = list_numbers L ≡ z
Written z None = Unit {0}

pub list_written : (z : List ℤ) → Written z (list_of z)
unfolding list_of list_numbers
list_written [] = refl
list_written (s ∷ []) = tt
list_written (s ∷ m ∷ []) = tt
list_written (s ∷ m ∷ e ∷ z) = go (signed_item s m e) (list_of z) (item-numbers s m e) (list_written z)
  where
    go : (i : ListItem) (o : Option (List Signed)) → NumbersOf s m e i → Written z o → Written (s ∷ m ∷ e ∷ z) (item_before i o)
    go (Some a) (Some L) h w = ap₂ ◌++◌ h w
    go (Some a) None h w = tt
    go None o h w = tt

pub numbers-length : (L : List Signed) → length (list_numbers L) ≡ 3 * length L
unfolding list_numbers
numbers-length [] = refl
numbers-length (a ∷ L) = omega (arith, numbers-length L)
