-- Laws of reading a list: one item and the rest (`list-next`), what a reader has then (`listed-value`, `listed-malformed`, `listed-end`), and how many numbers
-- a list has (`list-numbered`), by which its length is judged (`listed-improper`, `listed-proper`); a list of exactly n items
-- (`proper-exactly`).
use mathlib.Core.Path.{◌≡◌, refl, ap, ap₂, ◌∙◌}
use mathlib.Core.Bool.{Bool, true, ◌&&◌, cond, false≢true}
use mathlib.Core.List.{List, [], ◌∷◌}
use Rattle.std.specs.Prelude.{Option, Some, None, unwrap_or}
use Prim.Native.Nat.{ℕ, zero, suc, ◌+◌, ◌*◌, ◌/◌, ◌≤◌, ◌<◌}
use native.Mathlib.Omega.{arith}
use borrow.Author.Tests.{le-leb, leb-true}
use lib.Dec.{leb}
use lib.IntN.{ℤ, pos}
use lib.ListN.{length, get_or, drop, set, drop_of_length-le}
use lib.Seq.{drop-cons, sets}
use Rattle.number.specs.Signed.{zero_signed, SignedRanged}
use Rattle.number.specs.declared.signed.Signed.{Signed}
use Rattle.number.proofs.Tests.{both, unless}
use Rattle.items.specs.Items.{ListItem, signed_item, item_in, item_before, list_of, proper, listed_within, listed_from, blank_items}
use Rattle.items.specs.declared.ItemList.{ItemList}
use Rattle.items.proofs.ItemForms.{RangedItem, item-ranged}

drop-three : (z : List ℤ) (i : ℕ) → i + 2 < length z → drop i z ≡ get_or z i (pos 0) ∷ get_or z (i + 1) (pos 0) ∷ get_or z (i + 2) (pos 0) ∷ drop (i + 3) z
drop-three z i h =
    let e : suc i ≡ i + 1 = omega arith in
    let f : suc (i + 1) ≡ i + 2 = omega arith in
    let g : suc (i + 2) ≡ i + 3 = omega arith in
    drop-cons z i (pos 0) (omega arith)
    ∙ ap (λ L. get_or z i (pos 0) ∷ L)
    (ap (λ k. drop k z) e ∙ drop-cons z (i + 1) (pos 0) (omega arith)
    ∙ ap (λ L. get_or z (i + 1) (pos 0) ∷ L) (ap (λ k. drop k z) f ∙ drop-cons z (i + 2) (pos 0) h ∙ ap (λ k. get_or z (i + 2) (pos 0) ∷ drop k z) g))

list-next : (z : List ℤ) (k : ℕ) → 3 * k + 2 < length z → list_of (drop (3 * k) z) ≡ item_before (item_in z k) (list_of (drop (3 * (k + 1)) z))
unfolding list_of
list-next z k h =
    let e : 3 * k + 3 ≡ 3 * (k + 1) = omega arith in
    ap list_of (drop-three z (3 * k) h) ∙ ap (λ j. item_before (item_in z k) (list_of (drop j z))) e

module _ (z : List ℤ) (v : List Signed) (k : ℕ) where
  abbrev rest : Option ItemList
  rest = listed_from v k (list_of (drop (3 * k) z))

  pub listed-value : (a : Signed) → 3 * k + 2 < length z → item_in z k ≡ Some a → rest ≡ listed_from (set v k a) (k + 1) (list_of (drop (3 * (k + 1)) z))
  listed-value a h e = ap (listed_from v k) (list-next z k h ∙ ap (λ x. item_before x (list_of (drop (3 * (k + 1)) z))) e) ∙ go (list_of (drop (3 * (k + 1)) z))
    where
      go : (o : Option (List Signed)) → listed_from v k (item_before (Some a) o) ≡ listed_from (set v k a) (k + 1) o
      go (Some L) =
          let e : k + suc (length L) ≡ k + 1 + length L = omega arith in
          let f : suc k ≡ k + 1 = omega arith in
          ap₂ (λ (c i : ℕ). Some (record { count = c; items = sets (set v k a) i L })) e f
      go None = refl

  pub listed-malformed : 3 * k + 2 < length z → item_in z k ≡ None → rest ≡ None
  listed-malformed h e = ap (listed_from v k) (list-next z k h ∙ ap (λ x. item_before x (list_of (drop (3 * (k + 1)) z))) e)

  pub listed-end : length z ≡ 3 * k → rest ≡ Some (record { count = k; items = v })
  unfolding list_of
  listed-end e =
      let f : k + 0 ≡ k = omega arith in
      ap (λ L. listed_from v k (list_of L)) (drop_of_length-le z {i = 3 * k} (omega (arith, e)))
      ∙ ap (λ (c : ℕ). Some (record { count = c; items = v })) f

-- a well-formed row has three numbers an item
abbrev pub Numbered : List ℤ → Option (List Signed) → Type 0
Numbered z (Some L) = length z ≡ 3 * length L
Numbered z None = Unit {0}

pub list-numbered : (z : List ℤ) → Numbered z (list_of z)
unfolding list_of
list-numbered [] = refl
list-numbered (s ∷ []) = tt
list-numbered (s ∷ m ∷ []) = tt
list-numbered (s ∷ m ∷ x ∷ z) = go (signed_item s m x) (list_of z) (list-numbered z)
  where
    go : (i : ListItem) (o : Option (List Signed)) → Numbered z o → Numbered (s ∷ m ∷ x ∷ z) (item_before i o)
    go (Some a) (Some L) h = omega arith
    go (Some a) None h = tt
    go None o h = tt

-- the items of a well-formed row are in range
abbrev pub RangedList : Option (List Signed) → Type 0
RangedList (Some L) = (k : ℕ) → k < length L → SignedRanged 1000 (get_or L k zero_signed)
RangedList None = Unit {0}

ranged-cons : (a : Signed) (L : List Signed) → SignedRanged 1000 a → RangedList (Some L) → RangedList (Some (a ∷ L))
ranged-cons a L u h zero p = u
ranged-cons a L u h (suc k) p = h k (omega arith)

pub list-ranged : (z : List ℤ) → RangedList (list_of z)
unfolding list_of
list-ranged [] = λ k h. absurd (omega arith)
list-ranged (s ∷ []) = tt
list-ranged (s ∷ m ∷ []) = tt
list-ranged (s ∷ m ∷ x ∷ z) = go (signed_item s m x) (list_of z) (item-ranged s m x) (list-ranged z)
  where
    go : (i : ListItem) (o : Option (List Signed)) → RangedItem i → RangedList o → RangedList (item_before i o)
    go (Some a) (Some L) u h = ranged-cons a L u h
    go (Some a) None u h = tt
    go None o u h = tt

-- ---- the tests of a list's length: n is a third of the numbers
module _ (least most : ℕ) (z : List ℤ) where
  -- a number of items that would be proper there is not
  pub listed-improper : ((n : ℕ) → length z ≡ 3 * n → least ≤ n → n ≤ most → ⊥) → listed_within least most (list_of z) ≡ None
  unfolding listed_within
  listed-improper h = go (list_of z) (list-numbered z)
    where
      go : (o : Option (List Signed)) → Numbered z o → listed_within least most o ≡ None
      go (Some L) e = ap (λ (t : Bool). listed_from blank_items 0 (cond t (Some L) None))
          (unless (leb least (length L) && leb (length L) most) (λ g.
          let p = both (leb least (length L)) (leb (length L) most) g in
          h (length L) e (leb-true least (length L) p.0) (leb-true (length L) most p.1)))
      go None e = refl

  pub listed-proper : least ≤ length z / 3 → length z / 3 ≤ most → listed_within least most (list_of z) ≡ listed_from blank_items 0 (list_of z)
  unfolding listed_within
  listed-proper h g = go (list_of z) (list-numbered z)
    where
      go : (o : Option (List Signed)) → Numbered z o → listed_within least most o ≡ listed_from blank_items 0 o
      go (Some L) e =
          let l : least ≤ length L = omega arith in
          let m : length L ≤ most = omega arith in
          simp (le-leb least (length L) l, le-leb (length L) most m)
      go None e = refl

-- a proper list of exactly n items is well formed, and has n
pub proper-exactly : (n : ℕ) (o : Option (List Signed)) → proper n n o ≡ true → (o ≡ Some (unwrap_or o [])) × (length (unwrap_or o []) ≡ n)
proper-exactly n None h = absurd (false≢true h)
proper-exactly n (Some L) h =
    let p = both (leb n (length L)) (leb (length L) n) h in
    (refl, omega (arith, leb-true n (length L) p.0, leb-true (length L) n p.1))
