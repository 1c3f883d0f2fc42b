-- A list as a reader hands it on (`Read`, `read_is`): so many items at the start of eight, all of them in range (`read-ranged`), those of the row that was
-- read; and where it hands none on, the row is no proper list (`not-read`).
use mathlib.Core.Path.{◌≡◌, refl, sym, ap, ◌∙◌, subst}
use mathlib.Core.Bool.{Bool, true, false, cond, false≢true}
use mathlib.Core.List.{List, [], ◌∷◌}
use Rattle.std.specs.Prelude.{Option, Some, None, unwrap_or}
use Rattle.std.proofs.lemmas.Option.{none-some, same_Some}
use Prim.Native.Nat.{ℕ, zero, suc, ◌+◌, ◌-◌, ◌≤◌}
use native.Mathlib.Omega.{arith}
use borrow.Author.Tests.{leb-true}
use lib.Dec.{leb}
use lib.IntN.{ℤ}
use lib.ListN.{length, take, get_or, set, replicate}
use lib.Seq.{sets, length-sets}
use Rattle.arrays.proofs.Runs.{take-sets-front}
use Rattle.number.specs.Signed.{zero_signed, SignedRanged}
use Rattle.number.specs.declared.signed.Signed.{Signed}
use Rattle.number.proofs.SignedReach.{signed-ranged-zero}
use Rattle.number.proofs.Tests.{both}
use Rattle.items.specs.Items.{blank_items, list_of, proper, listed_within, listed_from, ItemsRanged}
use Rattle.items.specs.declared.ItemList.{ItemList}
use Rattle.items.proofs.Reading.{RangedList, list-ranged}

-- a proper list, so many items of it at the start of eight
pub record Read (least most : ℕ) (o : Option (List Signed)) (r : ItemList) : Type 0 where
  pub judged : proper least most o ≡ true
  pub few : r.count ≤ 8
  pub eight : length r.items ≡ 8
  pub ranged : (i : ℕ) → SignedRanged 1000 (get_or r.items i zero_signed)
  pub low : least ≤ r.count
  pub high : r.count ≤ most
  pub front : take r.count r.items ≡ unwrap_or o []

-- all items are in range
abbrev Ranged : List Signed → Type 0
Ranged v = (i : ℕ) → SignedRanged 1000 (get_or v i zero_signed)

ranged-set : (v : List Signed) (k : ℕ) (a : Signed) → SignedRanged 1000 a → Ranged v → Ranged (set v k a)
ranged-set [] k a u h i = h i
ranged-set (x ∷ v) zero a u h zero = u
ranged-set (x ∷ v) zero a u h (suc i) = h (suc i)
ranged-set (x ∷ v) (suc k) a u h zero = h zero
ranged-set (x ∷ v) (suc k) a u h (suc i) = ranged-set v k a u (λ j. h (suc j)) i

ranged-sets : (L v : List Signed) (k : ℕ) → RangedList (Some L) → Ranged v → Ranged (sets v k L)
ranged-sets [] v k u h = h
ranged-sets (a ∷ L) v k u h = ranged-sets L (set v k a) (suc k) (λ j p. u (suc j) (omega arith)) (ranged-set v k a (u 0 (omega arith)) h)

ranged-blank : Ranged blank_items
ranged-blank = go 8
  where
    go : (n : ℕ) → Ranged (replicate n zero_signed)
    go zero i = signed-ranged-zero 1000
    go (suc n) zero = signed-ranged-zero 1000
    go (suc n) (suc i) = go n i

module _ (least most : ℕ) (z : List ℤ) where
  pub read_is : (r : ItemList) → most ≤ 8 → Some r ≡ listed_within least most (list_of z) → Read least most (list_of z) r
  unfolding listed_within
  read_is r m e = go (list_of z) (list-ranged z) (proper least most (list_of z)) refl e
    where
      go : (o : Option (List Signed)) → RangedList o → (t : Bool) → proper least most o ≡ t → Some r ≡ listed_from blank_items 0 (cond t o None)
          → Read least most o r
      go o u false g h = absurd (none-some r (sym h))
      go None u true g h = absurd (false≢true g)
      go (Some L) u true g h =
          let p = both (leb least (length L)) (leb (length L) most) g in
          let hi : length L ≤ most = leb-true (length L) most p.1 in
          let n : 0 + length L ≡ length L = omega arith in
          subst (Read least most (Some L)) (sym (same_Some _ _ h))
          (record {
            judged = g;
            few = omega arith;
            eight = length-sets blank_items 0 L;
            ranged = ranged-sets L blank_items 0 u ranged-blank;
            low = omega (arith, leb-true least (length L) p.0);
            high = omega arith;
            front = ap (λ (k : ℕ). take k (sets blank_items 0 L)) n ∙ take-sets-front (length L) blank_items L refl (omega arith);
          })

  pub not-read : None ≡ listed_within least most (list_of z) → proper least most (list_of z) ≡ false
  unfolding listed_within
  not-read e = go (list_of z) (proper least most (list_of z)) refl e
    where
      go : (o : Option (List Signed)) → (t : Bool) → proper least most o ≡ t → None ≡ listed_from blank_items 0 (cond t o None) → proper least most o ≡ false
      go o false g h = g
      go None true g h = refl
      go (Some L) true g h = absurd (none-some _ h)

pub read-ranged : {least most : ℕ} {o : Option (List Signed)} {r : ItemList} (n : ℕ) → Read least most o r → ItemsRanged 1000 n r.items
read-ranged n w = record { eight = w.eight; ranged = λ i p. w.ranged (i - 1) }
