-- Masks below 2 ^ n and lists of n Bools are the same sets (mask-back, set_back), and what is asked or made of a mask is asked or made of its list:
-- mask-has, mask-moves, mask-put, mask-replaced, mask-equal; mask-within, put-below and replaced-below keep a mask below 2 ^ n.
use mathlib.Core.Path.{◌≡◌, refl, sym, ap, ap₂, ◌∙◌, subst}
use mathlib.Core.Bool.{Bool, true, false, not, ◌&&◌}
use mathlib.Core.List.{[], ◌∷◌}
use Prim.Native.Nat.{ℕ, zero, suc, ◌+◌, ◌-◌, ◌*◌, ◌%◌, ◌^◌, ◌≤◌, ◌<◌}
use native.Mathlib.Decide.{ℕ_discrete}
use native.Mathlib.Nat.{mod-eq_of_lt, pow-suc}
use native.Mathlib.Omega.{arith}
use borrow.Author.Tests.{eq-eqb, ne_eqb, leb-false}
use lib.Dec.{eqb}
use lib.ListN.{length}
use lib.Pow.{mod-pow-add}
use Rattle.words.specs.RowSet.{RowSet, has, put, replaced, equal, of_mask}
use Rattle.words.proofs.RowSets.{length-put, equal-same, equal-true}
use Rattle.rowset.specs.Mask.{digit, mask_has, mask_beyond, mask_put, mask_replaced, mask_moves, mask_of}
use Rattle.rowset.proofs.Bit.{has-suc, has-top, has-under, digit-suc, digit-le}

pub of_mask-length : (n s : ℕ) → length (of_mask n s) ≡ n
unfolding of_mask
of_mask-length zero s = refl
of_mask-length (suc n) s = ap suc (of_mask-length n s)

pub of_mask-suc : (n s : ℕ) → of_mask (suc n) s ≡ mask_has (suc n) s ∷ of_mask n s
unfolding of_mask
of_mask-suc n s = ap (λ x. x ∷ of_mask n s) (sym (has-suc n s))

pub mask-has : (n i s : ℕ) → 1 ≤ i → i ≤ n → has i (of_mask n s) ≡ mask_has i s
unfolding has of_mask
mask-has zero i s h l = absurd (omega arith)
mask-has (suc n) i s h l = elim (ℕ_discrete i (suc n)) [
  | yes e ↦ rw (of_mask-length n s, eq-eqb i (suc n) e, e) (sym (has-suc n s))
  | no e ↦ rw (of_mask-length n s, ne_eqb i (suc n) e) (mask-has n i s h (omega arith))
]

pub mask-moves : (n a o s : ℕ) → 1 ≤ a → a ≤ n → 1 ≤ o → o ≤ n → has a (of_mask n s) && not (has o (of_mask n s)) ≡ mask_moves a o s
unfolding mask_moves
mask-moves n a o s ha la ho lo = ap₂ (λ x y. x && not y) (mask-has n a s ha la) (mask-has n o s ho lo)

pub mask-within : (n s : ℕ) → mask_beyond n s ≡ false → s < 2 ^ n
unfolding mask_beyond
mask-within n s e = leb-false (2 ^ n) s e

-- a mask is known by its bits
pub of_mask-cong : (n s t : ℕ) → ((i : ℕ) → 1 ≤ i → i ≤ n → mask_has i s ≡ mask_has i t) → of_mask n s ≡ of_mask n t
unfolding of_mask
of_mask-cong zero s t h = refl
of_mask-cong (suc n) s t h =
    of_mask-suc n s ∙ ap₂ (λ x S. x ∷ S) (h (suc n) (omega arith) (omega arith)) (of_mask-cong n s t (λ i a b. h i a (omega arith))) ∙ sym (of_mask-suc n t)

-- a row above the rows of m
pub of_mask-above : (x : Bool) (n m : ℕ) → m < 2 ^ n → of_mask (suc n) (digit x * 2 ^ n + m) ≡ x ∷ of_mask n m
of_mask-above x n m b = of_mask-suc n (digit x * 2 ^ n + m) ∙ ap₂ (λ y S. y ∷ S) (has-top x n m b) (of_mask-cong n (digit x * 2 ^ n + m) m (has-under x n m b))

pub above-below : (x : Bool) (n m : ℕ) → m < 2 ^ n → digit x * 2 ^ n + m < 2 ^ suc n
above-below true n m b = omega (arith, pow-suc 2 n)
above-below false n m b = omega (arith, pow-suc 2 n)

pub mask_of-below : (S : RowSet) → mask_of S < 2 ^ length S
unfolding mask_of
mask_of-below [] = omega arith
mask_of-below (x ∷ S) = above-below x (length S) (mask_of S) (mask_of-below S)

-- BACK AND FORTH
pub set_back : (S : RowSet) → of_mask (length S) (mask_of S) ≡ S
unfolding mask_of of_mask
set_back [] = refl
set_back (x ∷ S) = of_mask-above x (length S) (mask_of S) (mask_of-below S) ∙ ap (λ T. x ∷ T) (set_back S)

mask-rest : (n s : ℕ) → mask_of (of_mask n s) ≡ s % 2 ^ n
unfolding mask_of of_mask
mask-rest zero s = omega arith
mask-rest (suc n) s =
    let e : 1 + n ≡ suc n = omega arith in
    rw (of_mask-length n s, mask-rest n s, ← has-suc n s, digit-suc n s) (sym (mod-pow-add s 1 n) ∙ ap (λ k. s % 2 ^ k) e)

pub mask-back : (n s : ℕ) → s < 2 ^ n → mask_of (of_mask n s) ≡ s
mask-back n s b = mask-rest n s ∙ mod-eq_of_lt b

-- ROW i PUT IN OR OUT
put-top : (x y : Bool) (n m : ℕ) → m < 2 ^ n → digit x * 2 ^ n + m ≡ mask_put (suc n) x (digit y * 2 ^ n + m)
unfolding mask_put
put-top x y n m b = let e : suc n - 1 ≡ n = omega arith in rw (has-top y n m b, e) (omega arith)

put_under : (x y : Bool) (n m i : ℕ) → m < 2 ^ n → 1 ≤ i → i ≤ n → digit y * 2 ^ n + mask_put i x m ≡ mask_put i x (digit y * 2 ^ n + m)
unfolding mask_put
put_under x y n m i b h l = rw (has-under y n m b i h l) (omega (arith, digit-le i m))

mask_of-put : (i : ℕ) (x : Bool) (S : RowSet) → 1 ≤ i → i ≤ length S → mask_of (put i x S) ≡ mask_put i x (mask_of S)
unfolding put mask_of
mask_of-put i x [] h l = absurd (omega arith)
mask_of-put i x (y ∷ S) h l = elim (ℕ_discrete i (suc (length S))) [
  | yes e ↦ rw (eq-eqb i (suc (length S)) e, e) (put-top x y (length S) (mask_of S) (mask_of-below S))
  | no e ↦ rw (ne_eqb i (suc (length S)) e, length-put i x S, mask_of-put i x S h (omega arith))
      (put_under x y (length S) (mask_of S) i (mask_of-below S) h (omega arith))
]

module _ (n s : ℕ) (b : s < 2 ^ n) where
  put_is : (i : ℕ) (x : Bool) → 1 ≤ i → i ≤ n → mask_put i x s ≡ mask_of (put i x (of_mask n s))
  put_is i x h l =
      let e : i ≤ length (of_mask n s) = rw (of_mask-length n s) l in ap (mask_put i x) (sym (mask-back n s b)) ∙ sym (mask_of-put i x (of_mask n s) h e)

  pub mask-put : (i : ℕ) (x : Bool) → 1 ≤ i → i ≤ n → of_mask n (mask_put i x s) ≡ put i x (of_mask n s)
  mask-put i x h l =
      let e : length (put i x (of_mask n s)) ≡ n = length-put i x (of_mask n s) ∙ of_mask-length n s in
      ap (of_mask n) (put_is i x h l) ∙ ap (λ k. of_mask k (mask_of (put i x (of_mask n s)))) (sym e) ∙ set_back (put i x (of_mask n s))

  pub put-below : (i : ℕ) (x : Bool) → 1 ≤ i → i ≤ n → mask_put i x s < 2 ^ n
  put-below i x h l =
      let e : length (put i x (of_mask n s)) ≡ n = length-put i x (of_mask n s) ∙ of_mask-length n s in
      rw (put_is i x h l) (subst (λ k. mask_of (put i x (of_mask n s)) < 2 ^ k) e (mask_of-below (put i x (of_mask n s))))

module _ (n s a o : ℕ) (b : s < 2 ^ n) (ha : 1 ≤ a) (la : a ≤ n) (ho : 1 ≤ o) (lo : o ≤ n) where
  pub mask-replaced : of_mask n (mask_replaced a o s) ≡ replaced a o (of_mask n s)
  unfolding mask_replaced
  mask-replaced = mask-put n (mask_put a false s) (put-below n s b a false ha la) o true ho lo ∙ ap (put o true) (mask-put n s b a false ha la)

  pub replaced-below : mask_replaced a o s < 2 ^ n
  unfolding mask_replaced
  replaced-below = put-below n (mask_put a false s) (put-below n s b a false ha la) o true ho lo

-- ONE SET
pub mask-equal : (n s t : ℕ) → s < 2 ^ n → t < 2 ^ n → equal (of_mask n s) (of_mask n t) ≡ eqb s t
mask-equal n s t bs bt = elim (ℕ_discrete s t) [
  | yes e ↦ rw (e, equal-same (of_mask n t)) (sym (eq-eqb t t refl))
  | no e ↦ rw (ne_eqb s t e) (differ (equal (of_mask n s) (of_mask n t)) refl e)
]
  where
    differ : (x : Bool) → equal (of_mask n s) (of_mask n t) ≡ x → (s ≡ t → ⊥) → x ≡ false
    differ true p e = absurd (e (sym (mask-back n s bs) ∙ ap mask_of (equal-true (of_mask n s) (of_mask n t) p) ∙ mask-back n t bt))
    differ false p e = refl
