-- D on 70 numbers: a number scaled by the entries of one more row (Scaled, scaled-in, scaled-out), entries that agree (scaled-entries), zero (scaled-zero),
-- and the sets of k rows one after the other (diagonal-next, diagonal-all).
use mathlib.Core.Path.{◌≡◌, refl, sym, ap, ap₂, ◌∙◌, subst}
use mathlib.Core.Bool.{Bool, true, false, false≢true}
use mathlib.Core.List.{List, [], ◌∷◌}
use Prim.Native.Nat.{ℕ, suc, ◌+◌, ◌*◌, ◌^◌, ◌≤◌, ◌<◌}
use native.Mathlib.Numerals.{add-one}
use native.Mathlib.Omega.{arith}
use lib.ListN.{get_or, set, length}
use Rattle.number.specs.Number.{rounded, Ranged, Stored, bias}
use Rattle.number.specs.declared.Direction.TheVariants.{Nearest}
use Rattle.number.specs.declared.Number.{Number}
use Rattle.number.proofs.Reach.{ranged-more, ranged-stored, ranged-product, ranged-quotient}
use Rattle.number.proofs.Zero.{zero_is, product-zero-left, quotient-zero-left}
use Rattle.rowset.specs.Mask.{mask_has, count_below, position_of}
use Rattle.rowset.proofs.Masks.{of_mask-suc, of_mask-length}
use Rattle.rowset.proofs.Positions.{position-injective}
use Rattle.words.specs.RowSet.{RowSet, of_mask}
use Rattle.words.specs.Walk.{scaled}
use Rattle.rowset.specs.Sets.{SetAt}
use Rattle.table.specs.Table.{absent}
use Rattle.walk.specs.Steps.{scaling}
use Rattle.walk.specs.Held.{held_at, state_of, Agree, Working, letter_reach}
use Rattle.rowset.proofs.Order.{position-lt, position-within}
use Rattle.walk.proofs.Held.{held_back, held-working, agree-masks}
use Rattle.walk.proofs.Sweep.{Swept, swept-next, swept_all}

-- ONE NUMBER
module _ (op : Number → Number → Number) (e : ℕ → Number) (s : ℕ) (x : Number) where
  scaled-row : (i : ℕ) (b : Bool) → mask_has (suc i) s ≡ b → scaled rounded op e (of_mask (suc i) s) x ≡ scaled rounded op e (b ∷ of_mask i s) x
  scaled-row i b h = ap (λ (S : RowSet). scaled rounded op e S x) (of_mask-suc i s ∙ ap (λ (y : Bool). y ∷ of_mask i s) h)

  scaled-has : (i : ℕ) → mask_has (suc i) s ≡ true → scaled rounded op e (of_mask (suc i) s) x ≡ op (scaled rounded op e (of_mask i s) x) (e (suc i))
  unfolding scaled
  scaled-has i h = scaled-row i true h ∙ ap (λ (k : ℕ). op (scaled rounded op e (of_mask i s) x) (e (suc k))) (of_mask-length i s)

  scaled-not : (i : ℕ) → mask_has (suc i) s ≡ false → scaled rounded op e (of_mask (suc i) s) x ≡ scaled rounded op e (of_mask i s) x
  unfolding scaled
  scaled-not i h = scaled-row i false h

scale-reach : {r : ℕ} {y e : Number} (b : Bool) → Ranged r y → Stored e → r + 1064 ≤ bias → Ranged (r + 1033) (scaling b y e)
scale-reach {r} true u s h = ranged-more (omega arith) (ranged-quotient Nearest u (ranged-stored s) (omega (arith, s.low)))
scale-reach {r} false u s h = ranged-more (omega arith) (ranged-product Nearest u (ranged-stored s) (omega arith))

-- y is x scaled by the entries of the first i rows
pub record Scaled (b : Bool) (e : ℕ → Number) (s : ℕ) (x y : Number) (i : ℕ) : Type 0 where
  pub is : y ≡ scaled rounded (scaling b) e (of_mask i s) x
  pub ranged : Ranged (letter_reach + 1033 * i) y

pub scaled-none : (b : Bool) (e : ℕ → Number) (s : ℕ) (x : Number) → Ranged letter_reach x → Scaled b e s x x 0
unfolding scaled of_mask
scaled-none b e s x u = record { is = refl; ranged = ranged-more (omega arith) u }

module _ {b : Bool} {e : ℕ → Number} {s : ℕ} {x y : Number} {i : ℕ} (S : Scaled b e s x y i) (l : i < 8) where
  pub scaled-in : (z : Number) → mask_has (i + 1) s ≡ true → Stored (e (i + 1)) → z ≡ scaling b y (e (i + 1)) → Scaled b e s x z (i + 1)
  scaled-in z h t q =
      record {
        is = q ∙ ap (λ (a : Number). scaling b a (e (i + 1))) S.is
            ∙ subst (λ (k : ℕ). scaling b (scaled rounded (scaling b) e (of_mask i s) x) (e k) ≡ scaled rounded (scaling b) e (of_mask k s) x)
            (sym (add-one i)) (sym (scaled-has (scaling b) e s x i (subst (λ (k : ℕ). mask_has k s ≡ true) (add-one i) h)));
        ranged = subst (Ranged (letter_reach + 1033 * (i + 1))) (sym q) (ranged-more (omega arith) (scale-reach b S.ranged t (omega arith)));
      }

  pub scaled-out : (z : Number) → mask_has (i + 1) s ≡ false → z ≡ y → Scaled b e s x z (i + 1)
  scaled-out z h q =
      record {
        is = q ∙ S.is ∙ subst (λ (k : ℕ). scaled rounded (scaling b) e (of_mask i s) x ≡ scaled rounded (scaling b) e (of_mask k s) x)
            (sym (add-one i)) (sym (scaled-not (scaling b) e s x i (subst (λ (k : ℕ). mask_has k s ≡ false) (add-one i) h)));
        ranged = subst (Ranged (letter_reach + 1033 * (i + 1))) (sym q) (ranged-more (omega arith) S.ranged);
      }

-- only the entries of the rows of S matter
pub scaled-entries : (op : Number → Number → Number) (e f : ℕ → Number) (S : RowSet) (x : Number) → ((i : ℕ) → 1 ≤ i → i ≤ length S → e i ≡ f i)
    → scaled rounded op e S x ≡ scaled rounded op f S x
unfolding scaled
scaled-entries op e f [] x h = refl
scaled-entries op e f (true ∷ S) x h = ap₂ op (scaled-entries op e f S x (λ i l g. h i l (omega arith))) (h (suc (length S)) (omega arith) (omega arith))
scaled-entries op e f (false ∷ S) x h = scaled-entries op e f S x (λ i l g. h i l (omega arith))

-- zero stays zero
pub scaled-zero : {r : ℕ} (b : Bool) (e : ℕ → Number) (S : RowSet) (x : Number) → Ranged r x → x.m ≡ 0 → scaled rounded (scaling b) e S x ≡ x
unfolding scaled
scaled-zero b e [] x u z = refl
scaled-zero {r} b e (true ∷ S) x u z = ap (λ (y : Number). scaling b y (e (suc (length S)))) (scaled-zero b e S x u z) ∙ by b
  where
    by : (b : Bool) → scaling b x (e (suc (length S))) ≡ x
    by true = quotient-zero-left Nearest x (e (suc (length S))) z ∙ sym (zero_is x u z)
    by false = product-zero-left Nearest x (e (suc (length S))) z ∙ sym (zero_is x u z)
scaled-zero b e (false ∷ S) x u z = scaled-zero b e S x u z

-- THE SETS OF k ROWS, the set at p in place: no other set is read
module _ (n k : ℕ) (b : Bool) (e : ℕ → Number) (v : List Number) where
  unfoldable pub scaled_at : ℕ → Number
  scaled_at s = scaled rounded (scaling b) e (of_mask n s) (held_at v s)

  abbrev every : ℕ → Bool
  every s = true

  abbrev pub SweptDiagonal : List Number → ℕ → Type 0
  SweptDiagonal u p = Swept n k every position_of scaled_at (held_at v) u p

  module _ (ln : n ≤ 8) where
    module _ {p s : ℕ} (C : SetAt k p s) (lp : p < count_below k (2 ^ n)) where
      pub diagonal-lt : s < 2 ^ n
      diagonal-lt = position-within k s (2 ^ n) C.rows (omega (arith, C.position))

      module _ {u : List Number} (S : SweptDiagonal u p) where
        pub diagonal-old : get_or u p absent ≡ held_at v s
        unfolding held_at
        diagonal-old = ap (λ (x : ℕ). get_or u x absent) (sym C.position) ∙ S.rest s diagonal-lt C.rows (λ m. omega (arith, C.position))

        pub diagonal-ready : Working letter_reach n k (state_of v) → Ranged letter_reach (get_or u p absent)
        diagonal-ready r = subst (Ranged letter_reach) (sym diagonal-old) (held-working v ln r s diagonal-lt C.rows)

        pub diagonal-next : (z : Number) (u' : List Number) → z ≡ scaled rounded (scaling b) e (of_mask n s) (get_or u p absent) → u' ≡ set u p z
            → SweptDiagonal u' (p + 1)
        unfolding scaled_at
        diagonal-next z u' ez eu =
            swept-next S s ln diagonal-lt C.rows refl C.position
            (λ t bt ct mt q. position-injective t s (ct ∙ sym C.rows) (q ∙ sym C.position))
            u' z (eu ∙ ap (λ (x : ℕ). set u x z) (sym C.position)) (ez ∙ ap (scaled rounded (scaling b) e (of_mask n s)) diagonal-old)

    pub diagonal-all : {u : List Number} {p : ℕ} → SweptDiagonal u p → count_below k (2 ^ n) ≤ p
        → Agree n k (state_of u) (λ S. scaled rounded (scaling b) e S (state_of v S))
    unfolding scaled_at
    diagonal-all {u} S h =
        agree-masks n k u (λ S. scaled rounded (scaling b) e S (state_of v S)) ln
        (λ s l c. swept_all S (λ s l c m. omega (arith, position-lt k s (2 ^ n) c l)) (λ s l c m. absurd (false≢true (sym m))) s l c
        ∙ ap (scaled rounded (scaling b) e (of_mask n s)) (sym (held_back v n s l)))
