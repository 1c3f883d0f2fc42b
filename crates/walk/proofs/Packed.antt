-- Numbers in words: what 70 words stand for (number_at, numbers-set), where a walk starts (start-words),
-- and a letter on them (word-ready, word_fits, sum_back, zero_same).
use mathlib.Core.Path.{◌≡◌, refl, sym, ap, ap₂, ◌∙◌, subst}
use mathlib.Core.List.{List, [], ◌∷◌, map}
use Prim.Native.Nat.{ℕ, zero, suc, ◌+◌, ◌^◌, ◌<◌}
use native.Mathlib.Omega.{arith}
use lib.ListN.{get_or, set, length, replicate, get_or-map}
use lib.Seq.{set-get_or}
use Rattle.number.specs.Number.{zero_number, one_number, sum_of, product_of, Ranged, reach}
use Rattle.number.specs.Packed.{pack_of, unpack_of}
use Rattle.number.specs.declared.Direction.TheVariants.{Nearest}
use Rattle.number.specs.declared.Number.{Number}
use Rattle.number.proofs.Words.{unpack-pack}
use Rattle.number.proofs.Reach.{ranged-sum}
use Rattle.number.proofs.Zero.{product-zero-right, sum-zero-right}
use Rattle.rowset.specs.Mask.{position_of}
use Rattle.walk.specs.Held.{start_of}
use Rattle.table.specs.Table.{absent}
use Rattle.walk.specs.Packed.{numbers_of}
use Rattle.arrays.proofs.Filled.{read-any}

map-set : (l : List ℕ) (i y : ℕ) → map unpack_of (set l i y) ≡ set (map unpack_of l) i (unpack_of y)
map-set [] i y = refl
map-set (x ∷ l) zero y = refl
map-set (x ∷ l) (suc i) y = ap (λ (t : List Number). unpack_of x ∷ t) (map-set l i y)

long : (l : List ℕ) → length (map unpack_of l) ≡ length l
long [] = refl
long (x ∷ l) = ap suc (long l)

-- the number at i
pub number_at : (u : List ℕ) (i : ℕ) → length u ≡ 70 → i < 70 → get_or (numbers_of u) i absent ≡ unpack_of (get_or u i 0)
number_at u i e h = read-any (map unpack_of u) i absent (unpack_of 0) (omega (arith, long u, e)) ∙ get_or-map unpack_of u i 0

pub words_size : (u : List ℕ) → length (numbers_of u) ≡ 70 → length u ≡ 70
words_size u e = sym (long u) ∙ e

pub numbers-set : (u : List ℕ) (i z : ℕ) → numbers_of (set u i z) ≡ set (numbers_of u) i (unpack_of z)
numbers-set u i z = map-set u i z

module _ (u : List ℕ) (w : Number) (i j : ℕ) (e : length u ≡ 70) (hi : i < 70) (hj : j < 70)
    (R : Ranged reach (get_or (numbers_of u) i absent) × Ranged reach w × Ranged reach (get_or (numbers_of u) j absent)
    × Ranged reach (product_of w (get_or (numbers_of u) j absent))) where
  abbrev x : Number
  x = unpack_of (get_or u i 0)

  abbrev y : Number
  y = unpack_of (get_or u j 0)

  at_i : Ranged reach x
  at_i = subst (Ranged reach) (number_at u i e hi) R.0

  between : Ranged reach (product_of w y)
  between = subst (λ (z : Number). Ranged reach (product_of w z)) (number_at u j e hj) R.3

  pub word-ready : Ranged reach x × Ranged reach w × Ranged reach y × Ranged reach (product_of w y)
  word-ready = (at_i, R.1, subst (Ranged reach) (number_at u j e hj) R.2, between)

  summed : Ranged (reach + 2) (sum_of x (product_of w y))
  summed = ranged-sum Nearest at_i between (omega arith)

  pub word_fits : ((sum_of x (product_of w y)).m < 2 ^ 32) × ((sum_of x (product_of w y)).x < 2 ^ 32)
  word_fits = (summed.high, omega (arith, summed.stop))

  pub sum_back : (z : ℕ) → z ≡ pack_of (sum_of x (product_of w y)) → unpack_of z ≡ sum_of (get_or (numbers_of u) i absent)
      (product_of w (get_or (numbers_of u) j absent))
  sum_back z ez =
      ap unpack_of ez ∙ unpack-pack (sum_of x (product_of w y)) summed.high
      ∙ ap₂ (λ (p q : Number). sum_of p (product_of w q)) (sym (number_at u i e hi)) (sym (number_at u j e hj))

  -- a zero adds nothing
  pub zero_same : y.m ≡ 0 → get_or (numbers_of u) i absent ≡ sum_of (get_or (numbers_of u) i absent) (product_of w (get_or (numbers_of u) j absent))
  zero_same h =
      let q : (get_or (numbers_of u) j absent).m ≡ 0 = ap (λ (a : Number). a.m) (number_at u j e hj) ∙ h in
      let p : (product_of w (get_or (numbers_of u) j absent)).m ≡ 0 = ap (λ (a : Number). a.m)
      (product-zero-right Nearest w (get_or (numbers_of u) j absent) q) in
      sym (sum-zero-right Nearest (get_or (numbers_of u) i absent) (product_of w (get_or (numbers_of u) j absent)) R.0 p)

pub set_same : (l : List Number) (i : ℕ) → l ≡ set l i (get_or l i absent)
set_same l i = sym (set-get_or l i absent)

pub numbers-size : (u : List ℕ) → length u ≡ 70 → length (numbers_of u) ≡ 70
numbers-size u e = long u ∙ e

-- zero but for the set j
map-replicate : (k z : ℕ) → map unpack_of (replicate k z) ≡ replicate k (unpack_of z)
map-replicate zero z = refl
map-replicate (suc k) z = ap (λ (t : List Number). unpack_of z ∷ t) (map-replicate k z)

pub start-words : (j p z w : ℕ) (a b : Number) → a ≡ zero_number → b ≡ one_number → z ≡ pack_of a → w ≡ pack_of b → p ≡ position_of j
    → numbers_of (set (replicate 70 z) p w) ≡ start_of j
unfolding start_of
start-words j p z w a b ea eb ez ew ep =
    numbers-set (replicate 70 z) p w ∙ ap₂ (λ (l : List Number) (y : Number). set l p y) zeros one
    ∙ ap (λ (q : ℕ). set (replicate 70 zero_number) q one_number) ep
  where
    zeros : map unpack_of (replicate 70 z) ≡ replicate 70 zero_number
    zeros = map-replicate 70 z ∙ ap (replicate 70) (ap unpack_of (ez ∙ ap pack_of ea) ∙ unpack-pack zero_number (omega arith))

    one : unpack_of w ≡ one_number
    one = ap unpack_of (ew ∙ ap pack_of eb) ∙ unpack-pack one_number (omega arith)
