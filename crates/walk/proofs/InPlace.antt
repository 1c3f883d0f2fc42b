-- A letter on 70 words in place, one set after the other.
-- E or Et at a set of the other rows (AtSet): the words of the two sets are within reach (step-ready), their sum fits a word (step_fits), and the letter
-- is one set further when the sum is put (step-next), or when the number that is read is zero and nothing is put (step-passed).
-- D at a set (AtEntry): its number is within reach (entry_ready), and D is one set further when it is scaled (entry_next), or zero (entry-passed).
use mathlib.Core.Path.{◌≡◌, refl, sym, ap, ◌∙◌, subst}
use mathlib.Core.Bool.{Bool}
use mathlib.Core.List.{List}
use Prim.Native.Nat.{ℕ, ◌+◌, ◌-◌, ◌^◌, ◌≤◌, ◌<◌}
use native.Mathlib.Omega.{arith}
use lib.ListN.{get_or, set, length}
use lib.Pow.{pow_mono}
use Rattle.number.specs.Number.{rounded, sum_of, product_of, Ranged, reach}
use Rattle.number.specs.Packed.{pack_of, unpack_of}
use Rattle.number.specs.declared.Number.{Number}
use Rattle.number.proofs.Words.{unpack-pack}
use Rattle.rowset.specs.Mask.{count_below, mask_replaced, position_of}
use Rattle.rowset.specs.Sets.{Neighbours, SetAt, ChangedAt, changed_of}
use Rattle.rowset.proofs.Changed.{changed-at, changed-replaced}
use Rattle.rowset.proofs.Order.{position-within}
use Rattle.rowset.proofs.Positions.{position-below}
use Rattle.words.specs.RowSet.{of_mask}
use Rattle.words.specs.Walk.{scaled}
use Rattle.table.specs.Table.{absent}
use Rattle.walk.specs.Steps.{scaling}
use Rattle.walk.specs.Held.{state_of, Working, letter_reach}
use Rattle.walk.specs.Packed.{numbers_of}
use Rattle.walk.proofs.Moves.{SweptMove, move-ready, move-next}
use Rattle.walk.proofs.Scaling.{SweptDiagonal, scaled-zero, diagonal-ready, diagonal-next}
use Rattle.walk.proofs.Packed.{number_at, words_size, numbers-set, word-ready, word_fits, sum_back, zero_same, set_same}

-- the set m of the other rows is one of n - 2 rows
pub others-lt : (n k : ℕ) {p m : ℕ} → SetAt (k - 1) p m → p < count_below (k - 1) (2 ^ (n - 2)) → m < 2 ^ (n - 2)
others-lt n k {p} {m} M lp = position-within (k - 1) m (2 ^ (n - 2)) M.rows (omega (arith, M.position))

-- E OR Et: the sets before the one whose other rows are m have their new numbers, and the number at position j is read
pub record AtSet (n k a o : ℕ) (w : Number) (u₀ u : List ℕ) (p m j : ℕ) : Type 0 where
  pub rows : Neighbours n a o
  pub few : n ≤ 8
  pub some : 1 ≤ k
  pub others : SetAt (k - 1) p m
  pub count : p < count_below (k - 1) (2 ^ (n - 2))
  pub swept : SweptMove n k a o w (numbers_of u₀) (numbers_of u) p
  pub read : j ≡ position_of (changed_of o a m)
  pub low : j < 70
  pub working : Working letter_reach n k (state_of (numbers_of u₀))
  pub weight : Ranged 1000 w

module _ {n k a o : ℕ} {w : Number} {u₀ u : List ℕ} {p m j : ℕ} (A : AtSet n k a o w u₀ u p m j) where
  small : m < 64
  small =
      let l : n - 2 ≤ 6 = omega (arith, A.few) in
      let h : 2 ^ (n - 2) ≤ 2 ^ 6 = pow_mono l in
      omega (arith, others-lt n k A.others A.count)

  la : a ≤ 8
  la = omega (arith, A.rows.to_high, A.few)

  lo : o ≤ 8
  lo = omega (arith, A.rows.from-high, A.few)

  changed : ChangedAt k a o p (changed_of a o m)
  changed = changed-at k a o p m A.some A.rows.to_low la A.rows.from_low lo A.rows.beside small A.others

  replaced : changed_of o a m ≡ mask_replaced a o (changed_of a o m)
  replaced = sym (changed-replaced m a o small A.rows.to_low la A.rows.from_low lo A.rows.beside)

  size : length u ≡ 70
  size = words_size u A.swept.size

  -- i is the position of the set that is changed
  module _ (i : ℕ) (ei : i ≡ position_of (changed_of a o m)) (hi : i < 70) where
    abbrev sum : Number
    sum = sum_of (unpack_of (get_or u i 0)) (product_of w (unpack_of (get_or u j 0)))

    ready : Ranged reach (get_or (numbers_of u) i absent) × Ranged reach w × Ranged reach (get_or (numbers_of u) j absent)
        × Ranged reach (product_of w (get_or (numbers_of u) j absent))
    ready =
        move-ready n k a o w (numbers_of u₀) A.rows A.few A.some changed A.count A.swept
        i (changed_of o a m) j ei replaced A.read A.working A.weight

    pub step-ready : Ranged reach (unpack_of (get_or u i 0)) × Ranged reach w × Ranged reach (unpack_of (get_or u j 0))
        × Ranged reach (product_of w (unpack_of (get_or u j 0)))
    step-ready = word-ready u w i j size hi A.low ready

    pub step_fits : (sum.m < 2 ^ 32) × (sum.x < 2 ^ 32)
    step_fits = word_fits u w i j size hi A.low ready

    pub step-next : (z : ℕ) → z ≡ pack_of sum → SweptMove n k a o w (numbers_of u₀) (numbers_of (set u i z)) (p + 1)
    step-next z e =
        move-next n k a o w (numbers_of u₀) A.rows A.few A.some changed A.count A.swept
        i (changed_of o a m) j ei replaced A.read
        (unpack_of z) (numbers_of (set u i z)) (sum_back u w i j size hi A.low ready z e) (numbers-set u i z)

  pub step-passed : (unpack_of (get_or u j 0)).m ≡ 0 → SweptMove n k a o w (numbers_of u₀) (numbers_of u) (p + 1)
  step-passed z =
      let i : ℕ = position_of (changed_of a o m) in
      let hi : i < 70 = position-below (changed_of a o m) changed.below in
      move-next n k a o w (numbers_of u₀) A.rows A.few A.some changed A.count A.swept
      i (changed_of o a m) j refl replaced A.read
      (get_or (numbers_of u) i absent) (numbers_of u) (zero_same u w i j size hi A.low (ready i refl hi) z) (set_same (numbers_of u) i)

-- D: the sets before the one at position p have their new numbers
pub record AtEntry (n k : ℕ) (b : Bool) (e : ℕ → Number) (u₀ u : List ℕ) (p s : ℕ) : Type 0 where
  pub few : n ≤ 8
  pub here : SetAt k p s
  pub count : p < count_below k (2 ^ n)
  pub swept : SweptDiagonal n k b e (numbers_of u₀) (numbers_of u) p
  pub working : Working letter_reach n k (state_of (numbers_of u₀))

module _ {n k : ℕ} {b : Bool} {e : ℕ → Number} {u₀ u : List ℕ} {p s : ℕ} (A : AtEntry n k b e u₀ u p s) where
  pub entry_lt : p < 70
  entry_lt = omega (arith, A.here.position, position-below s A.here.below)

  held : get_or (numbers_of u) p absent ≡ unpack_of (get_or u p 0)
  held = number_at u p (words_size u A.swept.size) entry_lt

  pub entry_ready : Ranged letter_reach (unpack_of (get_or u p 0))
  entry_ready = subst (Ranged letter_reach) held (diagonal-ready n k b e (numbers_of u₀) A.few A.here A.count A.swept A.working)

  pub entry_next : (y : Number) (z : ℕ) → y ≡ scaled rounded (scaling b) e (of_mask n s) (unpack_of (get_or u p 0)) → y.m < 2 ^ 32 → z ≡ pack_of y
      → SweptDiagonal n k b e (numbers_of u₀) (numbers_of (set u p z)) (p + 1)
  entry_next y z ey l ez =
      diagonal-next n k b e (numbers_of u₀) A.few A.here A.count A.swept (unpack_of z) (numbers_of (set u p z))
      (ap unpack_of ez ∙ unpack-pack y l ∙ ey ∙ ap (scaled rounded (scaling b) e (of_mask n s)) (sym held)) (numbers-set u p z)

  pub entry-passed : (unpack_of (get_or u p 0)).m ≡ 0 → SweptDiagonal n k b e (numbers_of u₀) (numbers_of u) (p + 1)
  entry-passed z =
      let x : Number = get_or (numbers_of u) p absent in
      let r : Ranged letter_reach x = subst (Ranged letter_reach) (sym held) entry_ready in
      diagonal-next n k b e (numbers_of u₀) A.few A.here A.count A.swept x (numbers_of u)
      (sym (scaled-zero b e (of_mask n s) x r (ap (λ (a : Number). a.m) held ∙ z))) (set_same (numbers_of u) p)
