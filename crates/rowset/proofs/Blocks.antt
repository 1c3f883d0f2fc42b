-- A table to be lent, as it is made: the sets and positions copied (copied), the blocks of the sets that letters change, where they stand
-- (block_up, block-down, block-fits), and how they are filled, two entries at a time, to the whole table (filled_none, filled_next, filled_row, filled-all).
use mathlib.Core.Path.{◌≡◌, sym, ap, ap₂, ◌∙◌}
use mathlib.Core.Logic.{⊎_elim}
use mathlib.Core.List.{List, ◌++◌}
use Prim.Native.Nat.{ℕ, ◌+◌, ◌-◌, ◌*◌, ◌%◌, ◌^◌, ◌≤◌, ◌<◌, min}
use native.Mathlib.Decide.{ℕ_discrete}
use native.Mathlib.Omega.{arith}
use borrow.Author.Tests.{lt-ltb, le-ltb}
use lib.ListN.{length, get_or, set, take, length-set, get_or-append}
use lib.Pow.{pow_mono, shl_exact}
use lib.Seq.{get_or-set_same, get_or-set_other, get_or-append-add, take_at}
use Rattle.rowset.specs.Mask.{position_of}
use Rattle.rowset.specs.Sets.{Neighbours, parted_of, changed_of, begin_of, block_of, Listed, Placed, Tables}
use Rattle.rowset.specs.Blocks.{Filled}
use Rattle.rowset.proofs.Begins.{begin-fits}
use Rattle.rowset.proofs.Changed.{neighbours-next, neighbours-turned, neighbours-up, changed-below}

-- WHERE THEY STAND
pub block_up : (a o : ℕ) → a < o → block_of a o ≡ a - 1
unfolding block_of
block_up a o h = rw (lt-ltb a o h)

pub block-down : (a o : ℕ) → o ≤ a → block_of a o ≡ a + 5
unfolding block_of
block-down a o h = rw (le-ltb a o h)

pub block-fits : {n a o : ℕ} → Neighbours n a o → n ≤ 8 → block_of a o < 14
block-fits {n} {a} {o} N h =
    ⊎_elim
    (λ e. omega (arith, N.to_low, N.from-high, block_up a o (omega arith)))
    (λ e. omega (arith, N.to_high, block-down a o (omega arith)))
    (neighbours-next N)

pub others-few : (n : ℕ) → n ≤ 8 → 2 ^ (n - 2) ≤ 64
others-few n h = let l : n - 2 ≤ 6 = omega arith in pow_mono l

-- the sets are the first 256 bytes, and the positions stand within the first 512
pub listed_kept : {t u : List ℕ} → ((i : ℕ) → i < 256 → get_or u i 0 ≡ get_or t i 0) → Listed t → Listed u
listed_kept kept L =
    record {
      entry = λ k p h g. let e = kept (begin_of k + p) (omega (arith, begin-fits k h)) in rw e (L.entry k p h g);
    }

pub placed-kept : {t u : List ℕ} → ((i : ℕ) → i < 512 → get_or u i 0 ≡ get_or t i 0) → Placed t → Placed u
placed-kept kept P = record { entry = λ s h. kept (256 + s) (omega arith) ∙ P.entry s h }

pub placed_at : {t : List ℕ} → Placed t → (s i : ℕ) → s < 256 → i ≡ 256 + s → get_or t i 0 ≡ position_of s
placed_at {t} P s i h e = ap (λ (v : ℕ). get_or t v 0) e ∙ P.entry s h

-- THE SETS AND THE POSITIONS, COPIED, one after the other into the first places of a table
pub copied : {sets positions : List ℕ} (a b r z : List ℕ) → a ≡ sets → b ≡ positions → length sets ≡ 256 → length positions ≡ 256 → Listed sets
    → ((s : ℕ) → s < 256 → get_or positions s 0 ≡ position_of s) → Listed (take 256 (a ++ r) ++ (b ++ z)) × Placed (take 256 (a ++ r) ++ (b ++ z))
copied {sets} {positions} a b r z ea eb ls lp L P =
    let e : take 256 (a ++ r) ++ (b ++ z) ≡ sets ++ (positions ++ z) =
    rw (ea, eb) (ap (λ (x : List ℕ). x ++ (positions ++ z)) (take_at sets r 256 ls)) in
    rw e (
      listed_kept (λ i g. get_or-append sets (positions ++ z) 0 i (omega arith)) L,
      record {
        entry = λ s g.
            ap (λ (n : ℕ). get_or (sets ++ (positions ++ z)) (n + s) 0) (sym ls) ∙ get_or-append-add sets (positions ++ z) s 0
            ∙ get_or-append positions z 0 s (omega arith) ∙ P s g;
      },
    )

-- THE TWO SETS OF A PAIR OF ROWS
module _ (l m : ℕ) (hl : 1 ≤ l) (ll : l < 8) (lm : m < 64) where
  pair-below : {a o : ℕ} → Neighbours 8 a o → changed_of a o m < 256
  pair-below {a} {o} N =
      changed-below m a o lm N.to_low N.to_high N.from_low N.from-high N.beside 8 (omega arith) N.to_high N.from-high (omega arith)

  pub up-below : changed_of l (l + 1) m < 256
  up-below = pair-below (neighbours-up 8 l hl ll)

  down-below : changed_of (l + 1) l m < 256
  down-below = pair-below (neighbours-turned (neighbours-up 8 l hl ll))

  pub up_is : parted_of l m + 1 * 2 ^ (l - 1) % 2 ^ 64 ≡ changed_of l (l + 1) m
  unfolding changed_of
  up_is =
      let f : 1 * 2 ^ (l - 1) ≡ 2 ^ (l - 1) = omega arith in
      let g : l ≡ min l (l + 1) = omega arith in
      ap₂ ◌+◌ (ap (λ (x : ℕ). parted_of x m) g) (shl_exact 1 (l - 1) 64 (omega arith) (omega arith) ∙ f)

-- ONE AFTER THE OTHER
pub filled_none : (n w : ℕ) (t : List ℕ) → w ≤ 64 → Listed t → Placed t → Filled n w t
filled_none n w t h L P = record { listed = L; placed = P; entry = λ a o m N g f. absurd (omega (arith, N.to_low, N.from_low)) }

-- one entry more in each of the blocks of the rows l and l + 1, read from the positions: of s, which has row l, and of r, which has row l + 1 instead
module _ {n l m : ℕ} {t : List ℕ} (F : Filled n (l * 64 + m) t) (ln : n ≤ 8) (hl : 1 ≤ l) (ll : l < n) (lm : m < 64) (long : length t ≡ 1408) where
  module _ (i j s r : ℕ) (ei : i ≡ 448 + (l * 64 + m)) (ej : j ≡ 896 + (l * 64 + m)) (es : s ≡ changed_of l (l + 1) m) (er : r ≡ changed_of (l + 1) l m) where
    up : ℕ
    up = get_or t (256 + s) 0

    down : ℕ
    down = get_or (set t i up) (256 + r) 0

    both : List ℕ
    both = set (set t i up) j down

    up_right : up ≡ position_of (changed_of l (l + 1) m)
    unfolding up
    up_right = placed_at F.placed _ _ (up-below l m hl (omega arith) lm) (ap (λ (v : ℕ). 256 + v) es)

    down-right : down ≡ position_of (changed_of (l + 1) l m)
    unfolding down
    down-right =
        let P : Placed (set t i up) = placed-kept (λ v h. get_or-set_other t i v up 0 (λ e. omega arith)) F.placed in
        placed_at P _ _ (down-below l m hl (omega arith) lm) (ap (λ (v : ℕ). 256 + v) er)

    kept : (v : ℕ) → (v ≡ i → ⊥) → (v ≡ j → ⊥) → get_or both v 0 ≡ get_or t v 0
    unfolding both
    kept v p q = get_or-set_other (set t i up) j v down 0 q ∙ get_or-set_other t i v up 0 p

    at_up : get_or both i 0 ≡ up
    unfolding both
    at_up = get_or-set_other (set t i up) j i down 0 (λ e. omega arith) ∙ get_or-set_same t i up 0 (omega arith)

    at-down : get_or both j 0 ≡ down
    unfolding both
    at-down = get_or-set_same (set t i up) j down 0 (omega (arith, length-set t i up))

    module _ (a k : ℕ) (ha : 1 ≤ a) (la : a < n) (hk : k < 2 ^ (n - 2)) (h : a * 64 + k < l * 64 + (m + 1)) where
      entry-up : get_or both (512 + (block_of a (a + 1) * 64 + k)) 0 ≡ position_of (changed_of a (a + 1) k)
      entry-up =
          let few = others-few n ln in
          let p : 512 + (block_of a (a + 1) * 64 + k) ≡ 448 + (a * 64 + k) = omega (arith, block_up a (a + 1) (omega arith)) in
          elim (ℕ_discrete (a * 64 + k) (l * 64 + m)) [
            | yes e ↦
                let q : a ≡ l = omega arith in
                let r : k ≡ m = omega arith in
                ap (λ (v : ℕ). get_or both v 0) (omega arith) ∙ at_up ∙ up_right ∙ sym (ap₂ (λ (b z : ℕ). position_of (changed_of b (b + 1) z)) q r)
            | no e ↦ kept _ (λ f. omega arith) (λ f. omega arith) ∙ F.entry a (a + 1) k (neighbours-up n a ha la) hk (omega arith)
          ]

      entry-down : get_or both (512 + (block_of (a + 1) a * 64 + k)) 0 ≡ position_of (changed_of (a + 1) a k)
      entry-down =
          let few = others-few n ln in
          let p : 512 + (block_of (a + 1) a * 64 + k) ≡ 896 + (a * 64 + k) = omega (arith, block-down (a + 1) a (omega arith)) in
          elim (ℕ_discrete (a * 64 + k) (l * 64 + m)) [
            | yes e ↦
                let q : a ≡ l = omega arith in
                let r : k ≡ m = omega arith in
                ap (λ (v : ℕ). get_or both v 0) (omega arith) ∙ at-down ∙ down-right ∙ sym (ap₂ (λ (b z : ℕ). position_of (changed_of (b + 1) b z)) q r)
            | no e ↦ kept _ (λ f. omega arith) (λ f. omega arith) ∙ F.entry (a + 1) a k (neighbours-turned (neighbours-up n a ha la)) hk (omega arith)
          ]

    filled-both : Filled n (l * 64 + (m + 1)) both
    filled-both =
        record {
          listed = listed_kept (λ v h. kept v (λ e. omega arith) (λ e. omega arith)) F.listed;
          placed = placed-kept (λ v h. kept v (λ e. omega arith) (λ e. omega arith)) F.placed;
          entry = λ a o k N h g.
              ⊎_elim
              (λ e. rw e (entry-up a k N.to_low (omega (arith, N.from-high)) h (omega arith)))
              (λ e. rw e (entry-down o k N.from_low (omega (arith, N.to_high)) h (omega arith)))
              (neighbours-next N);
        }

    pub filled_next : let x = get_or t (256 + s) 0 in Filled n (l * 64 + (m + 1)) (set (set t i x) j (get_or (set t i x) (256 + r) 0))
    unfolding up down both
    filled_next = filled-both

-- the blocks of the rows l and l + 1, whole
pub filled_row : {n m : ℕ} {t : List ℕ} (l : ℕ) → Filled n (l * 64 + m) t → n ≤ 8 → 2 ^ (n - 2) ≤ m → Filled n (l * 64 + 64) t
filled_row {n} l F h g =
    record { listed = F.listed; placed = F.placed; entry = λ a o k N f e. F.entry a o k N f (omega (arith, others-few n h)) }

-- and all
pub filled-all : {n w : ℕ} {t : List ℕ} → Filled n w t → n ≤ 8 → n * 64 ≤ w → Tables n t
filled-all {n} F h g =
    record {
      listed = F.listed;
      placed = F.placed;
      paired = record {
        entry = λ a o m N f.
            F.entry a o m N f
            (⊎_elim (λ e. omega (arith, others-few n h, N.from-high)) (λ e. omega (arith, others-few n h, N.to_high)) (neighbours-next N));
      };
    }
