-- Positions of masks among the masks with equally many rows: no two alike (position-injective), all below 70 (position-below). How many
-- masks of n rows have k of them (below-choose).
use mathlib.Core.Path.{◌≡◌, refl, sym}
use mathlib.Core.Bool.{Bool}
use Prim.Native.Nat.{ℕ, suc, ◌^◌, ◌≤◌, ◌<◌}
use native.Mathlib.Decide.{dec_lt, le_ind}
use native.Mathlib.Nat.{le_refl}
use native.Mathlib.Omega.{arith}
use borrow.Author.Tests.{eq-eqb}
use lib.Dec.{T, eqb, leb, leb→le, eqb→eq}
use Rattle.words.specs.Effort.{choose}
use Rattle.rowset.specs.Mask.{mask_has, count_to, mask_count, count_below, position_of}
use Rattle.rowset.proofs.Finite.{all, all-at, all₂, all₂-at}
use Rattle.rowset.proofs.Counts.{count_to-le}

-- NO TWO ALIKE
pub below-mono : (k s t : ℕ) → s ≤ t → count_below k s ≤ count_below k t
unfolding count_below
below-mono k s t h = le_ind (λ m. count_below k s ≤ count_below k m) (le_refl _) (λ m l i. omega arith) t h

below_suc : (s : ℕ) → count_below (mask_count s) (suc s) ≡ suc (position_of s)
unfolding count_below position_of
below_suc s = rw (eq-eqb (mask_count s) (mask_count s) refl) (omega arith)

position-before : (s t : ℕ) → mask_count s ≡ mask_count t → s < t → position_of s < position_of t
unfolding position_of
position-before s t e h =
    let m = below-mono (mask_count s) (suc s) t h in
    let b = below_suc s in
    rw (← e) (omega arith)

pub position-injective : (s t : ℕ) → mask_count s ≡ mask_count t → position_of s ≡ position_of t → s ≡ t
position-injective s t e p = go (dec_lt s t) (dec_lt t s)
  where
    go : Dec (s < t) → Dec (t < s) → s ≡ t
    go (yes l) d = absurd (omega (arith, position-before s t e l))
    go (no l) (yes g) = absurd (omega (arith, position-before t s (sym e) g))
    go (no l) (no g) = omega arith

-- BELOW 70: no more sets of four rows, of eight, are there
few : ℕ → Bool
few k = leb (count_below k 256) 70

few-all : T (all 9 few)
unfolding few count_below mask_count count_to mask_has
few-all = tt

pub position-below : (s : ℕ) → s < 256 → position_of s < 70
unfolding few mask_count
position-below s h =
    let f : count_below (mask_count s) 256 ≤ 70 = leb→le _ _ (all-at 9 few few-all (mask_count s) (omega (arith, count_to-le 8 s))) in
    omega (arith, below_suc s, below-mono (mask_count s) (suc s) 256 h)

-- HOW MANY of the masks of n rows have k: a computed test
chosen : ℕ → ℕ → Bool
chosen n k = eqb (count_below k (2 ^ n)) (choose n k)

chosen-all : T (all₂ 8 9 chosen)
unfolding chosen choose count_below mask_count count_to mask_has
chosen-all = tt

pub below-choose : (n k : ℕ) → n ≤ 7 → k ≤ 8 → count_below k (2 ^ n) ≡ choose n k
unfolding chosen
below-choose n k ln lk = eqb→eq _ _ (all₂-at 8 9 chosen chosen-all n k (omega arith) (omega arith))
