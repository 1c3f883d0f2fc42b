-- The sets of k rows in the order of their masks: where each stands (position-lt, position-within), the table of all sets (table, set_at) and how many there
-- are (counts, count-at).
use mathlib.Core.Path.{◌≡◌, refl, ap, ap₂, ◌∙◌}
use mathlib.Core.Bool.{Bool, true, false}
use mathlib.Core.List.{List, [], ◌∷◌, ◌++◌}
use Prim.Native.Nat.{ℕ, zero, suc, ◌+◌, ◌-◌, ◌*◌, ◌/◌, ◌%◌, ◌^◌, ◌≤◌, ◌<◌}
use native.Mathlib.Nat.{not-suc-le-zero}
use native.Mathlib.Decide.{dec_lt}
use native.Mathlib.Omega.{arith}
use borrow.Author.Tests.{eq-eqb, eqb-true}
use lib.Dec.{T, eqb, leb, leb→le}
use lib.ListN.{length, get_or, get_or-append}
use lib.Seq.{get_or-append-add}
use Rattle.rowset.specs.Mask.{digit, mask_has, count_to, mask_count, count_below, position_of}
use Rattle.rowset.proofs.Finite.{all, all-at}
use Rattle.rowset.proofs.Tabulated.{tabulated, tabulated-first}
use Rattle.rowset.proofs.Positions.{below-mono, position-below}
use Rattle.rowset.specs.Sets.{SetAt}

-- WHERE THEY STAND
below_suc : (k s : ℕ) → mask_count s ≡ k → count_below k (suc s) ≡ suc (count_below k s)
unfolding count_below
below_suc k s e = rw (eq-eqb (mask_count s) k e) (omega arith)

pub position-counts : (k s : ℕ) → mask_count s ≡ k → position_of s ≡ count_below k s
unfolding position_of
position-counts k s e = ap (λ (c : ℕ). count_below c s) e

-- the sets of k rows below t have the positions below their count, and no others have
pub position-lt : (k s t : ℕ) → mask_count s ≡ k → s < t → position_of s < count_below k t
position-lt k s t e h = omega (arith, position-counts k s e, below_suc k s e, below-mono k (suc s) t h)

pub position-within : (k s t : ℕ) → mask_count s ≡ k → position_of s < count_below k t → s < t
position-within k s t e h = elim (dec_lt s t) [ yes l ↦ l | no l ↦ absurd (omega (arith, position-counts k s e, below-mono k t s (omega arith))) ]

-- THE TABLE
abbrev kept : Bool → ℕ → List ℕ → List ℕ
kept true s L = s ∷ L
kept false s L = L

-- the sets of k rows among the masks i, i + 1, .. : c masks
unfoldable pub those : ℕ → ℕ → ℕ → List ℕ
those k i zero = []
those k i (suc c) = kept (eqb (mask_count i) k) i (those k (suc i) c)

-- s is one of them, with p of k rows before it from i on
record Stands (k i c p s : ℕ) : Type 0 where
  below : s < i + c
  rows : mask_count s ≡ k
  before : count_below k s ≡ count_below k i + p

stands-next : (k i c : ℕ) (b : Bool) → eqb (mask_count i) k ≡ b
    → ((p : ℕ) → p < length (those k (suc i) c) → Stands k (suc i) c p (get_or (those k (suc i) c) p 0))
    → (p : ℕ) → p < length (kept b i (those k (suc i) c)) → Stands k i (suc c) p (get_or (kept b i (those k (suc i) c)) p 0)
unfolding count_below
stands-next k i c true e ih zero h = record { below = omega arith; rows = eqb-true (mask_count i) k e; before = omega arith }
stands-next k i c true e ih (suc p) h =
    let r = ih p (omega arith) in
    let n : count_below k (suc i) ≡ suc (count_below k i) = rw e (omega arith) in
    record { below = omega (arith, r.below); rows = r.rows; before = omega (arith, r.before) }
stands-next k i c false e ih p h =
    let r = ih p h in
    let n : count_below k (suc i) ≡ count_below k i = rw e (omega arith) in
    record { below = omega (arith, r.below); rows = r.rows; before = omega (arith, r.before) }

those-at : (k i c p : ℕ) → p < length (those k i c) → Stands k i c p (get_or (those k i c) p 0)
unfolding those
those-at k i zero p h = absurd (not-suc-le-zero h)
those-at k i (suc c) p h = stands-next k i c (eqb (mask_count i) k) refl (those-at k (suc i) c) p h

length-kept : (b : Bool) (s : ℕ) (L : List ℕ) → length (kept b s L) ≡ digit b + length L
length-kept true s L = omega arith
length-kept false s L = omega arith

those-length : (k i c : ℕ) → count_below k i + length (those k i c) ≡ count_below k (i + c)
unfolding those count_below
those-length k i zero = let e : i + 0 ≡ i = omega arith in rw e (omega arith)
those-length k i (suc c) =
    let e : i + suc c ≡ suc i + c = omega arith in
    rw e (omega (arith, length-kept (eqb (mask_count i) k) i (those k (suc i) c), those-length k (suc i) c))

none_below : (k : ℕ) → count_below k 0 ≡ 0
unfolding count_below
none_below k = refl

those-count : (k c : ℕ) → length (those k 0 c) ≡ count_below k c
those-count k c =
    let e : 0 + c ≡ c = omega arith in
    let l : count_below k 0 + length (those k 0 c) ≡ count_below k c = those-length k 0 c ∙ ap (count_below k) e in
    omega (arith, none_below k)

-- the sets of k rows, of k + 1 rows, .. : c counts of rows; and how many of them stand before those of k + d rows
unfoldable pub table : ℕ → ℕ → List ℕ
table k zero = []
table k (suc c) = those k 0 256 ++ table (suc k) c

unfoldable pub before : ℕ → ℕ → ℕ
before k zero = 0
before k (suc d) = length (those k 0 256) + before (suc k) d

table_at : (k c d p : ℕ) → d < c → p < length (those (k + d) 0 256) → get_or (table k c) (before k d + p) 0 ≡ get_or (those (k + d) 0 256) p 0
unfolding table before
table_at k zero d p h g = absurd (not-suc-le-zero h)
table_at k (suc c) zero p h g =
    let e : k + 0 ≡ k = omega arith in
    let z : 0 + p ≡ p = omega arith in
    rw (z, e) (get_or-append (those k 0 256) (table (suc k) c) 0 p (rw e at g))
table_at k (suc c) (suc d) p h g =
    let e : k + suc d ≡ suc k + d = omega arith in
    let a : length (those k 0 256) + before (suc k) d + p ≡ length (those k 0 256) + (before (suc k) d + p) = omega arith in
    rw (a, get_or-append-add (those k 0 256) (table (suc k) c) (before (suc k) d + p) 0, e) (table_at (suc k) c d p (omega arith) (rw e at g))

pub set_at : (k p : ℕ) → k ≤ 8 → p < count_below k 256 → SetAt k p (get_or (table 0 9) (before 0 k + p) 0)
set_at k p l h =
    let z : 0 + k ≡ k = omega arith in
    let g : p < length (those k 0 256) = rw (those-count k 256) h in
    let e : get_or (table 0 9) (before 0 k + p) 0 ≡ get_or (those k 0 256) p 0 = rw z at (table_at 0 9 k p (omega arith) (rw z g)) in
    let s = those-at k 0 256 p g in
    rw e (record {
      below = omega (arith, s.below);
      rows = s.rows;
      position = position-counts k (get_or (those k 0 256) p 0) s.rows
          ∙ omega (arith, s.before, none_below k);
    })

fits : ℕ → Bool
fits k = leb (before 0 k + length (those k 0 256)) 256

fits_all : T (all 9 fits)
unfolding fits before those mask_count count_to mask_has
fits_all = tt

pub set-fits : (k : ℕ) → k ≤ 8 → before 0 k + count_below k 256 ≤ 256
unfolding fits
set-fits k l = let t : before 0 k + length (those k 0 256) ≤ 256 = leb→le _ _ (all-at 9 fits fits_all k (omega arith)) in rw (← those-count k 256) t

-- of k rows there are at most 70 sets
pub sets-few : (k t : ℕ) → k ≤ 8 → t ≤ 256 → count_below k t ≤ 70
sets-few k t l h = elim (dec_lt 0 (count_below k 256)) [
  | yes g ↦
      let s = set_at k (count_below k 256 - 1) l (omega arith) in
      omega (arith, below-mono k t 256 h, s.position, position-below _ s.below)
  | no g ↦ omega (arith, below-mono k t 256 h)
]

-- HOW MANY
-- the sets of k rows out of n are counted at n * 9 + k
unfoldable pub counted : ℕ → ℕ
counted t = count_below (t % 9) (2 ^ (t / 9))

pub counted-at : (n k : ℕ) → n ≤ 8 → k ≤ 8 → get_or (tabulated counted 0 81) (n * 9 + k) 0 ≡ count_below k (2 ^ n)
unfolding counted
counted-at n k h l =
    let a : (n * 9 + k) % 9 ≡ k = omega arith in
    let b : (n * 9 + k) / 9 ≡ n = omega arith in
    tabulated-first counted 81 (n * 9 + k) (omega arith) ∙ ap₂ (λ (x y : ℕ). count_below x (2 ^ y)) a b
