-- The sets of k rows as masks, one after the other: the set at a position (SetAt), and the sets that a letter changes, numbered by their other rows
-- (ChangedAt);
-- the tables of both that a caller holds once and lends (Tables).
use Rattle.std.specs.Prelude.{◌≡◌, Bool, true, cond, ◌||◌, List, get_or, ℕ, zero, suc, ◌+◌, ◌-◌, ◌*◌, ◌/◌, ◌%◌, ◌^◌, ◌≤◌, ◌<◌, min, eqb, ltb}
use Rattle.rowset.specs.Mask.{mask_count, mask_moves, count_below, position_of}

-- of two rows one is next to the other
unfoldable pub adjacent : ℕ → ℕ → Bool
adjacent a o = eqb a (o + 1) || eqb o (a + 1)

-- the rows of a letter: a is added to, o is read
pub record Neighbours (n a o : ℕ) : Type 0 where
  pub to_low : 1 ≤ a
  pub to_high : a ≤ n
  pub from_low : 1 ≤ o
  pub from-high : o ≤ n
  pub beside : adjacent a o ≡ true

-- a set of the other rows, with the places of rows l and l + 1 put in, both free
unfoldable pub parted_of : ℕ → ℕ → ℕ
parted_of l m = m + 3 * (m / 2 ^ (l - 1) * 2 ^ (l - 1))

-- and the other way round: the places of rows l and l + 1 taken out
unfoldable pub closed_of : ℕ → ℕ → ℕ
closed_of l s = s % 2 ^ (l - 1) + s / 2 ^ (l + 1) * 2 ^ (l - 1)

-- the set with row a and without its neighbour o whose other rows are the set m
unfoldable pub changed_of : ℕ → ℕ → ℕ → ℕ
changed_of a o m = parted_of (min a o) m + 2 ^ (a - 1)

-- s is the set at position p of the sets of k rows
pub record SetAt (k p s : ℕ) : Type 0 where
  pub below : s < 256
  pub rows : mask_count s ≡ k
  pub position : position_of s ≡ p

-- s, of k rows, has row a and not row o, and its other rows are the set at position p
pub record ChangedAt (k a o p s : ℕ) : Type 0 where
  pub below : s < 256
  pub rows : mask_count s ≡ k
  pub moves : mask_moves a o s ≡ true
  pub others : position_of (closed_of (min a o) s) ≡ p

-- where the sets of k rows begin among all masks, those of fewer rows first
unfoldable pub begin_of : ℕ → ℕ
begin_of zero = 0
begin_of (suc k) = begin_of k + count_below k 256

-- A TABLE OF 1408 BYTES: first the 256 masks, those of fewer rows first, and of those with equally many the smaller first
pub record Listed (t : List ℕ) : Type 0 where
  pub entry : (k p : ℕ) → k ≤ 8 → p < count_below k 256 → SetAt k p (get_or t (begin_of k + p) 0)

-- then the positions of the 256 masks, one after the other
pub record Placed (t : List ℕ) : Type 0 where
  pub entry : (s : ℕ) → s < 256 → get_or t (256 + s) 0 ≡ position_of s

-- then 14 blocks of 64, one for each pair of neighbours a and o; first those with a below o
unfoldable pub block_of : ℕ → ℕ → ℕ
block_of a o = cond (ltb a o) (a - 1) (a + 5)

-- of n rows, a block has the positions of the sets with row a and without row o, at the set of their other rows
pub record Paired (n : ℕ) (t : List ℕ) : Type 0 where
  pub entry : (a o m : ℕ) → Neighbours n a o → m < 2 ^ (n - 2) → get_or t (512 + (block_of a o * 64 + m)) 0 ≡ position_of (changed_of a o m)

-- all three: the sets, their positions, and the blocks for n rows
pub record Tables (n : ℕ) (t : List ℕ) : Type 0 where
  pub listed : Listed t
  pub placed : Placed t
  pub paired : Paired n t
