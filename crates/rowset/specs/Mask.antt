-- Row sets as masks of eight bits, bit 0 for row 1 (document 01, "The rounded rule"): membership, replacement, count, position, consecutive rows, sets among
-- chosen rows, the first rows joined to a set.
-- Each has the name of its counterpart on lists of Bools (RowSet) with `mask` before it; `mask_of` makes a mask of a list.
use Rattle.std.specs.Prelude.{Bool, true, false, not, ◌&&◌, [], ◌∷◌, ℕ, zero, suc, ◌+◌, ◌-◌, ◌*◌, ◌/◌, ◌%◌, ◌^◌, eqb, leb, length}
use Rattle.words.specs.RowSet.{RowSet}

-- a digit of a mask
abbrev pub digit : Bool → ℕ
digit true = 1
digit false = 0

-- row i is in s
unfoldable pub mask_has : ℕ → ℕ → Bool
mask_has i s = eqb (s / 2 ^ (i - 1) % 2) 1

-- s has a row beyond the first n
unfoldable pub mask_beyond : ℕ → ℕ → Bool
mask_beyond n s = leb (2 ^ n) s

-- s with row i in it (true) or not in it (false)
unfoldable pub mask_put : ℕ → Bool → ℕ → ℕ
mask_put i x s = s - digit (mask_has i s) * 2 ^ (i - 1) + digit x * 2 ^ (i - 1)

-- s with row o in place of row a
unfoldable pub mask_replaced : ℕ → ℕ → ℕ → ℕ
mask_replaced a o s = mask_put o true (mask_put a false s)

-- s has row a and not row o
unfoldable pub mask_moves : ℕ → ℕ → ℕ → Bool
mask_moves a o s = mask_has a s && not (mask_has o s)

-- how many of the rows 1 .. n are in s
unfoldable pub count_to : ℕ → ℕ → ℕ
count_to zero s = 0
count_to (suc n) s = digit (mask_has (suc n) s) + count_to n s

-- how many rows s has, of eight
unfoldable pub mask_count : ℕ → ℕ
mask_count s = count_to 8 s

-- how many of the masks below t have k rows
unfoldable pub count_below : ℕ → ℕ → ℕ
count_below k zero = 0
count_below k (suc t) = digit (eqb (mask_count t) k) + count_below k t

-- the position of s among the masks with equally many rows, smallest mask first, counted from 0
unfoldable pub position_of : ℕ → ℕ
position_of s = count_below (mask_count s) s

-- the consecutive rows a .. b, none if b < a
unfoldable pub mask_run : ℕ → ℕ → ℕ
mask_run a b = 2 ^ b - 2 ^ (a - 1)

-- the rows 1 .. n of s, a set that counts among the chosen rows p: row i is in it if p has row i and s has the row that i is among those of p
unfoldable pub among_to : ℕ → ℕ → ℕ → ℕ
among_to zero p s = 0
among_to (suc n) p s = digit (mask_has (suc n) p && mask_has (suc (count_to n p)) s) * 2 ^ n + among_to n p s

-- s as a set of all eight rows
unfoldable pub mask_among : ℕ → ℕ → ℕ
mask_among p s = among_to 8 p s

-- the rows 1 .. k joined to s, whose own rows then count from k + 1
unfoldable pub mask_with_first : ℕ → ℕ → ℕ
mask_with_first k s = s * 2 ^ k + mask_run 1 k

-- the mask of a list of Bools
unfoldable pub mask_of : RowSet → ℕ
mask_of [] = 0
mask_of (x ∷ S) = digit x * 2 ^ length S + mask_of S
