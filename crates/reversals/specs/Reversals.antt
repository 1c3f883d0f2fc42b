-- Reversals of a list (document 02, request (b)): pairs of nonzero items of opposite sign with only zeros between. The count in one pass (`reversals`) is what
-- the calls answer; the paper's sentence by pairs of positions (`is_reversal`, `reversal_pairs`) stands beside it, and the two are equal (`reversals-pairs`).
use Rattle.std.specs.Prelude.{Bool, true, not, cond, ◌&&◌, List, [], ◌∷◌, ℕ, zero, suc, ◌+◌, length, get_or, take, drop}
use Rattle.std.specs.Bool.{xor}
use Rattle.number.specs.Signed.{zero_signed}
use Rattle.number.specs.declared.signed.Signed.{Signed}
use Rattle.items.specs.Items.{is_zero_item}

-- neither is zero, and one is positive and one negative
unfoldable pub opposite : Signed → Signed → Bool
opposite a b = not (is_zero_item a) && (not (is_zero_item b) && xor a.negative b.negative)

-- 1 for a reversal, 0 for none
abbrev pub turn : Signed → Signed → ℕ
turn a b = cond (opposite a b) 1 0

-- ---- in one pass
-- the later of two items, unless it is zero: a standstill is passed over
abbrev pub latest : Signed → Signed → Signed
latest a b = cond (is_zero_item b) a b

-- the reversals of a list behind an item: each item is set against the last before it that is not zero
unfoldable pub reversals_behind : Signed → List Signed → ℕ
reversals_behind a [] = 0
reversals_behind a (b ∷ L) = turn a b + reversals_behind (latest a b) L

-- THE REVERSALS of a list; zero, which stands before the first item, is opposite to none
abbrev pub reversals : List Signed → ℕ
reversals L = reversals_behind zero_signed L

-- ---- by pairs, items counted from 0
-- those behind item i and before item k
abbrev pub between : List Signed → ℕ → ℕ → List Signed
between L i k = drop (suc i) (take k L)

unfoldable pub all_zero : List Signed → Bool
all_zero [] = true
all_zero (a ∷ L) = is_zero_item a && all_zero L

-- A REVERSAL: items i and k are nonzero and of opposite sign, with only zeros between
abbrev pub is_reversal : List Signed → ℕ → ℕ → Bool
is_reversal L i k = opposite (get_or L i zero_signed) (get_or L k zero_signed) && all_zero (between L i k)

-- how many i below k have a property, and how many pairs i < k below n
unfoldable pub how_many_below : ℕ → (ℕ → Bool) → ℕ
how_many_below zero f = 0
how_many_below (suc k) f = how_many_below k f + cond (f k) 1 0

unfoldable pub pairs_below : ℕ → (ℕ → ℕ → Bool) → ℕ
pairs_below zero f = 0
pairs_below (suc k) f = pairs_below k f + how_many_below k (λ i. f i k)

-- how many pairs of items are reversals
abbrev pub reversal_pairs : List Signed → ℕ
reversal_pairs L = pairs_below (length L) (is_reversal L)
