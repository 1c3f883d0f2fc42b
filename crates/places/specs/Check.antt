-- The test of a shelf that nothing vouches for (`is_good`): it holds of the good shelves and of no others.
use Rattle.std.specs.Prelude.{ℕ, suc, ◌-◌, ◌/◌, ◌%◌, ◌^◌, Bool, not, cond, ◌&&◌, ◌||◌, eqb, leb, ltb, get_or}
use Rattle.arrays.specs.Below.{all_below}
use Rattle.number.specs.declared.Number.{Number}
use Rattle.number.specs.Number.{bias, in_range}
use Rattle.table.specs.Table.{absent}
use Rattle.places.specs.declared.Shelf.{Shelf}
use Rattle.places.specs.Shelf.{rows_at}

unfoldable pub is_stored : Number → Bool
is_stored a = leb (2 ^ 31) a.m && (ltb a.m (2 ^ 32) && in_range a)

unfoldable pub is_zero : Number → Bool
is_zero a = eqb a.m 0 && eqb a.x bias

-- how far before k in a table the factor before it in its line stands: below the diagonal, where lines are columns, a row; above it, where they are rows, one
unfoldable pub back : ℕ → ℕ
back k = cond (ltb (k % 8) (k / 8)) 8 (cond (ltb (k / 8) (k % 8)) 1 0)

-- what may stand behind a number in a line: zero, and a stored number where that is not zero
unfoldable pub continues : (before a : Number) → Bool
continues before a = is_zero a || (not (is_zero before) && is_stored a)

-- what may stand at k in the table of a matrix of n rows, behind a number in its line
unfoldable pub sound : ℕ → ℕ → (before a : Number) → Bool
sound n k before a =
    cond (leb (suc (k / 8)) n && leb (suc (k % 8)) n) (cond (eqb (k / 8) (k % 8)) (is_stored a) (continues before a)) (is_zero a)

-- at most eight rows at each place
unfoldable pub few_rows : Shelf → Bool
few_rows s = all_below 8 (λ p. leb (rows_at s p) 8)

abbrev pub sound_at : Shelf → ℕ → Bool
sound_at s k = sound (rows_at s (k / 64)) (k % 64) (get_or s.numbers (k - back (k % 64)) absent) (get_or s.numbers k absent)

unfoldable pub sound_numbers : Shelf → Bool
sound_numbers s = all_below 512 (sound_at s)

unfoldable pub is_good : Shelf → Bool
is_good s = few_rows s && sound_numbers s
