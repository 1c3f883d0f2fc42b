-- Row sets (document 01, "The rounded rule"). A set of n rows is a list of n Bools, the highest row first: the first Bool of x ∷ S is for row suc (length S).
use Rattle.std.specs.Prelude.{Bool, true, false, cond, ◌&&◌, List, [], ◌∷◌, ◌++◌, ℕ, zero, suc, ◌-◌, ◌/◌, ◌%◌, ◌^◌, ◌≤◌, eqb, leb, ltb, length, get_or}

-- i is one of the rows 1 .. n
abbrev pub In : ℕ → ℕ → Type 0
In n i = (1 ≤ i) × (i ≤ n)

abbrev pub RowSet : Type 0
RowSet = List Bool

-- row i is in S
unfoldable pub has : ℕ → RowSet → Bool
has i [] = false
has i (x ∷ S) = cond (eqb i (suc (length S))) x (has i S)

-- S with row i in it (true) or not in it (false)
unfoldable pub put : ℕ → Bool → RowSet → RowSet
put i x [] = []
put i x (y ∷ S) = cond (eqb i (suc (length S))) (x ∷ S) (y ∷ put i x S)

-- S with row o in place of row a
abbrev pub replaced : ℕ → ℕ → RowSet → RowSet
replaced a o S = put o true (put a false S)

-- how many rows
unfoldable pub count : RowSet → ℕ
count [] = zero
count (true ∷ S) = suc (count S)
count (false ∷ S) = count S

-- all rows of S are before row i
unfoldable pub all_before : ℕ → RowSet → Bool
all_before i [] = true
all_before i (true ∷ S) = ltb (suc (length S)) i && all_before i S
all_before i (false ∷ S) = all_before i S

-- S and T are one set
unfoldable pub equal : RowSet → RowSet → Bool
equal [] [] = true
equal [] (y ∷ T) = false
equal (x ∷ S) [] = false
equal (true ∷ S) (true ∷ T) = equal S T
equal (true ∷ S) (false ∷ T) = false
equal (false ∷ S) (true ∷ T) = false
equal (false ∷ S) (false ∷ T) = equal S T

-- the consecutive rows a .. b of n rows, none if b < a
unfoldable pub rows : ℕ → ℕ → ℕ → RowSet
rows zero a b = []
rows (suc n) a b = (leb a (suc n) && leb (suc n) b) ∷ rows n a b

-- the rows of n rows that a mask gives, bit 0 for row 1
unfoldable pub of_mask : ℕ → ℕ → RowSet
of_mask zero s = []
of_mask (suc n) s = eqb (s / 2 ^ n % 2) 1 ∷ of_mask n s

-- the rows of a set in ascending order
unfoldable pub members : RowSet → List ℕ
members [] = []
members (true ∷ S) = members S ++ (suc (length S) ∷ [])
members (false ∷ S) = members S

-- the i-th of the chosen rows P, in ascending order
abbrev pub chosen : RowSet → ℕ → ℕ
chosen P i = get_or (members P) (i - 1) 0

-- S, a set that counts among the chosen rows P, as a set of all rows
unfoldable pub among : RowSet → RowSet → RowSet
among [] S = []
among (false ∷ P) S = false ∷ among P S
among (true ∷ P) [] = []
among (true ∷ P) (x ∷ S) = x ∷ among P S

-- the rows 1 .. k joined to S, whose own rows then count from k + 1
abbrev pub with_first : ℕ → RowSet → RowSet
with_first k S = S ++ rows k 1 k
