-- Group numbers (document 01, "Bytes"): `group_of`, what stands at the start of a list of bytes; `bytes_of`, the bytes of a number.
use Rattle.std.specs.Prelude.{ℕ, zero, suc, ◌+◌, ◌-◌, ◌*◌, ◌/◌, ◌%◌, ◌^◌, ◌≤◌, ◌<◌, cond, List, [], ◌∷◌, ltb, eqb, get_or, Result, Ok, Err}
use Rattle.group.specs.declared.Group.{Group}
use Rattle.group.specs.declared.GroupFault.{GroupFault}
use Rattle.group.specs.declared.GroupFault.TheVariants.{Ended, Faulty}

-- what stands at the start of a list: a group number, or why there is none
abbrev pub Found : Type 0
Found = Result Group GroupFault

-- the number v, held by n bytes
abbrev pub number : ℕ → ℕ → Found
number v n = Ok (record { value = v; bytes = n })

-- A byte with its top bit set and the low bits a, in front of a group: where that group is 0, fewer bytes would have done.
abbrev pub continued : ℕ → Found → Found
continued a (Ok g) = cond (eqb g.value 0) (Err Faulty) (number (a + 128 * g.value) (suc g.bytes))
continued a (Err f) = Err f

-- a group of at most k bytes
unfoldable pub group_in : ℕ → List ℕ → Found
group_in zero s = Err Faulty
group_in (suc k) [] = Err Ended
group_in (suc k) (b ∷ s) = cond (ltb b 128) (number b 1) (continued (b - 128) (group_in k s))

-- a group whose value is below m
abbrev pub limited : ℕ → Found → Found
limited m (Ok g) = cond (ltb g.value m) (Ok g) (Err Faulty)
limited m (Err f) = Err f

-- The group number at the start of a list: its value and how many bytes hold it; or the bytes end early (2); or it is faulty (3).
abbrev pub group_of : List ℕ → Found
group_of s = limited (2 ^ 32) (group_in 5 s)

-- the bytes of a number below 128 ^ k
unfoldable pub bytes_in : ℕ → ℕ → List ℕ
bytes_in zero v = []
bytes_in (suc k) v = cond (ltb v 128) (v ∷ []) ((128 + v % 128) ∷ bytes_in k (v / 128))

-- the bytes of a number of 64 bits; group numbers are those below 2 ^ 32
abbrev pub bytes_of : ℕ → List ℕ
bytes_of v = bytes_in 10 v

-- every element is a byte
abbrev pub Bytes : List ℕ → Type 0
Bytes s = (i : ℕ) → get_or s i 0 < 256

-- a group number that was found among k bytes
abbrev pub Inside : ℕ → Found → Type 0
Inside k (Ok g) = (g.bytes ≤ k) × (g.value < 2 ^ 32)
Inside k (Err f) = Unit {0}
