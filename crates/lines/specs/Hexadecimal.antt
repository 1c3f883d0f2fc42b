-- Bytes in hexadecimal, two digits in lower case for each, `-` for none: what a word spells (`spelled_bytes`, where it is `hexadecimal`).
use Rattle.std.specs.Prelude.{ℕ, ◌+◌, ◌-◌, ◌*◌, ◌/◌, ◌%◌, Bool, true, false, not, cond, ◌&&◌, ◌||◌, List, [], ◌∷◌, ltb, eqb, length, Option, Some, None}
use Rattle.std.proofs.lemmas.List.Edits.{sets}
use Rattle.lines.specs.Decimal.{is_numeral}

-- `a` to `f`
abbrev pub is_letter : ℕ → Bool
is_letter b = not (ltb b 97) && ltb b 103

-- the value of a digit, 0 for any other byte
abbrev pub nibble_of : ℕ → ℕ
nibble_of b = cond (is_numeral b) (b - 48) (cond (is_letter b) (b - 87) 0)

abbrev pub byte_of : ℕ → ℕ → ℕ
byte_of high low = nibble_of high * 16 + nibble_of low

unfoldable pub all_digits : List ℕ → Bool
all_digits [] = true
all_digits (b ∷ s) = (is_numeral b || is_letter b) && all_digits s

-- the byte of each pair
unfoldable pub spelled_bytes : List ℕ → List ℕ
spelled_bytes [] = []
spelled_bytes (a ∷ []) = []
spelled_bytes (a ∷ b ∷ s) = byte_of a b ∷ spelled_bytes s

-- pairs of digits, at least one, or `-` alone
abbrev pub hexadecimal : List ℕ → Bool
hexadecimal [] = false
hexadecimal (b ∷ []) = eqb b 45
hexadecimal (a ∷ b ∷ s) = not (eqb (length s % 2) 1) && all_digits (a ∷ b ∷ s)

-- whether s is of that form, and its bytes go into out
abbrev pub taken : List ℕ → List ℕ → Bool
taken s out = hexadecimal s && not (ltb (length out) (length s / 2))

-- how many bytes were read, where s is taken
abbrev pub bytes_read : List ℕ → List ℕ → Option ℕ
bytes_read s out = cond (taken s out) (Some (length s / 2)) None

abbrev pub bytes_into : List ℕ → List ℕ → List ℕ
bytes_into s out = cond (taken s out) (sets out 0 (spelled_bytes s)) out
