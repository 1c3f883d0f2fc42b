-- THE REASONS (document 02, request (n)): a text without digits for each number of a refusal, different for each, as docs/REFUSALS.md lists them.
use Rattle.std.specs.Prelude.{ℕ, ◌-◌, ◌≤◌, ◌<◌, ◌≡◌, Bool, true, not, ◌&&◌, List, [], ◌∷◌, eqb, length, get_or}
use Rattle.lines.specs.Ascii.{ascii}
use Rattle.lines.specs.Decimal.{is_numeral}

-- of 1 to 22, also where no call refuses with that number yet
unfoldable pub reasons : List (List ℕ)
reasons =
    ascii "no such place"
    ∷ ascii "bytes end early"
    ∷ ascii "malformed group number"
    ∷ ascii "size out of range"
    ∷ ascii "factor out of range"
    ∷ ascii "factor must not be zero"
    ∷ ascii "bytes behind the matrix"
    ∷ ascii "wrong choice of rows or columns"
    ∷ ascii "wrong list, item or number"
    ∷ ascii "lent output too short"
    ∷ ascii "source place empty"
    ∷ ascii "target place holds a matrix"
    ∷ ascii "sizes differ"
    ∷ ascii "result exponent out of range"
    ∷ ascii "wrong time stamps"
    ∷ ascii "zero breaks the pattern"
    ∷ ascii "chosen submatrix singular"
    ∷ ascii "wrong count of steps"
    ∷ ascii "low value zero or above its high value"
    ∷ ascii "count too large"
    ∷ ascii "nothing pending"
    ∷ ascii "tolerance too large"
    ∷ []

-- the reason of a number from 1 to 22
unfoldable pub reason_of : ℕ → List ℕ
reason_of k = get_or reasons (k - 1) []

-- a number that has a reason
abbrev pub HasReason : ℕ → Type 0
HasReason k = (1 ≤ k) × (k ≤ 22)

-- no byte is a digit, 0 to 9
unfoldable pub digit_free : List ℕ → Bool
digit_free [] = true
digit_free (b ∷ s) = not (is_numeral b) && digit_free s

-- behind a byte b no two spaces stand together, and none at the end
unfoldable pub single_spaced : ℕ → List ℕ → Bool
single_spaced b [] = not (eqb b 32)
single_spaced b (c ∷ s) = not (eqb b 32 && eqb c 32) && single_spaced c s

-- WHAT IS ASKED OF THE REASONS: none is empty, no digit, single spaces behind the one in front of a reason, all different; and none has more than 38 bytes
pub record ReasonsAsked : Type 0 where
  pub some : (k : ℕ) → HasReason k → 0 < length (reason_of k)
  pub plain : (k : ℕ) → HasReason k → digit_free (reason_of k) ≡ true
  pub spacing : (k : ℕ) → HasReason k → single_spaced 32 (reason_of k) ≡ true
  pub short : (k : ℕ) → HasReason k → length (reason_of k) ≤ 38
  pub different : (j k : ℕ) → HasReason j → HasReason k → reason_of j ≡ reason_of k → j ≡ k
