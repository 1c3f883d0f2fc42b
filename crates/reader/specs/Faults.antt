-- 6 AND 16 IN DOCUMENT 02's WORDS (request (e)), at the offset of an exponent code that a reading comes to (`CodeAt`): a zero on the diagonal
-- (`ZeroOnDiagonal`), and a nonzero factor behind an off-diagonal zero in its column or row (`BreaksPattern`). A reading ends with 6 and with 16 exactly
-- there (`six`, `sixteen`).
use Rattle.std.specs.Prelude.{ℕ, suc, ◌*◌, ◌/◌, ◌%◌, ◌<◌, ◌≤◌, ◌≡◌, List, [], ◌∷◌, ◌++◌, length}
use Rattle.number.specs.declared.Number.{Number}
use Rattle.words.specs.Word.{Factors}
use Rattle.table.specs.Table.{square_of}
use Rattle.reader.specs.Matrix.{item, item_at, factor, factor_at}

-- the row and the column of the factor that follows those in front of it, row by row, in a matrix of n rows
abbrev pub next_row : ℕ → List Number → ℕ
next_row n front = suc (length front / n)

abbrev pub next_column : ℕ → List Number → ℕ
next_column n front = suc (length front % n)

-- of the factors of n rows that begin at an offset, those in front were read one behind the other, up to another offset
pub data FactorsTo (s : List ℕ) (n begin : ℕ) : List Number → ℕ → Type 0 where
  none : FactorsTo s n begin [] begin
  more : {front : List Number} {p : ℕ} (a : Number) (q : ℕ) → FactorsTo s n begin front p → factor_at s n front p ≡ factor a q
      → FactorsTo s n begin (front ++ (a ∷ [])) q

-- an exponent code that the reading of s comes to, at offset o: n, from 1 to 8, and the factors in front were taken, and the next factor has this code
pub record CodeAt (s : List ℕ) (n : ℕ) (front : List Number) (o code : ℕ) : Type 0 where
  pub begin : ℕ
  pub next : ℕ
  pub rows : item_at s 0 ≡ item n begin
  pub some : 0 < n
  pub few : n ≤ 8
  pub taken : FactorsTo s n begin front o
  pub left : length front < n * n
  pub stands : item_at s o ≡ item code next

-- an off-diagonal zero stands before row i and column j: in the column, below the diagonal, or in the row, above it
pub data BehindZero (b : Factors Number) (i j : ℕ) : Type 0 where
  column : (r : ℕ) → j < r → r < i → (b r j).m ≡ 0 → BehindZero b i j
  row : (c : ℕ) → i < c → c < j → (b i c).m ≡ 0 → BehindZero b i j

-- 6: the code of zero, on the diagonal
pub record ZeroOnDiagonal (s : List ℕ) (o : ℕ) : Type 0 where
  pub n : ℕ
  pub front : List Number
  pub at : CodeAt s n front o 0
  pub on : next_row n front ≡ next_column n front

-- 16: a code in range (5 is judged before) and not that of zero, behind an off-diagonal zero. The first such code ends the reading, so it is that of the first
-- nonzero factor behind that zero
pub record BreaksPattern (s : List ℕ) (o : ℕ) : Type 0 where
  pub n : ℕ
  pub front : List Number
  pub code : ℕ
  pub at : CodeAt s n front o code
  pub in-range : code ≤ 2001
  pub nonzero : code ≡ 0 → ⊥
  pub behind : BehindZero (square_of n front) (next_row n front) (next_column n front)
