-- A TABLE: the factors of a matrix of at most eight rows as the code holds them, 64 numbers in rows of eight. The factor of row i and column j stands at
-- cell_of i j (`factors_of`), and a number that is no factor is zero (`table_of`). Beside it the factors one behind the other, as bytes have them (`square_of`,
-- `packed_of`), and exponents outside the stored range (`outside`).
use Rattle.std.specs.Prelude.{ℕ, ◌+◌, ◌-◌, ◌*◌, ◌/◌, ◌%◌, Bool, false, not, cond, ◌&&◌, ◌||◌, List, [], ◌∷◌, leb, get_or, replicate}
use Rattle.std.proofs.lemmas.List.Edits.{sets}
use Rattle.number.specs.Number.{zero_number, in_range}
use Rattle.number.specs.declared.Number.{Number}
use Rattle.words.specs.Word.{Factors}
use Rattle.words.specs.Operation.{row_by_row}

abbrev pub cell_of : ℕ → ℕ → ℕ
cell_of i j = (i - 1) * 8 + (j - 1)

-- the factors in a table
unfoldable pub factors_of : List Number → Factors Number
factors_of t i j = get_or t (cell_of i j) zero_number

-- the factor of row i and column j of a matrix of n rows, zero past these
abbrev pub padded : ℕ → Factors Number → Factors Number
padded n b i j = cond (leb i n && leb j n) (b i j) zero_number

-- the number at k of the table of a matrix of n rows
abbrev pub cell_at : ℕ → Factors Number → ℕ → Number
cell_at n b k = padded n b (k / 8 + 1) (k % 8 + 1)

-- the table of a matrix of n rows
unfoldable pub table_of : ℕ → Factors Number → List Number
table_of n b = row_by_row 8 (padded n b)

-- the factors of a matrix of n rows that stand one behind the other, row by row
unfoldable pub square_of : ℕ → List Number → Factors Number
square_of n L i j = get_or L ((i - 1) * n + (j - 1)) zero_number

-- the factors of n rows of a table put one behind the other, row by row, and zeros behind them
unfoldable pub packed_of : ℕ → List Number → List Number
packed_of n t = sets (replicate 64 zero_number) 0 (row_by_row n (factors_of t))

-- one of the numbers has an exponent outside -1000 to 1000
unfoldable pub outside : List Number → Bool
outside [] = false
outside (a ∷ L) = not (in_range a) || outside L

-- what a read past the end of an array of numbers would give; none is made
abbrev pub absent : Number
absent = record { m = 0; x = 0 }
