-- Worked examples of words, walks and formulas (rule_table), of a source with zeros (two_zeros_table), of steps made and foretold (steps_table), and document
-- 01's two tables of bounds (bound_table). Its marked examples P1 to P12 are one table of calls in crate shelf; the rows here hold the definitions of this
-- crate to the same values.
use Rattle.std.specs.Prelude.{true, false, cond, ◌&&◌, List, [], ◌∷◌, ℕ, ◌-◌, ◌*◌, ◌^◌, eqb, ltb}
use Rattle.number.specs.declared.Number.{Number}
use Rattle.number.specs.Number.{zero_number, one_number, rounded, in_range}
use Rattle.number.specs.declared.signed.Signed.{Signed}
use Rattle.number.specs.Signed.{plain, zero_signed, signed_arithmetic}
use Rattle.number.specs.Examples.{Row, row, up, down}
use Rattle.words.specs.RowSet.{of_mask}
use Rattle.words.specs.Word.{Factors, word, for_up}
use Rattle.words.specs.Walk.{minor, carry}
use Rattle.words.specs.Formula.{latest_before, new_factor}
use Rattle.words.specs.Operation as words
use Rattle.words.specs.Operation.{transposed, step, Operation, joined, product, inverse, converse, submatrix, schur, size, bound_of, bound}
use Rattle.words.specs.Operation.{row_by_row, result}
use Rattle.words.specs.Effort.{steps_made, steps_foretold}

-- the source whose factors are all one
abbrev pub ones : Factors Number
ones i j = one_number

-- two above the diagonal, else one
abbrev pub higher : Factors Number
higher i j = cond (ltb i j) (down (2 ^ 31) 30) one_number

-- rows 2 and 3, columns 1 and 2, of three
abbrev pub corner_of : Factors Number → Operation Number
corner_of b = submatrix b (of_mask 3 6) (of_mask 3 3)

-- five in row 1, and in the others a number that a product with five and a quotient by five do not give back
abbrev pub unlike : Factors Number
unlike i j = cond (eqb i 1) (down (5 * 2 ^ 29) 29) (down (2 ^ 32 - 1) 31)

-- the operation's factors, row by row
abbrev factors_of : ℕ → Operation Number → List Number
factors_of n o = row_by_row (size n o) (result rounded n o)

-- four rows of ones but for two zeros, at (3, 2) and (4, 2)
abbrev pub two_zeros : Factors Number
two_zeros i j = cond (eqb j 2 && ltb 2 i) zero_number one_number

-- 1/2, 3/2, 2, 5/2, 3 and 5
abbrev pub half : Number
half = down (2 ^ 31) 32

abbrev pub three_halves : Number
three_halves = down 3221225472 31

abbrev pub two : Number
two = down (2 ^ 31) 30

abbrev pub five_halves : Number
five_halves = down (5 * 2 ^ 29) 30

abbrev pub three : Number
three = down (3 * 2 ^ 30) 30

abbrev pub five : Number
five = down (5 * 2 ^ 29) 29

-- the least mantissa at the largest exponent
abbrev pub large : Number
large = up (2 ^ 31) 1000

-- 1 and -1 as list items
abbrev pub signed_one : Signed
signed_one = plain one_number

abbrev pub minus_one : Signed
minus_one = record { negative = true; size = one_number }

unfoldable pub rule_table : List Row
rule_table =
    row (factors_of 2 (product ones ones)) (two ∷ three_halves ∷ three_halves ∷ half ∷ [])  -- all ones, times itself
    ∷ row (factors_of 2 (product ones higher)) (two ∷ five_halves ∷ three_halves ∷ half ∷ [])  -- beside it: the left word, then the right word
    ∷ row (factors_of 2 (inverse ones)) (two ∷ half ∷ half ∷ half ∷ [])
    ∷ row (factors_of 2 (converse ones)) (two ∷ half ∷ half ∷ half ∷ [])
    ∷ row (factors_of 2 (joined (step words.plain ones ∷ step transposed higher ∷ [])))
    (three ∷ down 2863311531 31 ∷ down 3579139413 31 ∷ down 2863311531 33 ∷ [])  -- times a transpose: 3 4, 5 7, so 3, 4/3, 5/3, 1/3
    ∷ row (factors_of 3 (corner_of ones)) (one_number ∷ two ∷ one_number ∷ one_number ∷ [])
    ∷ row (factors_of 3 (schur ones 1)) (one_number ∷ two ∷ two ∷ one_number ∷ [])  -- what remains after row and column 1
    ∷ row (factors_of 3 (schur unlike 1)) (down (2 ^ 32 - 2) 31 ∷ down (7 * 2 ^ 29) 29 ∷ down (2 ^ 32 - 1) 30 ∷ down (2 ^ 32 - 2) 31 ∷ [])
    -- M(1) is worked and rounded like any other: it does not cancel, and no minor is divided by it first
    ∷ row (minor rounded (word 3 ones) (of_mask 3 5) (of_mask 3 5)) five  -- rows and columns 1 and 3
    ∷ row (factors_of 1 (inverse (λ i j. three))) (down 2863311531 33 ∷ [])  -- the inverse of 3
    ∷ row (in_range (result rounded 1 (product (λ i j. large) ones) 1 1)) true  -- the largest exponent times one
    ∷ row (in_range (result rounded 1 (product (λ i j. large) (λ i j. two)) 1 1)) false  -- times two
    ∷ row (in_range (result rounded 1 (inverse (λ i j. large)) 1 1)) false  -- its inverse
    ∷ row (for_up 1 2 (λ i. carry signed_arithmetic (word 2 (λ i j. signed_one)) (λ i. cond (eqb i 1) signed_one minus_one) i ∷ []))
    (zero_signed ∷ minus_one ∷ [])  -- the list 1, -1
    ∷ []

-- with zeros: R is found for each row by itself, and the factors of a word's own minors are those of the word
unfoldable pub two_zeros_table : List Row
two_zeros_table =
    row (latest_before rounded 4 (minor rounded (word 4 two_zeros)) 4 3) (of_mask 4 5)  -- rows 1 and 3: M(2, 3 | 1, 2) is zero
    ∷ row (latest_before rounded 4 (minor rounded (word 4 two_zeros)) 3 3) (of_mask 4 3)  -- rows 1 and 2
    ∷ row (row_by_row 4 (new_factor rounded 4 (minor rounded (word 4 two_zeros)))) (row_by_row 4 two_zeros)
    ∷ []

-- the bounds returned for n = 1 to 8: of a product, and of one source
unfoldable pub bound_table : List Row
bound_table =
    row (for_up 1 8 (λ n. bound n (product ones ones) ∷ [])) (11 ∷ 51 ∷ 123 ∷ 227 ∷ 363 ∷ 531 ∷ 731 ∷ 963 ∷ [])
    ∷ row (for_up 1 8 (λ n. bound n (inverse ones) ∷ [])) (7 ∷ 27 ∷ 63 ∷ 115 ∷ 183 ∷ 267 ∷ 367 ∷ 483 ∷ [])
    ∷ row (for_up 1 6 (λ m. bound_of m 8 ∷ [])) (483 ∷ 963 ∷ 1443 ∷ 1923 ∷ 2403 ∷ 2883 ∷ [])  -- of up to six steps
    ∷ row (bound 2 (joined (step words.plain ones ∷ step transposed ones ∷ []))) 51  -- a transposed step counts like any other
    ∷ row (bound 3 (corner_of ones)) 63  -- which goes by the source's rows
    ∷ row (bound 3 (schur ones 1)) 63  -- and so does this
    ∷ []

-- steps: of the paper's product, of a submatrix, of a source with zeros and of a Schur complement as they are made; of products, of one source, of a submatrix
-- and of Schur complements as they are foretold
unfoldable pub steps_table : List Row
steps_table =
    row (steps_made rounded 2 (product ones ones)) 24
    ∷ row (steps_made rounded 3 (corner_of ones)) 42
    ∷ row (steps_made rounded 4 (inverse two_zeros)) 672  -- zeros count like other factors
    ∷ row (for_up 1 8 (λ n. steps_foretold n (product ones ones) ∷ [])) (0 ∷ 24 ∷ 240 ∷ 1344 ∷ 5760 ∷ 21120 ∷ 69888 ∷ 215040 ∷ [])
    ∷ row (for_up 1 8 (λ n. steps_foretold n (inverse ones) ∷ [])) (0 ∷ 12 ∷ 120 ∷ 672 ∷ 2880 ∷ 10560 ∷ 34944 ∷ 107520 ∷ [])
    ∷ row (steps_foretold 3 (corner_of ones)) 42
    ∷ row (steps_made rounded 3 (schur ones 1)) 66  -- where M(1) is walked like any other minor
    ∷ row (for_up 1 7 (λ k. steps_foretold 8 (schur ones k) ∷ [])) (105896 ∷ 96096 ∷ 71400 ∷ 38080 ∷ 12600 ∷ 2016 ∷ 56 ∷ [])
    ∷ []
