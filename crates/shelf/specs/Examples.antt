-- Document 01's marked examples, P1 to P12, as rows of one table (`marked_table`): P1 to P4 of the arithmetic beneath the calls, the others as calls on a
-- shelf, with what is returned and what is then held. Worked examples of places with zeros (`banded_table`), of recipes (`recipe_table`),
-- and of clamped rows (`schur_table`).
use Rattle.std.specs.Prelude.{ℕ, ◌+◌, ◌-◌, ◌^◌, true, cond, ◌&&◌, List, [], ◌∷◌, ◌++◌, ltb, eqb, pos, negsuc, length}
use Rattle.number.specs.declared.Number.{Number}
use Rattle.number.specs.Number.{zero_number, one_number, sum_of, product_of}
use Rattle.number.specs.Examples.{Row, row, up, down}
use Rattle.words.specs.Word.{Factors}
use Rattle.words.specs.Operation.{row_by_row}
use Rattle.words.specs.Examples.{ones, higher, half, three_halves, two, five_halves, three, large}
use Rattle.items.specs.Examples.{plus_one_item, minus_one_item, zero_item}
use Rattle.lists.specs.Examples.{lent_seven}
use Rattle.verdict.specs.declared.Reason.TheVariants.{ExponentOutOfRange}
use Rattle.verdict.specs.Verdict.{refused_at}
use Rattle.verdict.specs.Report.{accepted, refused}
use Rattle.walk.specs.declared.Way.TheVariants.{Plain, Inverted, Conversed, Transposed}
use Rattle.recipes.specs.declared.RecipeStep.{RecipeStep}
use Rattle.recipes.specs.declared.Recipe.{Recipe}
use Rattle.recipes.specs.Recipe.{taken}
use Rattle.places.specs.declared.Shelf.{Shelf}
use Rattle.places.specs.Shelf.{factors_at, holding, empty_shelf}
use Rattle.places.specs.Outcome.{Outcome}
use Rattle.operations.specs.declared.Task.TheVariants as Task
use Rattle.operations.specs.Operations.{factor_test, submatrix_at, singular}
use Rattle.shelf.specs.Run.{load, write, product, inverse, converse, submatrix, schur, minor, byte_length, forecast, recipe, forecast_recipe, carry, run}

-- place 0 holds n rows with all factors one
abbrev ones_of : ℕ → Shelf
ones_of n = holding empty_shelf 0 n ones

-- and place 1 the source with two above the diagonal
abbrev unlike : Shelf
unlike = holding (ones_of 2) 1 2 higher

-- one row: a number at place 0, one at place 1, two at place 2
abbrev singles : Number → Shelf
singles a = holding (holding (holding empty_shelf 0 1 (λ i j. a)) 1 1 ones) 2 1 (λ i j. two)

-- the factors that place 7 holds after a call, k rows
abbrev held : ℕ → Outcome → List Number
held k x = row_by_row k (factors_at x.shelf 7)

unfoldable pub marked_table : List Row
marked_table =
    row (sum_of (down (2 ^ 31) 31) (down (2 ^ 31) 63)) (down (2 ^ 31) 31)  -- P1: 1 + 2 ^ -32 is 1
    ∷ row (sum_of (down (2 ^ 31 + 1) 31) (down (2 ^ 31) 63)) (down 2147483650 31)  -- P2: (2 ^ 31 + 1) × 2 ^ -31 plus 2 ^ -32
    ∷ row (sum_of (up (2 ^ 32 - 1) 0) (down (2 ^ 31) 32)) (up (2 ^ 31) 1)  -- P3: (2 ^ 32 - 1) + 1 / 2
    ∷ row (product_of (up (2 ^ 32 - 1) 0) (up (2 ^ 32 - 1) 0)) (up 4294967294 32)  -- P4: (2 ^ 32 - 1) squared
    ∷ row (run (ones_of 2) (product 0 0 7)).report (accepted (pos 51 ∷ pos 24 ∷ []))  -- P5: all ones, times itself
    ∷ row (run (ones_of 2) (forecast (Task.Product 0 0))).report (accepted (pos 24 ∷ []))  -- its steps foretold (document 02, (k))
    ∷ row (run (ones_of 2) (byte_length 0)).report (accepted (pos 13 ∷ []))  -- and the bytes of a place
    ∷ row (held 2 (run (ones_of 2) (product 0 0 7))) (two ∷ three_halves ∷ three_halves ∷ half ∷ [])
    ∷ row (held 2 (run unlike (product 0 1 7))) (two ∷ five_halves ∷ three_halves ∷ half ∷ [])  -- beside it: the left word, then the right word
    ∷ row (held 2 (run (ones_of 2) (inverse 0 7))) (two ∷ half ∷ half ∷ half ∷ [])  -- P6
    ∷ row (held 2 (run (ones_of 2) (converse 0 7))) (two ∷ half ∷ half ∷ half ∷ [])  -- P7
    ∷ row (run (ones_of 3) (submatrix 0 6 3 7)).report (accepted (pos 63 ∷ pos 42 ∷ []))  -- P8: rows 2, 3, columns 1, 2; the bound goes by the source's rows
    ∷ row (held 2 (run (ones_of 3) (submatrix 0 6 3 7))) (one_number ∷ two ∷ one_number ∷ one_number ∷ [])
    ∷ row (run (ones_of 3) (minor 0 5 5)).report (accepted (pos 2684354560 ∷ negsuc 28 ∷ []))  -- P9: rows and columns 1 and 3: 5
    ∷ row (held 1 (run (singles three) (inverse 0 7))) (down 2863311531 33 ∷ [])  -- P10: the inverse of 3
    ∷ row (run (singles large) (product 0 1 7)).report (accepted (pos 11 ∷ pos 0 ∷ []))  -- P11: times one
    ∷ row (run (singles large) (product 0 2 7)).report (refused 14 0)  -- times two
    ∷ row (run (singles large) (inverse 0 7)).report (refused 14 0)  -- its inverse
    ∷ row (run (ones_of 2) (carry 0 (plus_one_item ++ minus_one_item) lent_seven)).report (accepted [])  -- P12: the list 1, -1
    ∷ row (run (ones_of 2) (carry 0 (plus_one_item ++ minus_one_item) lent_seven)).items (zero_item ++ (minus_one_item ++ (pos 7 ∷ [])))
    ∷ []

-- PLACES WITH ZEROS (document 02, (e)). One on the diagonal and beside it, zero further off: the matrix 1 1 0, 1 2 1, 0 1 2
abbrev beside : Factors Number
beside i j = cond (ltb 1 (i - j + (j - i))) zero_number one_number

-- three rows of these at place 0
abbrev banded : Shelf
banded = holding empty_shelf 0 3 beside

-- three rows at place 0, whose matrix is a 0 0, a² 1 0, 0 0 1 with a = 2 ^ 1031
abbrev steep : Shelf
steep = holding empty_shelf 0 3 (λ i j. cond (eqb j 1 && ltb i 3) large (cond (eqb i j) one_number zero_number))

-- the bytes of one, and of these factors
abbrev one : List ℕ
one = 202 ∷ 7 ∷ 0 ∷ []

abbrev banded_bytes : List ℕ
banded_bytes = 3 ∷ (one ++ one ++ (0 ∷ []) ++ one ++ one ++ one ++ (0 ∷ []) ++ one ++ one)

unfoldable pub banded_table : List Row
banded_table =
    row (run empty_shelf (load 0 banded_bytes)).shelf banded  -- a zero is the single code 0
    ∷ row (run banded (write 0 banded_bytes)).bytes banded_bytes
    ∷ row (run empty_shelf (load 0 (3 ∷ (one ++ (0 ∷ one))))).report (refused 16 5)  -- behind a zero in its row, at its exponent code
    ∷ row (run empty_shelf (load 0 (3 ∷ 0 ∷ []))).report (refused 6 1)  -- a zero on the diagonal
    ∷ row (run banded (minor 0 1 4)).report (accepted (pos 0 ∷ pos 0 ∷ []))  -- a minor may be zero: row 1, column 3
    ∷ row (run banded (submatrix 0 1 4 7)).report (refused 17 0)  -- and then the submatrix is singular
    ∷ row (run banded (forecast (Task.Submatrix 0 1 4))).report (accepted (pos 6 ∷ []))  -- which a forecast does not ask
    ∷ row (run banded (inverse 0 7)).report (accepted (pos 63 ∷ pos 120 ∷ []))  -- zeros count like other factors
    ∷ row (run banded (submatrix 0 9 12 7)).report (refused 8 0)  -- 8 before 17: the same row and column with a fourth of each, which three rows do not have,
    ∷ row (singular 3 (submatrix_at banded 0 9 12)) true  -- and of which 17 would hold too
    ∷ row (run steep (submatrix 0 6 3 7)).report (refused 17 0)  -- 17 before 14: rows 2 and 3, columns 1 and 2, which are 2 ^ 2062 1, 0 0,
    ∷ row (factor_test 3 (submatrix_at steep 0 6 3)) (refused_at ExponentOutOfRange 0)  -- and of which 14 would hold too
    ∷ row (run steep (submatrix 0 2 1 7)).report (refused 14 0)  -- as it does of their first number alone
    ∷ row (held 2 (run banded (submatrix 0 3 6 7))) (one_number ∷ zero_number ∷ two ∷ one_number ∷ [])  -- 1 0, 2 1: a zero stays one
    ∷ row (held 3 (run banded (inverse 0 7)))
    (three ∷ down 2863311531 32 ∷ half ∷ down 2863311531 32 ∷ down 2863311531 32 ∷ zero_number ∷ half ∷ zero_number ∷ half ∷ [])
    ∷ row (run banded (carry 0 (plus_one_item ++ zero_item ++ minus_one_item) (zero_item ++ zero_item ++ zero_item))).items
    (plus_one_item ++ zero_item ++ (negsuc 0 ∷ pos (2 ^ 31) ∷ negsuc 29 ∷ []))  -- 1, 0, -1 is carried to 1, 0, -2
    ∷ []

-- RECIPES (document 02, (f))
abbrev steps : List RecipeStep → Recipe
steps L = record { steps = L; count = length L }

abbrev three_steps : Recipe
three_steps = steps (taken Plain 0 ∷ taken Transposed 1 ∷ taken Inverted 0 ∷ [])

unfoldable pub recipe_table : List Row
recipe_table =
    row (run unlike (recipe (steps (taken Plain 0 ∷ taken Plain 1 ∷ [])) 7)) (run unlike (product 0 1 7))  -- two plain steps: the product call
    ∷ row (held 2 (run unlike (recipe (steps (taken Plain 0 ∷ taken Transposed 1 ∷ [])) 7)))
    (three ∷ down 2863311531 31 ∷ down 3579139413 31 ∷ down 2863311531 33 ∷ [])  -- times the transpose: 3 4, 5 7, so 3, 4/3, 5/3, 1/3
    ∷ row (held 2 (run unlike (recipe (steps (taken Inverted 1 ∷ taken Conversed 0 ∷ [])) 7)))
    (down (2 ^ 31) 28 ∷ down 2684354560 32 ∷ down 3221225472 33 ∷ down (2 ^ 31) 34 ∷ [])  -- 3 2, 1 1 times 2 1, 1 1: 8 5, 3 2, so 8, 5/8, 3/8, 1/8
    ∷ row (run unlike (recipe three_steps 7)).report (accepted (pos 75 ∷ pos 36 ∷ []))  -- 4 × 3 × 6 + 3
    ∷ row (run unlike (forecast_recipe three_steps)).report (accepted (pos 36 ∷ []))
    ∷ row (run unlike (recipe (steps (taken Plain 0 ∷ [])) 9)).report (refused 18 0)  -- 18 before 1
    ∷ row (run unlike (forecast_recipe (steps (taken Plain 9 ∷ [])))).report (refused 18 0)
    ∷ []

-- three rows of ones multiply out to 1 2 1, 2 5 3, 1 3 3; behind row and column 1 there remains 5 3, 3 3 minus 4 2, 2 1, which is 1 1, 1 2
unfoldable pub schur_table : List Row
schur_table =
    row (run (ones_of 3) (schur 0 1 7)).report (accepted (pos 63 ∷ pos 66 ∷ []))  -- the bound goes by the source's rows; M(1) is walked like any other minor
    ∷ row (held 2 (run (ones_of 3) (schur 0 1 7))) (one_number ∷ two ∷ two ∷ one_number ∷ [])
    ∷ row (run (ones_of 3) (forecast (Task.Schur 0 1))).report (accepted (pos 66 ∷ []))
    ∷ row (run (ones_of 3) (schur 0 3 7)).report (refused 8 0)
    ∷ row (run (ones_of 3) (forecast (Task.Schur 0 0))).report (refused 8 0)
    ∷ []
