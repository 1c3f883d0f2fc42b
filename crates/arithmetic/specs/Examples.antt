-- Worked examples of the arithmetic call, as rows of one table (`arithmetic_rows`).
use Rattle.std.specs.Prelude.{List, [], ◌∷◌, ◌++◌, ◌-◌, ◌*◌, ◌^◌, ℤ, pos, negsuc}
use Rattle.verdict.specs.Report.{accepted, refused}
use Rattle.number.specs.Examples.{Row, row}
use Rattle.items.specs.Examples.{plus_one_item, minus_one_item, zero_item}
use Rattle.rests.specs.declared.Operator.TheVariants.{Add, Multiply, Divide}
use Rattle.arithmetic.specs.Arithmetic.{arithmetic_call}

-- 3, and the largest number of the stored exponents, as they are lent
abbrev three : List ℤ
three = pos 1 ∷ pos (3 * 2 ^ 30) ∷ negsuc 29 ∷ []

abbrev largest : List ℤ
largest = pos 1 ∷ pos (2 ^ 32 - 1) ∷ pos 1000 ∷ []

unfoldable pub arithmetic_rows : List Row
arithmetic_rows =
    row (arithmetic_call Add (plus_one_item ++ plus_one_item)) (accepted (pos (2 ^ 31) ∷ negsuc 29 ∷ pos 0 ∷ pos 0 ∷ []))  -- 1 + 1, and no rest
    ∷ row (arithmetic_call Divide (plus_one_item ++ three)) (accepted (pos 2863311531 ∷ negsuc 32 ∷ negsuc 0 ∷ negsuc 32 ∷ []))  -- one third was rounded up
    ∷ row (arithmetic_call Multiply (largest ++ largest)) (accepted (pos 4294967294 ∷ pos 2032 ∷ pos 1 ∷ pos 2000 ∷ []))  -- a working number, past exponent 1000
    ∷ row (arithmetic_call Add (plus_one_item ++ zero_item)) (refused 9 0)
    ∷ row (arithmetic_call Multiply (minus_one_item ++ plus_one_item)) (refused 9 0)
    ∷ row (arithmetic_call Divide plus_one_item) (refused 9 0)
    ∷ row (arithmetic_call Add (plus_one_item ++ (plus_one_item ++ plus_one_item))) (refused 9 0)
    ∷ row (arithmetic_call Add (plus_one_item ++ (pos 1 ∷ pos (2 ^ 31) ∷ pos 1001 ∷ []))) (refused 9 0)
    ∷ []
