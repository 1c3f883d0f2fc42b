-- THE ARITHMETIC CALL (document 02, request (c)), the only one to offer this arithmetic outside: one of the three operations on two list items. Its tests
-- (`arithmetic_tests`), and what it returns (`arithmetic_call`): the mantissa and the exponent of the result, the rest and the rest's exponent.
use Rattle.std.specs.Prelude.{Bool, not, ◌&&◌, List, [], ◌∷◌, ℤ, pos, Result}
use Rattle.verdict.specs.declared.Reason.TheVariants.{WrongList}
use Rattle.verdict.specs.declared.Refusal.{Refusal}
use Rattle.verdict.specs.Verdict.{Verdict, when, first_of}
use Rattle.verdict.specs.Report.{Report, report_of, answer_report}
use Rattle.number.specs.Number.{exponent_of}
use Rattle.number.specs.declared.signed.Signed.{Signed}
use Rattle.rests.specs.Rest.{worked_by, rest_integer, rest_exponent}
use Rattle.rests.specs.declared.Operator.{Operator}
use Rattle.rests.specs.declared.Rounded.{Rounded}
use Rattle.items.specs.Items.{is_zero_item, list_of, items_of, vector_of, proper}
use Rattle.arithmetic.specs.declared.Worked.{Worked}

-- an item is above zero
abbrev pub is_positive : Signed → Bool
is_positive a = not (is_zero_item a) && not a.negative

-- the first and the second item of a row of numbers
abbrev pub first_item : List ℤ → Signed
first_item items = vector_of (items_of items) 1

abbrev pub second_item : List ℤ → Signed
second_item items = vector_of (items_of items) 2

-- not two items of the stated form; an item that is not positive. The result is a working number: its exponent is not tested
abbrev pub arithmetic_tests : List ℤ → List Verdict
arithmetic_tests items =
    when (not (proper 2 2 (list_of items))) WrongList
    ∷ when (not (is_positive (first_item items))) WrongList
    ∷ when (not (is_positive (second_item items))) WrongList
    ∷ []

-- a result with its rest, in numbers
abbrev pub result_values : Rounded → List ℤ
result_values r = pos r.number.m ∷ exponent_of r.number ∷ rest_integer r.rest ∷ rest_exponent r.rest ∷ []

-- what the call returns
unfoldable pub arithmetic_call : Operator → List ℤ → Report
arithmetic_call o items = report_of (first_of (arithmetic_tests items)) (result_values (worked_by o (first_item items).size (second_item items).size))

-- a result with its rest, as it is answered
abbrev pub result_of : Rounded → Worked
result_of r =
    record { mantissa = r.number.m; exponent = exponent_of r.number; rest = rest_integer r.rest; rest_exponent = rest_exponent r.rest }

abbrev pub worked_values : Worked → List ℤ
worked_values w = pos w.mantissa ∷ w.exponent ∷ w.rest ∷ w.rest_exponent ∷ []

-- what its answers report
abbrev pub worked_report : Result Worked Refusal → Report
worked_report r = answer_report worked_values r
