-- Worked examples of lists, as rows of one table: document 01's P12, a place with zero weights, and the conditions around them.
use Rattle.std.specs.Prelude.{cond, ◌||◌, List, [], ◌∷◌, ◌++◌, ℕ, ◌+◌, ◌^◌, ltb, ℤ, pos, negsuc}
use Rattle.verdict.specs.Verdict.{first_of}
use Rattle.verdict.specs.Report.{Report, accepted, refused, verdict_report}
use Rattle.number.specs.Examples.{Row, row, up}
use Rattle.number.specs.declared.Number.{Number}
use Rattle.number.specs.Number.{zero_number, one_number}
use Rattle.words.specs.Examples.{ones}
use Rattle.words.specs.Word.{Factors}
use Rattle.items.specs.Examples.{plus_one_item, minus_one_item, zero_item}
use Rattle.lists.specs.Lists.{carry_tests, items_after_carry, reversals_call}

-- one on the diagonal and beside it, else zero: a weight that adds nothing
abbrev pub narrow : Factors Number
narrow i j = cond (ltb (i + 1) j || ltb (j + 1) i) zero_number one_number

-- a lent output of six numbers and one more
abbrev pub lent_seven : List ℤ
lent_seven = zero_item ++ zero_item ++ (pos 7 ∷ [])

-- and one of nine
abbrev pub lent_nine : List ℤ
lent_nine = zero_item ++ zero_item ++ zero_item

-- what a carry returns, and what the lent output then holds
pub record CarryRow : Type 0 where
  pub report : Report
  pub out : List ℤ

abbrev pub carry_row : ℕ → Factors Number → (items out : List ℤ) → CarryRow
carry_row n b items out = record { report = verdict_report (first_of (carry_tests n b items out)); out = items_after_carry n b items out }

-- an accepted carry, and one that is turned down
abbrev pub accepted_row : List ℤ → CarryRow
accepted_row out = record { report = accepted []; out = out }

abbrev pub refused_row : ℕ → List ℤ → CarryRow
refused_row k out = record { report = refused k 0; out = out }

unfoldable pub list_table : List Row
list_table =
    row (carry_row 2 ones (plus_one_item ++ minus_one_item) lent_seven) (accepted_row (zero_item ++ minus_one_item ++ (pos 7 ∷ [])))  -- P12: 1, -1 is carried to 0, -1
    ∷ row (carry_row 3 narrow (plus_one_item ++ zero_item ++ zero_item) lent_nine) (accepted_row (plus_one_item ++ plus_one_item ++ zero_item))  -- column 1
    ∷ row (carry_row 3 narrow (plus_one_item ++ minus_one_item ++ plus_one_item) lent_nine) (accepted_row (zero_item ++ zero_item ++ plus_one_item))  -- 1, -1, 1
    ∷ row (carry_row 2 ones (plus_one_item ++ minus_one_item) zero_item) (refused_row 10 zero_item)  -- room for one item
    ∷ row (carry_row 2 ones plus_one_item lent_seven) (refused_row 9 lent_seven)  -- one item for two rows
    ∷ row (carry_row 1 ones (negsuc 0 ∷ zero_item) lent_seven) (refused_row 9 lent_seven)  -- four numbers
    ∷ row (carry_row 1 ones (negsuc 0 ∷ pos 0 ∷ pos 0 ∷ []) lent_seven) (refused_row 9 lent_seven)  -- a negative zero
    ∷ row (carry_row 1 (λ i j. up (2 ^ 31) 1000) (pos 1 ∷ pos (2 ^ 31) ∷ pos 0 ∷ []) []) (refused_row 14 [])  -- carried to exponent 1031, with no room either
    ∷ row (reversals_call (plus_one_item ++ minus_one_item ++ plus_one_item)) (accepted (pos 2 ∷ []))
    ∷ row (reversals_call (plus_one_item ++ zero_item ++ minus_one_item)) (accepted (pos 1 ∷ []))  -- 1, 0, -1: a standstill is passed over
    ∷ row (reversals_call (plus_one_item ++ zero_item ++ plus_one_item)) (accepted (pos 0 ∷ []))
    ∷ row (reversals_call (zero_item ++ zero_item)) (accepted (pos 0 ∷ []))
    ∷ row (reversals_call (zero_item ++ plus_one_item ++ zero_item ++ zero_item ++ minus_one_item ++ zero_item ++ plus_one_item)) (accepted (pos 2 ∷ []))
    ∷ row (reversals_call (plus_one_item ++ minus_one_item ++ (pos 0 ∷ pos 0 ∷ pos 1 ∷ []))) (refused 9 0)  -- the last is no item, so nothing is counted
    ∷ row (reversals_call []) (refused 9 0)
    ∷ []
