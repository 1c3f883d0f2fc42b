-- The worked examples hold (rule-examples, zero-examples, steps-examples), and so do the tables of bounds (bound-examples), by computing; the bounds are the
-- paper's formulas (product-bound, source-bound).
use mathlib.Core.Path.{◌≡◌, refl}
use Prim.Native.Nat.{ℕ, ◌+◌, ◌-◌, ◌*◌}
use native.Mathlib.Omega.{arith}
use lib.Ieee.{size}
use Rattle.number.specs.Examples.{AllHold}
use Rattle.number.specs.Number.{round_by, renormalised, sum_by, product_by, quotient_by, in_range}
use Rattle.number.specs.Signed.{signed_round, signed_sum, with_sign, signed_product}
use Rattle.words.specs.RowSet.{has, put, count, all_before, equal, rows, of_mask, among}
use Rattle.words.specs.Latest.{some, latest}
use Rattle.words.specs.Word.{ascending, descending, word, inverse_word, converse_word, transposed_word, total}
use Rattle.words.specs.Walk.{one_at, moved, scaled, act, walk, minor, carry_letter, carry}
use Rattle.words.specs.Formula.{latest_before, on_diagonal, below_diagonal, banded_below, factors_by}
use Rattle.words.specs.Operation.{joined_word, bound_of, row_by_row, result}
use Rattle.words.specs.Effort.{sets_with, updated, sum_over, factor_steps, steps_made, choose, quotient_steps}
use Rattle.words.specs.Examples.{rule_table, two_zeros_table, bound_table, steps_table}

pub rule-examples : AllHold rule_table
unfolding rule_table has put count all_before equal rows of_mask among ascending descending word inverse_word converse_word transposed_word joined_word
    one_at moved scaled act walk minor carry_letter carry some latest latest_before on_diagonal below_diagonal banded_below factors_by result row_by_row
    round_by renormalised sum_by product_by quotient_by signed_round signed_sum with_sign signed_product in_range size lib.Ieee.span lib.Ieee.climb mathlib.Core.Bool.xor
rule-examples = (refl, (refl, (refl, (refl, (refl, (refl, (refl, (refl, (refl, (refl, (refl, (refl, (refl, (refl, tt))))))))))))))

pub zero-examples : AllHold two_zeros_table
unfolding two_zeros_table has put count all_before equal rows of_mask ascending descending word one_at moved scaled act walk minor some latest latest_before
    on_diagonal below_diagonal banded_below factors_by row_by_row round_by renormalised sum_by product_by quotient_by size lib.Ieee.span lib.Ieee.climb
zero-examples = (refl, (refl, (refl, tt)))

pub bound-examples : AllHold bound_table
unfolding bound_table ascending
bound-examples = (refl, (refl, (refl, (refl, (refl, (refl, tt))))))

pub steps-examples : AllHold steps_table
unfolding steps_table sets_with updated total sum_over factor_steps steps_made choose quotient_steps has put count all_before equal rows of_mask among ascending
    descending word inverse_word joined_word one_at moved scaled act walk minor some latest latest_before on_diagonal below_diagonal factors_by round_by
    renormalised sum_by product_by quotient_by size lib.Ieee.span lib.Ieee.climb
steps-examples = (refl, (refl, (refl, (refl, (refl, (refl, (refl, (refl, tt))))))))

-- as the paper writes them, for any number of rows
pub product-bound : (n : ℕ) → bound_of 2 n ≡ 16 * n * n - 8 * n + 3
product-bound n = omega arith

pub source-bound : (n : ℕ) → bound_of 1 n ≡ 8 * n * n - 4 * n + 3
source-bound n = omega arith
