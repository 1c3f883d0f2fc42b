-- The worked examples of lists hold, by computing.
use mathlib.Core.Path.{refl}
use mathlib.Core.Bool.{xor}
use lib.Ieee.{size}
use Rattle.verdict.specs.Verdict.{first_behind}
use Rattle.number.specs.Examples.{AllHold}
use Rattle.number.specs.Number.{round_by, renormalised, sum_by, product_by, in_range}
use Rattle.number.specs.Signed.{signed_round, signed_sum, signed_product, with_sign}
use Rattle.words.specs.Word.{ascending, descending, word}
use Rattle.words.specs.Walk.{carry, carry_letter}
use Rattle.items.specs.Items.{storable, signed_item, list_of, list_numbers}
use Rattle.reversals.specs.Reversals.{opposite, reversals_behind}
use Rattle.lists.specs.Lists.{carried_vector, any_outside, items_after_carry, reversals_call}
use Rattle.lists.specs.Examples.{list_table}

pub examples : AllHold list_table
unfolding list_table storable signed_item list_of list_numbers opposite reversals_behind carried_vector any_outside items_after_carry reversals_call
    first_behind
    ascending descending word carry carry_letter signed_round signed_sum signed_product with_sign
    round_by renormalised sum_by product_by in_range xor size lib.Ieee.span lib.Ieee.climb
examples = (refl, (refl, (refl, (refl, (refl, (refl, (refl, (refl, (refl, (refl, (refl, (refl, (refl, (refl, (refl, tt)))))))))))))))
