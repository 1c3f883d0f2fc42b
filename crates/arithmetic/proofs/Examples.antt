-- The worked examples of the arithmetic call hold, by computing.
use mathlib.Core.Path.{refl}
use lib.Count.{count_trailing_zeros}
use lib.Ieee.{size}
use Rattle.verdict.specs.Verdict.{first_behind}
use Rattle.number.specs.Examples.{AllHold}
use Rattle.number.specs.Number.{round_by, renormalised, sum_by, product_by, quotient_by}
use Rattle.rests.specs.Rest.{odd_part, rest_of, sum_rest, product_rest, quotient_rest}
use Rattle.items.specs.Items.{storable, signed_item, list_of}
use Rattle.arithmetic.specs.Arithmetic.{arithmetic_call}
use Rattle.arithmetic.specs.Examples.{arithmetic_rows}

pub examples : AllHold arithmetic_rows
unfolding arithmetic_rows arithmetic_call first_behind storable signed_item list_of odd_part rest_of sum_rest product_rest quotient_rest count_trailing_zeros
    round_by renormalised sum_by product_by quotient_by size lib.Ieee.span lib.Ieee.climb
examples = (refl, (refl, (refl, (refl, (refl, (refl, (refl, (refl, tt))))))))
