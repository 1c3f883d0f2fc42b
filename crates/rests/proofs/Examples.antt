-- The worked examples of rests hold, by computing.
use mathlib.Core.Path.{refl}
use lib.Count.{count_trailing_zeros}
use lib.Ieee.{size}
use Rattle.number.specs.Examples.{AllHold}
use Rattle.number.specs.Number.{round_by, renormalised, sum_by, product_by, quotient_by}
use Rattle.rests.specs.Examples.{rest_table}
use Rattle.rests.specs.Rest.{odd_part, rest_of, sum_rest, product_rest, quotient_rest}

pub examples : AllHold rest_table
unfolding rest_table odd_part rest_of sum_rest product_rest quotient_rest count_trailing_zeros
    round_by renormalised sum_by product_by quotient_by size lib.Ieee.span lib.Ieee.climb
examples = (refl, (refl, (refl, (refl, (refl, (refl, (refl, (refl, (refl, (refl, tt))))))))))
