-- The worked examples of numbers hold, by computing.
use mathlib.Core.Path.{refl}
use lib.Ieee.{size}
use Rattle.number.specs.Examples.{AllHold, arithmetic_table, direction_table, division_table}
use Rattle.number.specs.Number.{round_by, renormalised, sum_by, product_by, quotient_by}

pub examples : AllHold arithmetic_table
unfolding arithmetic_table round_by renormalised sum_by product_by quotient_by size lib.Ieee.span lib.Ieee.climb
examples = (refl, (refl, (refl, (refl, (refl, tt)))))

pub directions : AllHold direction_table
unfolding direction_table round_by renormalised sum_by product_by quotient_by size lib.Ieee.span lib.Ieee.climb
directions = (refl, (refl, (refl, (refl, (refl, (refl, (refl, (refl, (refl, (refl, tt))))))))))

pub divisions : AllHold division_table
unfolding division_table
divisions = (refl, (refl, (refl, (refl, (refl, tt)))))
