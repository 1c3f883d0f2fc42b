-- The worked examples of stamps hold, by computing.
use mathlib.Core.Path.{refl}
use lib.Ieee.{size}
use Rattle.number.specs.Examples.{AllHold}
use Rattle.number.specs.Number.{round_by, renormalised, product_by, quotient_by}
use Rattle.words.specs.Word.{ascending}
use Rattle.words.specs.Operation.{row_by_row}
use Rattle.powers.specs.Stamps.{product_from, stamp_factor}
use Rattle.stamps.specs.Stamps.{some_stamp, not_increasing, mistimed}
use Rattle.stamps.specs.Examples.{stamp_rows}

pub examples : AllHold stamp_rows
unfolding stamp_rows mistimed some_stamp not_increasing stamp_factor product_from row_by_row ascending round_by renormalised product_by quotient_by size lib.Ieee.span
    lib.Ieee.climb
examples = (refl, (refl, (refl, (refl, (refl, (refl, (refl, (refl, (refl, (refl, (refl, (refl, (refl, tt)))))))))))))
