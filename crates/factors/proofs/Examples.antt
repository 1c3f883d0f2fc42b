-- Document 01's all-ones product of two rows: the exact run answers 2, 3/2, 3/2, 1/2 (exact-examples), and so does the rounded run (rounded-examples), by
-- computing. Its sources are stored, so that demand 3 holds of it (ones-demand).
use mathlib.Core.Path.{refl}
use native.Mathlib.Omega.{arith}
use lib.Ieee.{size}
use Rattle.number.specs.Number.{one_number, round_by, renormalised, sum_by, product_by, quotient_by, value, Stored}
use Rattle.number.specs.Examples.{AllHold}
use Rattle.words.specs.RowSet.{has, put, count, all_before, equal, rows, among}
use Rattle.words.specs.Latest.{some, latest}
use Rattle.words.specs.Word.{ascending, descending, word}
use Rattle.words.specs.Walk.{one_at, moved, scaled, act, walk, minor}
use Rattle.words.specs.Formula.{latest_before, on_diagonal, below_diagonal, banded_below, factors_by}
use Rattle.words.specs.Operation.{joined_word, steps, result}
use Rattle.words.specs.Sources.{BandedNumbers}
use Rattle.words.specs.Examples.{ones}
use Rattle.words.proofs.Banded.{stored-banded}
use Rattle.factors.specs.Demand.{Proper, exactly, Demand}
use Rattle.factors.specs.Examples.{ones_product, exact_table, rounded_table}
use Rattle.factors.proofs.Demanded.{joined-regular, proper-value, demand}

pub exact-examples : AllHold exact_table
unfolding exact_table has put count all_before equal rows among some latest ascending descending word joined_word one_at moved scaled act walk minor latest_before
    on_diagonal below_diagonal banded_below factors_by result value
exact-examples = (refl, (refl, (refl, (refl, tt))))

pub rounded-examples : AllHold rounded_table
unfolding rounded_table has put count all_before equal rows among some latest ascending descending word joined_word one_at moved scaled act walk minor latest_before
    on_diagonal below_diagonal banded_below factors_by result value round_by renormalised sum_by product_by quotient_by size lib.Ieee.span lib.Ieee.climb
rounded-examples = (refl, (refl, (refl, (refl, tt))))

one-stored : Stored one_number
one-stored = record { low = omega arith; high = omega arith; start = omega arith; stop = omega arith }

ones-banded : BandedNumbers 2 ones
ones-banded = stored-banded 2 ones (λ i j x y. one-stored)

pub ones-proper : Proper (BandedNumbers 2) 2 ones_product
ones-proper = record { sources = (ones-banded, (ones-banded, tt)); fit = omega arith }

pub ones-demand : Demand 2 ones_product
ones-demand =
    demand 2 ones_product (omega arith) (omega arith) (omega arith) ones-proper
    (joined-regular 2 (steps (exactly ones_product)) (proper-value 2 ones_product ones-proper))
