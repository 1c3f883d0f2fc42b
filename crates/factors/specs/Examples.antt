-- Document 01's all-ones product of two rows: what the exact run answers, row by row, and the rounded run beside it.
use Rattle.std.specs.Prelude.{List, [], ◌∷◌, ℕ, ◌*◌}
use Rattle.std.proofs.Common.{arith}
use Rattle.fraction.specs.Fraction.{Fraction, natural, exact}
use Rattle.number.specs.declared.Number.{Number}
use Rattle.number.specs.Number.{rounded, value}
use Rattle.number.specs.Examples.{Row, row}
use Rattle.words.specs.Operation.{Operation, product, result}
use Rattle.words.specs.Examples.{ones}
use Rattle.factors.specs.Demand.{exactly}

abbrev pub ones_product : Operation Number
ones_product = product ones ones

abbrev pub three_halves_fraction : Fraction
three_halves_fraction = record { top = 3; low = 2; above_zero = omega arith }

abbrev pub half_fraction : Fraction
half_fraction = record { top = 1; low = 2; above_zero = omega arith }

-- two fractions are the same when their cross products are equal
abbrev same_row : Fraction → Fraction → Row
same_row x y = row (x.top * y.low) (y.top * x.low)

-- the four factors of a run
abbrev answers : (ℕ → ℕ → Fraction) → List Row
answers b = same_row (b 1 1) (natural 2) ∷ same_row (b 1 2) three_halves_fraction ∷ same_row (b 2 1) three_halves_fraction ∷ same_row (b 2 2) half_fraction ∷ []

unfoldable pub exact_table : List Row
exact_table = answers (result exact 2 (exactly ones_product))

unfoldable pub rounded_table : List Row
rounded_table = answers (λ i j. value (result rounded 2 ones_product i j))
