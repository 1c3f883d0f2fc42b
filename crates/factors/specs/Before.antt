-- WHAT WAS ACCEPTED BEFORE zeros were gives its old result (document 02, (e)): the new factors by document 01's formulas alone (`AsBefore`).
use Rattle.std.specs.Prelude.{◌≡◌, ℕ}
use Rattle.fraction.specs.Fraction.{exact}
use Rattle.number.specs.declared.Number.{Number}
use Rattle.number.specs.Number.{rounded}
use Rattle.words.specs.RowSet.{In}
use Rattle.words.specs.Formula.{old_factor}
use Rattle.words.specs.Operation.{Operation, size, asked_minor, result}
use Rattle.factors.specs.Demand.{Regular, exactly}

-- it is not singular, and each new factor is that of document 01's formulas on the same minors: the rounded one, bit for bit, and the exact one
pub record AsBefore (n : ℕ) (o : Operation Number) : Type 0 where
  pub regular : Regular n (exactly o)
  pub as-rounded : (i j : ℕ) → In (size n o) i → In (size n o) j → result rounded n o i j ≡ old_factor rounded (size n o) (asked_minor rounded n o) i j
  pub as-exact : (i j : ℕ) → In (size n (exactly o)) i → In (size n (exactly o)) j
      → result exact n (exactly o) i j ≡ old_factor exact (size n (exactly o)) (asked_minor exact n (exactly o)) i j
