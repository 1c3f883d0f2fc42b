-- THE PROMISE of the arithmetic call (document 02, request (c)), in the numbers that go in and come out: the log balances to the last bit (`Balanced`). What
-- goes in is sign × mantissa × 2 ^ exponent of the two items; what comes out are mantissa × 2 ^ exponent of the result, and rest × 2 ^ rest_exponent.
use Rattle.std.specs.Prelude.{List, ℕ, ◌+◌, ◌*◌, ℤ, pos, ◌*ℤ◌, get_or, Result, Ok, Err, ⊤}
use Rattle.fraction.specs.SignedFraction.{SignedFraction}
use Rattle.rests.specs.Balance.{dyadic, Balanced}
use Rattle.rests.specs.declared.Operator.{Operator}
use Rattle.verdict.specs.declared.Refusal.{Refusal}
use Rattle.arithmetic.specs.declared.Worked.{Worked}

-- what item k of a row of numbers stands for, counted from 0
abbrev pub item_value : List ℤ → ℕ → SignedFraction
item_value z k = dyadic (get_or z (3 * k) (pos 0) *ℤ get_or z (3 * k + 1) (pos 0)) (get_or z (3 * k + 2) (pos 0))

-- of a refused call nothing is claimed
abbrev pub Logged : Operator → List ℤ → Result Worked Refusal → Type 0
Logged o items (Ok w) = Balanced o (item_value items 0) (item_value items 1) (dyadic (pos w.mantissa) w.exponent) w.rest w.rest_exponent
Logged o items (Err w) = ⊤
