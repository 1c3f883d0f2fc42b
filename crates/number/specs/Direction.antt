-- Document 02 (g): which way a result is rounded, for numbers that are not negative. The direction enters a result at one place, the choice of a whole number
-- (`taken`). Beside it stand how far off a result may be (`roundings`) and on which side it lies (`Side`); what a direction means is `Toward`.
use Rattle.std.specs.Prelude.{cond, eqb}
use Prim.Native.Nat.{ℕ, ◌+◌, ◌*◌, ◌/◌, ◌%◌, compare}
use Rattle.std.specs.Float.Ieee.{nearest}
use Rattle.fraction.specs.Fraction.{Fraction, AtMost}
use Rattle.number.specs.declared.Direction.{Direction}
use Rattle.number.specs.declared.Direction.TheVariants.{Nearest, Down, Up}

-- the whole number that is taken for q and r / d: q, or one more
abbrev pub taken : Direction → ℕ → ℕ → ℕ → ℕ
taken Nearest q r d = nearest q (compare (r * 2) d)
taken Down q r d = q
taken Up q r d = cond (eqb r 0) q (q + 1)

-- the whole number that n / d is rounded to
abbrev pub whole_by : Direction → ℕ → ℕ → ℕ
whole_by w n d = taken w (n / d) (n % d) d

-- how many unit roundings a result is off at most
abbrev pub roundings : Direction → ℕ
roundings Nearest = 1
roundings Down = 2
roundings Up = 2

-- on which side of the exact q a result r lies: down it is not above, up it is not below, to nearest it may be either
abbrev pub Side : Direction → Fraction → Fraction → Type 0
Side Nearest r q = Unit {0}
Side Down r q = AtMost r q
Side Up r q = AtMost q r
