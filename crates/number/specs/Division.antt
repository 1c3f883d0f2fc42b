-- Document 02 (d): the mantissas are compared, the shift is chosen, one division gives the whole quotient and the remainder, and these are rounded.
use Rattle.std.specs.Prelude.{ℕ, ◌+◌, ◌-◌, ◌*◌, ◌/◌, ◌^◌, ◌≡◌, cond, ltb}
use Rattle.number.specs.Direction.{taken}
use Rattle.number.specs.Number.{bias, FullDigits}
use Rattle.number.specs.declared.Direction.{Direction}
use Rattle.number.specs.declared.Number.{Number}

-- by how many places the dividend a is shifted: 32 where it is the smaller mantissa, else 31
abbrev pub shift_of : ℕ → ℕ → ℕ
shift_of a b = cond (ltb a b) 32 31

-- the dividend, shifted
abbrev pub shifted : ℕ → ℕ → ℕ
shifted a b = a * 2 ^ shift_of a b

-- the whole quotient before rounding
abbrev pub whole_quotient : ℕ → ℕ → ℕ
whole_quotient a b = shifted a b / b

-- the remainder: the shifted dividend less whole quotient times divisor
abbrev pub remainder : ℕ → ℕ → ℕ
remainder a b = shifted a b - whole_quotient a b * b

-- the whole quotient after rounding
abbrev pub rounded_quotient : Direction → ℕ → ℕ → ℕ
rounded_quotient w a b = taken w (whole_quotient a b) (remainder a b) b

-- r is the quotient of the positive numbers a and b in direction w: the whole quotient has 32 digits before rounding and after it, so what rounding takes is
-- r's mantissa as it stands, and nothing is carried
pub record Divided (w : Direction) (a b r : Number) : Type 0 where
  pub before : FullDigits (whole_quotient a.m b.m)
  pub after : FullDigits (rounded_quotient w a.m b.m)
  pub mantissa : r.m ≡ rounded_quotient w a.m b.m
  pub exponent : r.x ≡ a.x + bias - b.x - shift_of a.m b.m
