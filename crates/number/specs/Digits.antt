-- Two numbers brought to one exponent, in the digits of a word, and what rounds them.
use Rattle.std.specs.Prelude.{ℕ, ◌+◌, ◌-◌, ◌*◌, ◌/◌, ◌%◌, ◌^◌, cond, eqb, ltb}
use Rattle.number.specs.declared.Direction.{Direction}
use Rattle.number.specs.declared.Direction.TheVariants.{Nearest, Down, Up}

-- 0 where digits agree, else 1
unfoldable pub unlike_of : ℕ → ℕ → ℕ
unlike_of a b = cond (eqb a b) 0 1

-- twice the sum of a and b * 2 ^ (0 - k), both with 30 more digits, and 1 more where digits of b are dropped
unfoldable pub aligned_of : ℕ → ℕ → ℕ → ℕ
aligned_of a b k = (a * 2 ^ 30 + b * 2 ^ 30 / 2 ^ k) * 2 + unlike_of (b * 2 ^ 30 / 2 ^ k * 2 ^ k) (b * 2 ^ 30)

-- what is added to p, of which q units of 2 * h are kept, before the digits behind are cut off: to nearest half a unit less one, and one more where q is odd;
-- down nothing; up a unit less one
abbrev pub lift_of : Direction → (h q : ℕ) → ℕ
lift_of Nearest h q = h - 1 + q % 2
lift_of Down h q = 0
lift_of Up h q = 2 * h - 1

-- p, of 63 + t digits, lifted: half a unit is 2 ^ 30, of 64 digits twice as much
abbrev pub lifted_of : Direction → ℕ → ℕ → ℕ
lifted_of w p t = p + lift_of w (2 ^ 30 + t * 2 ^ 30) (p / 2 ^ 31 / 2 ^ t)

-- what a remainder is multiplied by before it is compared with the divisor d; one more is taken where the product is larger: 2 to nearest; 1 down, where it
-- never is; d + 1 up, where any remainder makes it so
abbrev pub multiplier_of : Direction → ℕ → ℕ
multiplier_of Nearest d = 2
multiplier_of Down d = 1
multiplier_of Up d = d + 1

-- the whole number that is taken for q and r / d: one comparison, with an odd q counted beside the product, so that it goes up at a tie
abbrev pub whole_of : (q r d k : ℕ) → ℕ
whole_of q r d k = cond (ltb d (r * k + q % 2)) (q + 1) q
