-- Whole numbers with a sign, as callers give signs, mantissas and exponents, and an exponent as it is kept.
use Rattle.std.specs.Prelude.{Bool, true, false, ℕ, suc, ◌+◌, ◌-◌, ℤ, pos, negsuc}
use Rattle.number.specs.Number.{bias}

-- x < 0
abbrev pub is_negative : ℤ → Bool
is_negative (pos n) = false
is_negative (negsuc n) = true

-- an exponent e as it is kept, e + bias; `unbiased` gives it back
abbrev pub biased : ℤ → ℕ
biased (pos n) = bias + n
biased (negsuc n) = bias - suc n
