-- A number in one word: the mantissa in the low half, the exponent in the high half.
use Rattle.std.specs.Prelude.{ℕ, ◌+◌, ◌*◌, ◌/◌, ◌%◌, ◌^◌}
use Rattle.number.specs.declared.Number.{Number}

-- the word of a number
unfoldable pub pack_of : Number → ℕ
pack_of a = a.x * 2 ^ 32 + a.m

-- the number of a word
unfoldable pub unpack_of : ℕ → Number
unpack_of w = record { m = w % 2 ^ 32; x = w / 2 ^ 32 }
