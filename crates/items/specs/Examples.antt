-- Items of the worked examples.
use Rattle.std.specs.Prelude.{List, [], ◌∷◌, ◌^◌, ℤ, pos, negsuc}

-- 1, -1 and 0 as they are lent: sign, mantissa, exponent
abbrev pub plus_one_item : List ℤ
plus_one_item = pos 1 ∷ pos (2 ^ 31) ∷ negsuc 30 ∷ []

abbrev pub minus_one_item : List ℤ
minus_one_item = negsuc 0 ∷ pos (2 ^ 31) ∷ negsuc 30 ∷ []

abbrev pub zero_item : List ℤ
zero_item = pos 0 ∷ pos 0 ∷ pos 0 ∷ []
