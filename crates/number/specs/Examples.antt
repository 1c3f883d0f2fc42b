-- Worked examples as rows of a table (`Row`, `AllHold`), and those of numbers (`arithmetic_table`, `direction_table`, `division_table`).
use Rattle.std.specs.Prelude.{◌≡◌, List, [], ◌∷◌, ℕ, ◌+◌, ◌-◌, ◌*◌, ◌^◌}
use Rattle.number.specs.Direction.{roundings}
use Rattle.number.specs.Division.{shift_of, whole_quotient, rounded_quotient}
use Rattle.number.specs.Number.{bias, sum_of, product_of, quotient_of, sum_by, product_by, quotient_by}
use Rattle.number.specs.declared.Direction.{Direction}
use Rattle.number.specs.declared.Direction.TheVariants.{Nearest, Down, Up}
use Rattle.number.specs.declared.Number.{Number}

-- what the definitions give, and what the paper says
pub record Row : Type 1 where
  pub Answer : Type 0
  pub given : Answer
  pub said : Answer

-- a row of the table
abbrev pub row : {A : Type 0} → A → A → Row
row {A} a b = record { Answer = A; given = a; said = b }

-- every row of a table holds
abbrev pub AllHold : List Row → Type 0
AllHold [] = Unit {0}
AllHold (r ∷ rows) = (r.given ≡ r.said) × AllHold rows

-- m × 2 ^ e and m × 2 ^ -e
abbrev pub up : ℕ → ℕ → Number
up m e = record { m = m; x = bias + e }

abbrev pub down : ℕ → ℕ → Number
down m e = record { m = m; x = bias - e }

-- P1 to P4 and P10, document 01's marked examples on sums, products and quotients
unfoldable pub arithmetic_table : List Row
arithmetic_table =
    row (sum_of (down (2 ^ 31) 31) (down (2 ^ 31) 63)) (down (2 ^ 31) 31)  -- 1 + 2 ^ -32 is 1
    ∷ row (sum_of (down (2 ^ 31 + 1) 31) (down (2 ^ 31) 63)) (down 2147483650 31)  -- (2 ^ 31 + 1) × 2 ^ -31 plus 2 ^ -32
    ∷ row (sum_of (up (2 ^ 32 - 1) 0) (down (2 ^ 31) 32)) (up (2 ^ 31) 1)  -- (2 ^ 32 - 1) + 1 / 2
    ∷ row (product_of (up (2 ^ 32 - 1) 0) (up (2 ^ 32 - 1) 0)) (up 4294967294 32)  -- (2 ^ 32 - 1) squared
    ∷ row (quotient_of (down (2 ^ 31) 31) (down (3 * 2 ^ 30) 30)) (down 2863311531 33)  -- 1 / 3
    ∷ []

-- an operation rounded down, to nearest and up
abbrev pub each_way : (Direction → Number → Number → Number) → Number → Number → List Number
each_way f a b = f Down a b ∷ f Nearest a b ∷ f Up a b ∷ []

-- how far off each may be; where they part, and where they agree
unfoldable pub direction_table : List Row
direction_table =
    row (roundings Nearest ∷ roundings Down ∷ roundings Up ∷ []) (1 ∷ 2 ∷ 2 ∷ [])  -- document 02: nearest within 1, down and up within 2
    ∷ row (each_way sum_by (up (2 ^ 31) 0) (down (3 * 2 ^ 30) 32)) (up (2 ^ 31) 0 ∷ up (2 ^ 31 + 1) 0 ∷ up (2 ^ 31 + 1) 0 ∷ [])  -- 2 ^ 31 + 3 / 4
    ∷ row (each_way sum_by (up (2 ^ 31) 0) (down (2 ^ 31) 33)) (up (2 ^ 31) 0 ∷ up (2 ^ 31) 0 ∷ up (2 ^ 31 + 1) 0 ∷ [])  -- and 1 / 4
    ∷ row (each_way sum_by (up (2 ^ 31) 0) (up (2 ^ 31) 0)) (up (2 ^ 31) 1 ∷ up (2 ^ 31) 1 ∷ up (2 ^ 31) 1 ∷ [])  -- exact: up takes no more
    ∷ row (each_way sum_by (up (2 ^ 32 - 1) 0) (down (2 ^ 31) 33)) (up (2 ^ 32 - 1) 0 ∷ up (2 ^ 32 - 1) 0 ∷ up (2 ^ 31) 1 ∷ [])  -- up to 2 ^ 32, and carried
    ∷ row (each_way sum_by (up (2 ^ 31) 0) (down (2 ^ 31) 1000)) (up (2 ^ 31) 0 ∷ up (2 ^ 31) 0 ∷ up (2 ^ 31 + 1) 0 ∷ [])  -- far apart, the least still counts
    ∷ row (each_way product_by (up (2 ^ 32 - 1) 0) (up (2 ^ 32 - 1) 0)) (up 4294967294 32 ∷ up 4294967294 32 ∷ up 4294967295 32 ∷ [])
    ∷ row (each_way product_by (up (2 ^ 32 - 2) 0) (up (2 ^ 31 + 1) 0)) (up (2 ^ 32 - 1) 31 ∷ up (2 ^ 31) 32 ∷ up (2 ^ 31) 32 ∷ [])  -- 2 ^ 63 - 2
    ∷ row (each_way quotient_by (down (2 ^ 31) 31) (down (3 * 2 ^ 30) 30)) (down 2863311530 33 ∷ down 2863311531 33 ∷ down 2863311531 33 ∷ [])  -- 1 / 3
    ∷ row (each_way quotient_by (up (3 * 2 ^ 30) 0) (up (2 ^ 31) 0)) (down (3 * 2 ^ 30) 31 ∷ down (3 * 2 ^ 30) 31 ∷ down (3 * 2 ^ 30) 31 ∷ [])  -- exact
    ∷ []

-- the shift of a division, and the whole quotient: before rounding, to nearest, up
abbrev pub division_of : ℕ → ℕ → List ℕ
division_of a b = shift_of a b ∷ whole_quotient a b ∷ rounded_quotient Nearest a b ∷ rounded_quotient Up a b ∷ []

-- divisions at the ends of the range, where a comparison, a shift or a rounding that is off by one would leave it
unfoldable pub division_table : List Row
division_table =
    row (division_of (2 ^ 32 - 1) (2 ^ 32 - 1)) (31 ∷ 2147483648 ∷ 2147483648 ∷ 2147483648 ∷ [])  -- equal mantissas
    ∷ row (division_of (2 ^ 32 - 1) (2 ^ 31)) (31 ∷ 4294967295 ∷ 4294967295 ∷ 4294967295 ∷ [])  -- the largest quotient: nothing is left, so up takes no more
    ∷ row (division_of (2 ^ 32 - 2) (2 ^ 32 - 1)) (32 ∷ 4294967294 ∷ 4294967295 ∷ 4294967295 ∷ [])  -- rounded up to the largest
    ∷ row (division_of (2 ^ 31) (2 ^ 32 - 1)) (32 ∷ 2147483648 ∷ 2147483649 ∷ 2147483649 ∷ [])  -- the least dividend over the largest divisor
    ∷ row (division_of (2 ^ 31) (2 ^ 31 + 1)) (32 ∷ 4294967294 ∷ 4294967294 ∷ 4294967295 ∷ [])  -- next to the largest: up takes it, nearest does not
    ∷ []
