-- Signed numbers, for list items (document 01, "Shelf calls"): signed sums round alike, full cancellation gives zero. Zero is not negative.
use Rattle.std.specs.Prelude.{◌≡◌, Bool, true, false, not, cond, ◌&&◌, ℕ, ◌+◌, ◌-◌, ◌*◌, ◌^◌, min, eqb, ltb}
use Rattle.std.specs.Bool.{xor}
use Rattle.fraction.specs.Arithmetic.{Arithmetic}
use Rattle.number.specs.Number.{zero_number, one_number, round, product_of, quotient_of, Ranged}
use Rattle.number.specs.declared.Number.{Number}
use Rattle.number.specs.declared.signed.Signed.{Signed}

-- a number as a whole number at exponent l, which is not above its own
abbrev pub integer_at : ℕ → Number → ℕ
integer_at l a = a.m * 2 ^ (a.x - l)

-- whether a is less than b, both brought to the lower exponent
unfoldable pub below : Number → Number → Bool
below a b =
    let l = min a.x b.x in
    ltb (integer_at l a) (integer_at l b)

-- the exact difference rounded once, for a b that is not larger
unfoldable pub difference_of : Number → Number → Number
difference_of a b =
    let l = min a.x b.x in
    round (integer_at l a - integer_at l b) 1 l

-- a number with the sign plus
abbrev pub plain : Number → Signed
plain a = record { negative = false; size = a }

-- zero, which is not negative
abbrev pub zero_signed : Signed
zero_signed = plain zero_number

-- the exact p - q at exponent x, rounded once
unfoldable pub signed_round : ℕ → ℕ → ℕ → Signed
signed_round p q x = cond (ltb p q) (record { negative = true; size = round (q - p) 1 x }) (plain (round (p - q) 1 x))

-- a less b
unfoldable pub signed_difference : Number → Number → Signed
signed_difference a b =
    let l = min a.x b.x in
    signed_round (integer_at l a) (integer_at l b) l

-- what a signed number adds to the positive part of a sum, and to the negative part, as whole numbers at exponent l
abbrev pub positive_part : ℕ → Signed → ℕ
positive_part l a = cond a.negative 0 (integer_at l a.size)

abbrev pub negative_part : ℕ → Signed → ℕ
negative_part l a = cond a.negative (integer_at l a.size) 0

-- the exact signed sum, both operands brought to the lower exponent, rounded once
unfoldable pub signed_sum : Signed → Signed → Signed
signed_sum a b =
    let l = min a.size.x b.size.x in
    signed_round (positive_part l a + positive_part l b) (negative_part l a + negative_part l b) l

-- a number with a sign, of which zero has none
unfoldable pub with_sign : Bool → Number → Signed
with_sign s a = record { negative = s && not (eqb a.m 0); size = a }

-- the product and the quotient of the sizes, each rounded once, negative where one operand is
unfoldable pub signed_product : Signed → Signed → Signed
signed_product a b = with_sign (xor a.negative b.negative) (product_of a.size b.size)

unfoldable pub signed_quotient : Signed → Signed → Signed
signed_quotient a b = with_sign (xor a.negative b.negative) (quotient_of a.size b.size)

-- the arithmetic that lists are carried in
abbrev pub signed_arithmetic : Arithmetic
signed_arithmetic = record {
  Num = Signed;
  zero = zero_signed;
  one = plain one_number;
  add = signed_sum;
  mul = signed_product;
  div = signed_quotient;
  is_zero = λ a. eqb a.size.m 0;
}

-- a size within r, and zero not negative
pub record SignedRanged (r : ℕ) (a : Signed) : Type 0 where
  pub size : Ranged r a.size
  pub zero : a.size.m ≡ 0 → a.negative ≡ false
