-- Document 02 (g): what the three directions mean (`Toward`), and what holds of sums, products and quotients in each (`Lawful`).
use Rattle.std.specs.Prelude.{◌≡◌, ◌↔◌, ℕ, ◌+◌, ◌^◌, ◌≤◌, ◌<◌}
use Rattle.fraction.specs.Fraction.{Fraction, AtMost, fraction_sum, fraction_product, fraction_quotient}
use Rattle.fraction.specs.Within.{Within}
use Rattle.number.specs.Direction.{roundings, Side}
use Rattle.number.specs.Nearest.{float, NearestTo}
use Rattle.number.specs.Number.{bias, value, Ranged, sum_by, product_by, quotient_by}
use Rattle.number.specs.declared.Direction.{Direction}
use Rattle.number.specs.declared.Direction.TheVariants.{Nearest, Down, Up}
use Rattle.number.specs.declared.Number.{Number}

-- down (IEEE 754 roundTowardZero): of all m × 2 ^ (i - j) with m of at most 32 bits, zero among them, r is the largest that is not above q
pub record LargestNotAbove (q : Fraction) (r : Number) : Type 0 where
  pub not-above : AtMost (value r) q
  pub largest : (m i j : ℕ) → m < 2 ^ 32 → AtMost (float m i j) q → AtMost (float m i j) (value r)

-- up (the upward partner): r is the smallest that is not below q
pub record SmallestNotBelow (q : Fraction) (r : Number) : Type 0 where
  pub not-below : AtMost q (value r)
  pub smallest : (m i j : ℕ) → m < 2 ^ 32 → AtMost q (float m i j) → AtMost (value r) (float m i j)

-- r is what direction w makes of q
abbrev pub Toward : Direction → Fraction → Number → Type 0
Toward Nearest q r = NearestTo q r
Toward Down q r = LargestNotAbove q r
Toward Up q r = SmallestNotBelow q r

-- r is the exact q rounded once in direction w: its exponent from -k to k, its error, its side, its meaning, and zero of zero alone
pub record Directed (w : Direction) (k : ℕ) (q : Fraction) (r : Number) : Type 0 where
  pub ranged : Ranged k r
  pub within : Within (roundings w) (value r) q
  pub side : Side w (value r) q
  pub toward : Toward w q r
  pub zero : (r.m ≡ 0) ↔ (q.top ≡ 0)

-- THE LAWS OF A DIRECTION, zero operands included
pub record Lawful (w : Direction) : Type 0 where
  pub sum : {r : ℕ} {a b : Number} → Ranged r a → Ranged r b → r + 64 ≤ bias → Directed w (r + 2) (fraction_sum (value a) (value b)) (sum_by w a b)
  pub product : {r s : ℕ} {a b : Number} → Ranged r a → Ranged s b → r + s + 64 ≤ bias
      → Directed w (r + s + 33) (fraction_product (value a) (value b)) (product_by w a b)
  pub quotient : {r s : ℕ} {a b : Number} → Ranged r a → Ranged s b → r + s + 64 ≤ bias → 0 < b.m
      → Directed w (r + s + 32) (fraction_quotient (value a) (value b)) (quotient_by w a b)
