-- Division as document 02 (d) orders it. The shift that the compared mantissas choose brings the exact quotient between 2 ^ 31 and 2 ^ 32 - 1
-- (`shifted-low`, `shifted-high`). Both are whole numbers, so rounding in any direction leaves it there (`quotient-full`), and what it takes is the
-- result's mantissa as it stands (`quotient_is`, of numbers `quotient-at`). So every quotient of positive numbers keeps the promise (`quotient-divided`).
use mathlib.Core.Path.{◌≡◌, refl, sym, ap, ap₂, ◌∙◌, subst}
use mathlib.Core.Bool.{Bool, true, false, cond}
use Prim.Native.Nat.{ℕ, ◌+◌, ◌-◌, ◌*◌, ◌/◌, ◌%◌, ◌^◌, ◌≤◌, ◌<◌}
use native.Mathlib.Nat.{div-add-mod'}
use native.Mathlib.Omega.{arith}
use borrow.Author.Tests.{ltb-true, ltb-false}
use lib.Dec.{ltb}
use Rattle.number.proofs.Taken.{taken-above, taken-below}
use Rattle.number.proofs.Rounding.{round_is, renormalised-small}
use Rattle.number.specs.Direction.{taken}
use Rattle.number.specs.Division.{shift_of, shifted, remainder, rounded_quotient, Divided}
use Rattle.number.specs.Number.{bias, round_by, renormalised, quotient_by, FullDigits, Ranged}
use Rattle.number.specs.declared.Direction.{Direction}
use Rattle.number.specs.declared.Direction.TheVariants.{Down}
use Rattle.number.specs.declared.Number.{Number}

-- what holds of 32 where a is the smaller mantissa, and of 31 where it is not, holds of the shift
by_order : (a b : ℕ) (P : ℕ → Type 0) → (a < b → P 32) → (b ≤ a → P 31) → P (shift_of a b)
by_order a b P less more = go (ltb a b) (ltb-true a b) (ltb-false a b)
  where
    go : (t : Bool) → (t ≡ true → a < b) → (t ≡ false → b ≤ a) → P (cond t 32 31)
    go true h k = less (h refl)
    go false h k = more (k refl)

pub shift-range : (a b : ℕ) → (31 ≤ shift_of a b) × (shift_of a b ≤ 32)
shift-range a b = by_order a b (λ s. (31 ≤ s) × (s ≤ 32)) (λ h. omega arith) (λ h. omega arith)

-- two mantissas
module _ (a b : ℕ) (f : FullDigits a) (g : FullDigits b) where
  abbrev n : ℕ
  n = shifted a b

  shifted-low : 2 ^ 31 * b ≤ n
  shifted-low = by_order a b (λ s. 2 ^ 31 * b ≤ a * 2 ^ s) (λ h. omega (arith, f.low, g.high)) (λ h. omega arith)

  pub shifted-high : n ≤ (2 ^ 32 - 1) * b
  shifted-high = by_order a b (λ s. a * 2 ^ s ≤ (2 ^ 32 - 1) * b) (λ h. omega (arith, g.high)) (λ h. omega (arith, f.high, g.low))

  remainder_is : remainder a b ≡ n % b
  remainder_is = omega (arith, div-add-mod' n b)

  positive : 0 < b
  positive = omega (arith, g.low)

  pub quotient-full : (w : Direction) → FullDigits (rounded_quotient w a b)
  quotient-full w =
      subst (λ (r : ℕ). FullDigits (taken w (n / b) r b)) (sym remainder_is)
      (record {
        low = taken-above n b positive w (2 ^ 31) shifted-low;
        high = omega (arith, taken-below n b positive w (2 ^ 32 - 1) shifted-high);
      })

  -- n / b at an exponent lower by the shift is the same fraction, with 32 digits before the point
  quotient_is : (w : Direction) (x : ℕ) → round_by w a b x ≡ record { m = rounded_quotient w a b; x = x - shift_of a b }
  quotient_is w x =
      let k : ℕ = 32 - shift_of a b in
      let places : 2 ^ shift_of a b * 2 ^ k ≡ 2 ^ 32 = by_order a b (λ s. 2 ^ s * 2 ^ (32 - s) ≡ 2 ^ 32) (λ h. refl) (λ h. refl) in
      let same : a * 2 ^ 32 * b ≡ n * (b * 2 ^ k) = omega (arith, ap (λ (z : ℕ). a * b * z) places) in
      let y : x + k - 32 ≡ x - shift_of a b = omega (arith, shift-range a b) in
      round_is w a b x n b k (omega (arith, f.low)) positive positive same shifted-low (omega (arith, positive, shifted-high))
      ∙ ap₂ (λ (r z : ℕ). renormalised (taken w (n / b) r b) z) (sym remainder_is) y
      ∙ renormalised-small (rounded_quotient w a b) (x - shift_of a b) (quotient-full w).high

-- two positive numbers
pub mantissa-full : {r : ℕ} {a : Number} → Ranged r a → 0 < a.m → FullDigits a.m
mantissa-full u p = record { low = u.low p; high = u.high }

module _ (w : Direction) {r s : ℕ} {a b : Number} (u : Ranged r a) (v : Ranged s b) (p : 0 < a.m) (q : 0 < b.m) where
  pub quotient-at : quotient_by w a b ≡ record { m = rounded_quotient w a.m b.m; x = a.x + bias - b.x - shift_of a.m b.m }
  unfolding quotient_by
  quotient-at = quotient_is a.m b.m (mantissa-full u p) (mantissa-full v q) w (a.x + bias - b.x)

  pub quotient-divided : Divided w a b (quotient_by w a b)
  quotient-divided =
      let full = quotient-full a.m b.m (mantissa-full u p) (mantissa-full v q) in
      -- down takes the whole quotient as it stands
      record { before = full Down; after = full w; mantissa = ap (λ (c : Number). c.m) quotient-at; exponent = ap (λ (c : Number). c.x) quotient-at }
