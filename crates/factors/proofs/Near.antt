-- A rounded number near a fraction: its exponent in range and the two within k unit roundings. Laws: near-sum, near-product, near-quotient. Zero is near zero
-- only (near-zeros).
use mathlib.Core.Path.{◌≡◌, refl, sym, ◌∙◌}
use Prim.Native.Nat.{ℕ, zero, suc, ◌+◌, ◌≤◌, ◌<◌}
use native.Mathlib.Omega.{arith}
use lib.Dec.{eqb}
use borrow.Author.Tests.{ne_eqb}
use Rattle.fraction.specs.Fraction.{Fraction, natural, fraction_sum, fraction_product, fraction_quotient}
use Rattle.fraction.specs.Within.{Within}
use Rattle.fraction.proofs.Within.{within-refl, within-sym, within_same, within-trans, within-mono, within-sum, within-mul, within-div, within-positive}
use Rattle.number.specs.declared.Direction.TheVariants.{Nearest}
use Rattle.number.specs.declared.Number.{Number}
use Rattle.number.specs.Number.{bias, zero_number, one_number, sum_of, product_of, quotient_of, value, Ranged, Stored}
use Rattle.number.proofs.Value.{value-zero, value-one, value-positive}
use Rattle.number.proofs.Error.{sum-within, product-within, quotient-within}
use Rattle.number.proofs.Reach.{ranged-more, ranged-zero, ranged-one, ranged-stored, ranged-sum, ranged-product, ranged-quotient}

pub record Near (k r : ℕ) (x : Number) (y : Fraction) : Type 0 where
  pub ranged : Ranged r x
  pub within : Within k (value x) y

pub near-more : {k l r s : ℕ} {x : Number} {y : Fraction} → k ≤ l → r ≤ s → Near k r x y → Near l s x y
near-more h g u = record { ranged = ranged-more g u.ranged; within = within-mono h u.within }

pub near-positive : {k r : ℕ} {x : Number} {y : Fraction} → Near k r x y → 0 < y.top → 0 < x.m
near-positive {k} {r} {x} u h = (value-positive x).1 (within-positive u.within h)

-- zero together
pub near-zeros : {k r : ℕ} (x : Number) (y : Fraction) → Near k r x y → eqb x.m 0 ≡ eqb y.top 0
near-zeros {k} {r} x y h = by y.top x.m refl refl
  where
    by : (t m : ℕ) → y.top ≡ t → x.m ≡ m → eqb m 0 ≡ eqb t 0
    by zero zero e f = refl
    by zero (suc m) e f = absurd (let z : 0 < y.top = within-positive (within-sym h.within) ((value-positive x).0 (omega arith)) in omega arith)
    by (suc t) zero e f = absurd (let z : 0 < x.m = near-positive h (omega arith) in omega arith)
    by (suc t) (suc m) e f = ne_eqb (suc m) 0 (λ z. omega arith) ∙ sym (ne_eqb (suc t) 0 (λ z. omega arith))

-- THE START: zero, one, and a stored number with the fraction that it stands for
pub near-zero : (r : ℕ) → Near 0 r zero_number (natural 0)
near-zero r = record { ranged = ranged-zero r; within = within_same (value zero_number) (natural 0) value-zero }

pub near-one : Near 0 31 one_number (natural 1)
near-one = record { ranged = ranged-one; within = within_same (value one_number) (natural 1) value-one }

pub near-stored : {a : Number} → Stored a → Near 0 1000 a (value a)
near-stored {a} s = record { ranged = ranged-stored s; within = within-refl (value a) }

-- EACH OPERATION, rounded once
pub near-sum : {k r : ℕ} {x x' : Number} {y y' : Fraction} → Near k r x y → Near k r x' y' → r + r + 64 ≤ bias
    → Near (k + 1) (r + 2) (sum_of x x') (fraction_sum y y')
near-sum {k} {r} u v h =
    record {
      ranged = ranged-sum Nearest u.ranged v.ranged (omega arith);
      within = within-mono (omega arith) (within-trans (sum-within Nearest u.ranged v.ranged (omega arith)) (within-sum u.within v.within));
    }

pub near-product : {j k r s : ℕ} {x x' : Number} {y y' : Fraction} → Near j r x y → Near k s x' y' → r + s + 64 ≤ bias
    → Near (j + k + 1) (r + s + 33) (product_of x x') (fraction_product y y')
near-product {j} {k} u v h =
    record {
      ranged = ranged-product Nearest u.ranged v.ranged h;
      within = within-mono (omega arith) (within-trans (product-within Nearest u.ranged v.ranged h) (within-mul u.within v.within));
    }

pub near-quotient : {j k r s : ℕ} {x x' : Number} {y y' : Fraction} → Near j r x y → Near k s x' y' → 0 < y'.top → r + s + 64 ≤ bias
    → Near (j + k + 1) (r + s + 32) (quotient_of x x') (fraction_quotient y y')
near-quotient {j} {k} {r} {s} {x} {x'} u v p h =
    let m : 0 < x'.m = near-positive v p in
    record {
      ranged = ranged-quotient Nearest u.ranged v.ranged m;
      within =
          within-mono (omega arith)
          (within-trans (quotient-within Nearest u.ranged v.ranged h m) (within-div u.within v.within ((value-positive x').0 m)));
    }
