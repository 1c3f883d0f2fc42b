-- THE ERROR OF A RUN: a letter E or Et rounds twice, an entry of D once (near-related); new factors of minors that are near are near (factor-near), and divide
-- by nothing that is zero where the exact ones do not (divisible-near). A letter's own error c is a parameter: 0 for a stored number taken as exact.
use mathlib.Core.Path.{◌≡◌, refl}
use mathlib.Core.Bool.{false}
use Prim.Native.Nat.{ℕ, zero, suc, ◌+◌, ◌*◌, ◌≤◌, ◌<◌}
use native.Mathlib.Omega.{arith}
use lib.Dec.{eqb}
use lib.ListN.{length}
use borrow.Author.Tests.{eqb-false}
use Rattle.fraction.specs.Fraction.{Fraction, exact}
use Rattle.fraction.proofs.Fraction.{product-positive}
use Rattle.number.specs.declared.Number.{Number}
use Rattle.number.specs.Number.{bias, rounded}
use Rattle.words.specs.RowSet.{In, RowSet}
use Rattle.words.specs.Formula.{new_factor, Divisible}
use Rattle.words.proofs.Related.{Related}
use Rattle.words.proofs.Formulas.{divisible-related, new_factor-related}
use Rattle.factors.proofs.Near.{Near, near-more, near-zero, near-zeros, near-sum, near-product, near-quotient}

-- THE GRADES: k unit roundings so far, exponents from -r to r
abbrev pub Grade : Type 0
Grade = ℕ × ℕ

-- where the exponents have room
abbrev pub Room : ℕ → Type 0
Room r = r + r + 64 ≤ bias

abbrev pub NearBy : Grade → Number → Fraction → Type 0
NearBy g x y = Room g.1 → Near g.0 g.1 x y

-- a letter's weight within c, and an entry of D, which is positive too
abbrev pub NearWeight : ℕ → Number → Fraction → Type 0
NearWeight c w v = Near c 1000 w v

abbrev pub NearEntry : ℕ → Number → Fraction → Type 0
NearEntry c e f = Near c 1000 e f × (0 < f.top)

module _ (c : ℕ) where
  -- a product and a sum are rounded after a letter E or Et, one product or quotient after an entry of D
  abbrev pub move_grade : Grade → Grade
  move_grade g = (g.0 + (2 + c), g.1 + 1035)

  abbrev pub entry_grade : Grade → Grade
  entry_grade g = (g.0 + (1 + c), g.1 + 1035)

  pub near-moves : (g : Grade) (x x' w : Number) (y y' v : Fraction) → NearBy g x y → NearWeight c w v → NearBy g x' y'
      → NearBy (move_grade g) (rounded.add x (rounded.mul w x')) (exact.add y (exact.mul v y'))
  near-moves g x x' w y y' v h k l room =
      near-more (omega arith) (omega arith)
      (near-sum {k = g.0 + c + 1} {r = g.1 + 1033}
      (near-more (omega arith) (omega arith) (h (omega arith)))
      (near-more (omega arith) (omega arith) (near-product k (l (omega arith)) (omega arith)))
      (omega arith))

  -- rounded numbers beside fractions
  abbrev pub near-related : Related rounded exact Grade NearBy
  near-related = record {
    Weight = NearWeight c;
    Entry = NearEntry c;
    after_move = move_grade;
    rel-stays = λ g x y h room. near-more (omega arith) (omega arith) (h (omega arith));
    rel-moves = near-moves;
    after_entry = entry_grade;
    rel-skips = λ g x y h room. near-more (omega arith) (omega arith) (h (omega arith));
    rel-times = λ g x e y f h k room. near-more (omega arith) (omega arith) (near-product (h (omega arith)) k.0 (omega arith));
    rel-over = λ g x e y f h k room. near-more (omega arith) (omega arith) (near-quotient (h (omega arith)) k.0 k.1 (omega arith));
  }

-- NEW FACTORS of minors within κ, where no divisor of the exact ones is zero: four minors, two products and a quotient
module _ (κ r k : ℕ) (room : 4 * r + 194 ≤ bias) where
  -- a top that is not zero is above it
  nonzero : (t : ℕ) → eqb t 0 ≡ false → 0 < t
  nonzero zero e = absurd (eqb-false 0 0 e refl)
  nonzero (suc t) e = omega arith

  quotients : (x₁ x₂ x₃ x₄ : Number) (y₁ y₂ y₃ y₄ : Fraction) → Near κ r x₁ y₁ → Near κ r x₂ y₂ → Near κ r x₃ y₃ → Near κ r x₄ y₄
      → exact.is_zero y₃ ≡ false → exact.is_zero y₄ ≡ false
      → Near (4 * κ + 3) (4 * r + 98) (rounded.div (rounded.mul x₁ x₂) (rounded.mul x₃ x₄)) (exact.div (exact.mul y₁ y₂) (exact.mul y₃ y₄))
  quotients x₁ x₂ x₃ x₄ y₁ y₂ y₃ y₄ p₁ p₂ p₃ p₄ z₃ z₄ =
      near-more (omega arith) (omega arith)
      (near-quotient (near-product p₁ p₂ (omega arith)) (near-product p₃ p₄ (omega arith))
      (product-positive y₃ y₄ (nonzero y₃.top z₃) (nonzero y₄.top z₄)) (omega arith))

  ratios : (x x' : Number) (y y' : Fraction) → Near κ r x y → Near κ r x' y' → exact.is_zero y' ≡ false
      → Near (4 * κ + 3) (4 * r + 98) (rounded.div x x') (exact.div y y')
  ratios x x' y y' p p' z = near-more (omega arith) (omega arith) (near-quotient p p' (nonzero y'.top z) (omega arith))

  module _ (M : RowSet → RowSet → Number) (N : RowSet → RowSet → Fraction)
      (near : (I J : RowSet) → length I ≡ k → length J ≡ k → Near κ r (M I J) (N I J)) where
    pub factor-near : Divisible exact k N → Divisible exact k (λ I J. N J I) → (i j : ℕ) → In k i → In k j
        → Near (4 * κ + 3) (4 * r + 98) (new_factor rounded k M i j) (new_factor exact k N i j)
    factor-near =
        new_factor-related rounded exact k (Near κ r) (Near (4 * κ + 3) (4 * r + 98)) near-zeros (near-more (omega arith) (omega arith) (near-zero 31))
        quotients ratios M N near

    -- nor is a divisor of the rounded ones
    pub divisible-near : Divisible exact k N → Divisible rounded k M
    divisible-near =
        divisible-related rounded exact k (Near κ r) (Near (4 * κ + 3) (4 * r + 98)) near-zeros (near-more (omega arith) (omega arith) (near-zero 31))
        quotients ratios M N near
