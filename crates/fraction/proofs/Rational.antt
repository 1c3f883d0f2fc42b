-- Document 01's fractions among the rational numbers: `rational` takes the same fractions, and only these, to one number (`rational-same`, `same-rational`),
-- keeps zero, one, sum, product, quotient and a difference of whole numbers, and takes those above zero to positive numbers (`positive-rational`).
use mathlib.Core.Path.{◌≡◌, refl, sym, ◌∙◌}
use mathlib.Core.Logic.{◌↔◌}
use mathlib.Core.Quot.{mk, sound}
use mathlib.Mathlib.Data.Quot.{Equivalence-Quot-mk-eq_iff}
use Prim.Native.Nat.{ℕ, zero, suc, ◌-◌, ◌≤◌, ◌<◌}
use native.Mathlib.Nat.{ℕ_set}
use native.Mathlib.Omega.{arith}
use Rattle.fraction.specs.Fraction.{Fraction, Same, natural, fraction_sum, fraction_product, fraction_quotient}
use Rattle.fraction.specs.Ring.{NonNegative, positive, zero as null}
use Rattle.fraction.specs.SignedFraction.{SignedFraction, EqualSigned}
use Rattle.fraction.specs.SignedFractionLaws.{equal-trans}
use Rattle.fraction.specs.Rational.{Rational, rational, rationals, rationals-ordered}
use Rattle.fraction.proofs.Fraction.{quotient-product}
use Rattle.fraction.proofs.Ordered.{pos-nonzero, quotient-unique}

-- equal rational numbers have equal cross products
pub rational-exact : (x y : SignedFraction) → (◌≡◌ {A = Rational} (mk x) (mk y)) ↔ EqualSigned x y
rational-exact = Equivalence-Quot-mk-eq_iff (record { refl = λ x. refl; symm = λ x y h. sym h; trans = equal-trans }) (λ x y. ℕ_set _ _)

pub rational-same : (x y : Fraction) → Same x y → rational x ≡ rational y
rational-same x y h = sound (omega arith)

pub same-rational : (x y : Fraction) → rational x ≡ rational y → Same x y
same-rational x y e = let h = (rational-exact _ _).0 e in omega arith

pub rational-zero : rational (natural 0) ≡ rationals.𝟘
rational-zero = refl

pub rational-one : rational (natural 1) ≡ rationals.𝟙
rational-one = refl

pub rational-sum : (x y : Fraction) → rational (fraction_sum x y) ≡ rationals.add (rational x) (rational y)
rational-sum x y = sound (omega arith)

pub rational-product : (x y : Fraction) → rational (fraction_product x y) ≡ rationals.mul (rational x) (rational y)
rational-product x y = sound (omega arith)

pub rational-difference : (a b : ℕ) → b ≤ a → rational (natural (a - b)) ≡ rationals.add (rational (natural a)) (rationals.neg (rational (natural b)))
rational-difference a b h = sound (omega arith)

pub positive-rational : (x : Fraction) → 0 < x.top ↔ rationals-ordered.Pos (rational x)
positive-rational x = (λ p. p, λ p. p)

-- a quotient times its divisor is what was divided, and that determines it
pub rational-quotient : (x y : Fraction) → 0 < y.top → rational (fraction_quotient x y) ≡ rationals.mul (rational x) (rationals-ordered.inv (rational y))
rational-quotient x y p =
    quotient-unique rationals rationals-ordered (rational x) (rational y) (rational (fraction_quotient x y))
    (pos-nonzero rationals rationals-ordered (rational y) p)
    (sym (rational-product (fraction_quotient x y) y) ∙ rational-same (fraction_product (fraction_quotient x y) y) x (quotient-product x y p))

pub nonnegative-rational : (x : Fraction) → NonNegative rationals rationals-ordered (rational x)
nonnegative-rational x = by-top x.top refl
  where
    by-top : (t : ℕ) → x.top ≡ t → NonNegative rationals rationals-ordered (rational x)
    by-top zero e = null (sound (omega arith))
    by-top (suc t) e = positive (omega arith)
