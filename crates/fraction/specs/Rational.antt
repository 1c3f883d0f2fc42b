-- The rational numbers: fractions with a sign, equal where their cross products are. The ring `rationals`, its order and inverses `rationals-ordered`,
-- and document 01's fractions among them, `rational`.
use Rattle.std.specs.Prelude.{◌≡◌, Bool, true, false, eqb}
use Rattle.std.proofs.Common.{sym, ap, ◌∙◌, arith, eqb-true}
use Rattle.std.proofs.Math.Bool.{Bool-set}
use Rattle.std.proofs.lemmas.Bool.{false≢true}
use mathlib.Core.HLevel.{Π_prop}
use mathlib.Core.Quot.{Quot, mk, sound, Quot-set, lift, lift_prop, ind, lift_prop_prop}
use mathlib.Mathlib.Data.Quot.{lift₂, induction_on₂, induction_on₃}
use Rattle.std.proofs.Math.Bridge.{le_prop}
use Rattle.fraction.specs.Fraction.{Fraction, natural}
use Rattle.fraction.specs.Ring.{CRing, Ordered}
use Rattle.fraction.specs.SignedFraction.{SignedFraction, EqualSigned, PositiveSigned, signed, signed_add, signed_mul, signed-neg, signed-inv}
use Rattle.fraction.specs.SignedFractionLaws as Laws

-- signed fractions, those with equal cross products being one number
abbrev pub Rational : Type 0
Rational = Quot EqualSigned

-- a fraction of document 01
abbrev pub rational : Fraction → Rational
rational x = mk (signed x)

-- sum, product, negative and inverse: those of signed fractions, which respect `EqualSigned`
abbrev pub rational-add : Rational → Rational → Rational
rational-add =
    lift₂ Quot-set (λ x y. mk (signed_add x y)) (λ x y z h. sound (Laws.add-equal-right x y z h))
    (λ x y z h. sound (Laws.add-equal-left x y z h))

abbrev pub rational-mul : Rational → Rational → Rational
rational-mul =
    lift₂ Quot-set (λ x y. mk (signed_mul x y)) (λ x y z h. sound (Laws.mul-equal-right x y z h))
    (λ x y z h. sound (Laws.mul-equal-left x y z h))

abbrev pub rational-neg : Rational → Rational
rational-neg = lift Quot-set (λ x. mk (signed-neg x)) (λ x y h. sound (Laws.neg-equal x y h))

abbrev pub rational-inv : Rational → Rational
rational-inv = lift Quot-set (λ x. mk (signed-inv x)) (λ x y h. sound (Laws.inv-equal x y h))

-- a law of one, two or three rational numbers holds if it holds of fractions with a sign
pub rational-law₁ : (f g : Rational → Rational) → ((x : SignedFraction) → f (mk x) ≡ g (mk x)) → (a : Rational) → f a ≡ g a
rational-law₁ f g h a = ind (λ a. Quot-set (f a) (g a)) h a

pub rational-law₂ : (f g : Rational → Rational → Rational) → ((x y : SignedFraction) → f (mk x) (mk y) ≡ g (mk x) (mk y))
    → (a b : Rational) → f a b ≡ g a b
rational-law₂ f g h a b = induction_on₂ (λ a b. Quot-set (f a b) (g a b)) a b h

pub rational-law₃ : (f g : Rational → Rational → Rational → Rational)
    → ((x y z : SignedFraction) → f (mk x) (mk y) (mk z) ≡ g (mk x) (mk y) (mk z))
    → (a b c : Rational) → f a b c ≡ g a b c
rational-law₃ f g h a b c = induction_on₃ (λ a b c. Quot-set (f a b c) (g a b c)) a b c h

-- the rational numbers as a commutative ring
abbrev pub rationals : CRing
rationals = record {
  R = Rational;
  𝟘 = rational (natural 0);
  𝟙 = rational (natural 1);
  add = rational-add;
  mul = rational-mul;
  neg = rational-neg;
  add_assoc =
      rational-law₃ (λ a b c. rational-add (rational-add a b) c) (λ a b c. rational-add a (rational-add b c)) (λ x y z. sound (Laws.add_assoc x y z));
  add_comm = rational-law₂ rational-add (λ a b. rational-add b a) (λ x y. sound (Laws.add_comm x y));
  add-zero = rational-law₁ (λ a. rational-add a (rational (natural 0))) (λ a. a) (λ x. sound (Laws.add-zero x));
  add-neg = rational-law₁ (λ a. rational-add a (rational-neg a)) (λ a. rational (natural 0)) (λ x. sound (Laws.add-neg x));
  mul_assoc =
      rational-law₃ (λ a b c. rational-mul (rational-mul a b) c) (λ a b c. rational-mul a (rational-mul b c)) (λ x y z. sound (Laws.mul_assoc x y z));
  mul_comm = rational-law₂ rational-mul (λ a b. rational-mul b a) (λ x y. sound (Laws.mul_comm x y));
  mul-one = rational-law₁ (λ a. rational-mul a (rational (natural 1))) (λ a. a) (λ x. sound (Laws.mul-one x));
  mul-add =
      rational-law₃ (λ a b c. rational-mul a (rational-add b c)) (λ a b c. rational-add (rational-mul a b) (rational-mul a c))
      (λ x y z. sound (Laws.mul-add x y z));
}

-- ORDER AND INVERSES
abbrev pub RationalPositive : Rational → Type 0
RationalPositive a = (lift_prop {0, 0, 0} (λ x. (PositiveSigned x, le_prop)) Laws.positive-equal a).0

positive-prop : (a : Rational) → IsProp (RationalPositive a)
positive-prop = lift_prop_prop (λ x. (PositiveSigned x, le_prop)) Laws.positive-equal

-- what sum and product keep
pub positive-kept : (f : Rational → Rational → Rational)
    → ((x y : SignedFraction) → PositiveSigned x → PositiveSigned y → RationalPositive (f (mk x) (mk y)))
    → (a b : Rational) → RationalPositive a → RationalPositive b → RationalPositive (f a b)
positive-kept f h a b =
    induction_on₂ {δ = λ a b. RationalPositive a → RationalPositive b → RationalPositive (f a b)}
    (λ a b. Π_prop (λ _. Π_prop (λ _. positive-prop (f a b)))) a b h

-- what the inverse keeps: a number times its inverse is one, and the inverse of a positive number is positive
pub rational-inv-mul : (a : Rational) → (a ≡ rational (natural 0) → ⊥) → rational-mul a (rational-inv a) ≡ rational (natural 1)
rational-inv-mul = ind {β = λ a. (a ≡ rational (natural 0) → ⊥) → rational-mul a (rational-inv a) ≡ rational (natural 1)} (λ a. Π_prop (λ _. Quot-set _ _))
    (λ x n. sound (Laws.inv-mul x (λ e. n (sound e))))

pub rational-inv-positive : (a : Rational) → RationalPositive a → RationalPositive (rational-inv a)
rational-inv-positive =
    ind {β = λ a. RationalPositive a → RationalPositive (rational-inv a)} (λ a. Π_prop (λ _. positive-prop (rational-inv a))) Laws.positive-inv

-- zero: what is added is what is taken away
abbrev pub rational-is-zero : Rational → Bool
rational-is-zero = lift Bool-set (λ x. eqb x.plus x.minus) Laws.zero-equal

pub rational-zero-yes : (a : Rational) → rational-is-zero a ≡ true → a ≡ rational (natural 0)
rational-zero-yes = ind {β = λ a. rational-is-zero a ≡ true → a ≡ rational (natural 0)} (λ a. Π_prop (λ _. Quot-set _ _))
    (λ x e. sound (omega (arith, eqb-true x.plus x.minus e)))

pub rational-zero-no : (a : Rational) → rational-is-zero a ≡ false → a ≡ rational (natural 0) → ⊥
rational-zero-no a e f = false≢true (sym e ∙ ap rational-is-zero f)

-- their order, inverses and test for zero
abbrev pub rationals-ordered : Ordered rationals
rationals-ordered = record {
  Pos = RationalPositive;
  pos-one = omega arith;
  pos-add = positive-kept rational-add Laws.positive-add;
  pos-mul = positive-kept rational-mul Laws.positive-mul;
  pos-zero = λ p. omega arith;
  inv = rational-inv;
  inv-mul = rational-inv-mul;
  inv-pos = rational-inv-positive;
  is_zero = rational-is-zero;
  zero-yes = rational-zero-yes;
  zero-no = rational-zero-no;
}
