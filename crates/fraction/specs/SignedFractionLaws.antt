-- Laws of fractions with a sign, up to `EqualSigned`. They stand here and not among the proofs, since the ring of the rational numbers is made of them.
use Rattle.std.specs.Prelude.{◌≡◌, refl, Bool, true, false, ◌↔◌, ℕ, zero, suc, ◌+◌, ◌-◌, ◌*◌, ◌<◌, eqb}
use Rattle.std.proofs.Common.{sym, ap, mul-lt-mul_of_pos_right, lt_of_mul-lt-mul_right, arith, eq-eqb, ne_eqb, eqb-true}
use Rattle.std.proofs.Math.Nat.{mul-sub, le_dest, eq_of_mul-eq-mul_right}
use Rattle.std.proofs.lemmas.Bool.{eqb-false}
use Rattle.fraction.specs.Fraction.{natural}
use Rattle.fraction.specs.SignedFraction.{SignedFraction, EqualSigned, PositiveSigned, signed, signed_add, signed_mul, signed-neg, signed-inv, reciprocal}

-- EQUAL IS AN EQUIVALENCE, which the operations respect
pub equal-trans : (x y z : SignedFraction) → EqualSigned x y → EqualSigned y z → EqualSigned x z
equal-trans x y z h g =
    eq_of_mul-eq-mul_right y.low y.above_zero _ _ (omega (arith, ap (λ (t : ℕ). t * z.low) h, ap (λ (t : ℕ). t * x.low) g))

pub add-equal-left : (x y z : SignedFraction) → EqualSigned x y → EqualSigned (signed_add x z) (signed_add y z)
add-equal-left x y z h = omega (arith, ap (λ (t : ℕ). t * (z.low * z.low)) h)

pub add-equal-right : (x y z : SignedFraction) → EqualSigned y z → EqualSigned (signed_add x y) (signed_add x z)
add-equal-right x y z h = omega (arith, ap (λ (t : ℕ). t * (x.low * x.low)) h)

pub mul-equal-left : (x y z : SignedFraction) → EqualSigned x y → EqualSigned (signed_mul x z) (signed_mul y z)
mul-equal-left x y z h = omega (arith, ap (λ (t : ℕ). t * (z.plus * z.low)) h, ap (λ (t : ℕ). t * (z.minus * z.low)) h)

pub mul-equal-right : (x y z : SignedFraction) → EqualSigned y z → EqualSigned (signed_mul x y) (signed_mul x z)
mul-equal-right x y z h = omega (arith, ap (λ (t : ℕ). t * (x.plus * x.low)) h, ap (λ (t : ℕ). t * (x.minus * x.low)) h)

pub neg-equal : (x y : SignedFraction) → EqualSigned x y → EqualSigned (signed-neg x) (signed-neg y)
neg-equal x y h = omega arith

pub add_comm : (x y : SignedFraction) → EqualSigned (signed_add x y) (signed_add y x)
add_comm x y = omega arith

pub mul_comm : (x y : SignedFraction) → EqualSigned (signed_mul x y) (signed_mul y x)
mul_comm x y = omega arith

pub add_assoc : (x y z : SignedFraction) → EqualSigned (signed_add (signed_add x y) z) (signed_add x (signed_add y z))
add_assoc x y z = omega arith

pub add-zero : (x : SignedFraction) → EqualSigned (signed_add x (signed (natural 0))) x
add-zero x = omega arith

pub add-neg : (x : SignedFraction) → EqualSigned (signed_add x (signed-neg x)) (signed (natural 0))
add-neg x = omega arith

pub mul_assoc : (x y z : SignedFraction) → EqualSigned (signed_mul (signed_mul x y) z) (signed_mul x (signed_mul y z))
mul_assoc x y z = omega arith

pub mul-one : (x : SignedFraction) → EqualSigned (signed_mul x (signed (natural 1))) x
mul-one x = omega arith

-- all three numbers times c
equal-scaled : (c : ℕ) (x y : SignedFraction) → y.plus ≡ x.plus * c → y.minus ≡ x.minus * c → y.low ≡ x.low * c → EqualSigned x y
equal-scaled c x y p m l = rw (p, m, l) (omega arith)

pub mul-add : (x y z : SignedFraction) → EqualSigned (signed_mul x (signed_add y z)) (signed_add (signed_mul x y) (signed_mul x z))
mul-add x y z = equal-scaled x.low (signed_mul x (signed_add y z)) (signed_add (signed_mul x y) (signed_mul x z)) (omega arith) (omega arith) (omega arith)

-- POSITIVE ELEMENTS
positive_back : (x y : SignedFraction) → EqualSigned x y → PositiveSigned x → PositiveSigned y
positive_back x y h p = lt_of_mul-lt-mul_right x.low (omega (arith, mul-lt-mul_of_pos_right p y.above_zero))

pub positive-equal : (x y : SignedFraction) → EqualSigned x y → PositiveSigned x ↔ PositiveSigned y
positive-equal x y h = (positive_back x y h, positive_back y x (sym h))

pub positive-add : (x y : SignedFraction) → PositiveSigned x → PositiveSigned y → PositiveSigned (signed_add x y)
positive-add x y p q = omega (arith, mul-lt-mul_of_pos_right p y.above_zero, mul-lt-mul_of_pos_right q x.above_zero)

-- (m + a) (n + b) + m n is above (m + a) n + m (n + b) by a b
pub positive-mul : (x y : SignedFraction) → PositiveSigned x → PositiveSigned y → PositiveSigned (signed_mul x y)
positive-mul x y p q = let (a, e) = le_dest p in let (b, f) = le_dest q in rw (← e, ← f) (omega arith)

-- INVERSES, of all but zero
-- how far the plus is above the minus, by cross products
above_equal : (x y : SignedFraction) → EqualSigned x y → (x.plus - x.minus) * y.low ≡ (y.plus - y.minus) * x.low
above_equal x y h = omega (arith, mul-sub y.low x.plus x.minus, mul-sub x.low y.plus y.minus)

reciprocal-equal : (i j i' j' l l' : ℕ) → 0 < l → 0 < l' → i * l' ≡ i' * l → j * l' ≡ j' * l → EqualSigned (reciprocal i j l) (reciprocal i' j' l')
reciprocal-equal (suc i) j (suc i') j' l l' p q h g = omega arith
reciprocal-equal (suc i) j zero j' l l' p q h g = absurd (omega arith)
reciprocal-equal zero j (suc i') j' l l' p q h g = absurd (omega arith)
reciprocal-equal zero (suc j) zero (suc j') l l' p q h g = omega arith
reciprocal-equal zero (suc j) zero zero l l' p q h g = absurd (omega arith)
reciprocal-equal zero zero zero (suc j') l l' p q h g = absurd (omega arith)
reciprocal-equal zero zero zero zero l l' p q h g = refl

pub inv-equal : (x y : SignedFraction) → EqualSigned x y → EqualSigned (signed-inv x) (signed-inv y)
inv-equal x y h = reciprocal-equal _ _ _ _ x.low y.low x.above_zero y.above_zero (above_equal x y h)
    (above_equal (signed-neg x) (signed-neg y) (neg-equal x y h))

pub inv-mul : (x : SignedFraction) → (EqualSigned x (signed (natural 0)) → ⊥) → EqualSigned (signed_mul x (signed-inv x)) (signed (natural 1))
inv-mul x n = by_sign (x.plus - x.minus) (x.minus - x.plus) refl refl
  where
    by_sign : (i j : ℕ) → x.plus - x.minus ≡ i → x.minus - x.plus ≡ j → EqualSigned (signed_mul x (reciprocal i j x.low)) (signed (natural 1))
    by_sign (suc i) j e f = let h : x.plus ≡ x.minus + suc i = omega arith in omega (arith, ap (λ (t : ℕ). t * x.low) h)
    by_sign zero (suc j) e f = let h : x.minus ≡ x.plus + suc j = omega arith in omega (arith, ap (λ (t : ℕ). t * x.low) h)
    by_sign zero zero e f = absurd (n (omega arith))

pub positive-inv : (x : SignedFraction) → PositiveSigned x → PositiveSigned (signed-inv x)
positive-inv x p = by_sign (x.plus - x.minus) (x.minus - x.plus) refl
  where
    by_sign : (i j : ℕ) → x.plus - x.minus ≡ i → PositiveSigned (reciprocal i j x.low)
    by_sign (suc i) j e = x.above_zero
    by_sign zero j e = absurd (omega arith)

-- ZERO: what is added is what is taken away, and so of every fraction equal to it
zero-back : (x y : SignedFraction) → EqualSigned x y → x.plus ≡ x.minus → y.plus ≡ y.minus
zero-back x y h e = eq_of_mul-eq-mul_right x.low x.above_zero _ _ (omega (arith, h, ap (λ (t : ℕ). t * y.low) e))

pub zero-equal : (x y : SignedFraction) → EqualSigned x y → eqb x.plus x.minus ≡ eqb y.plus y.minus
zero-equal x y h = by (eqb x.plus x.minus) refl
  where
    by : (t : Bool) → eqb x.plus x.minus ≡ t → t ≡ eqb y.plus y.minus
    by true e = sym (eq-eqb y.plus y.minus (zero-back x y h (eqb-true x.plus x.minus e)))
    by false e = sym (ne_eqb y.plus y.minus (λ f. eqb-false x.plus x.minus e (zero-back y x (sym h) f)))
