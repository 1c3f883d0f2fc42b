-- Whole numbers with a sign times powers of 2. An odd one stands for its fraction alone (`dyadic-unique`). What a number and a rest stand for, in the numbers
-- as they are answered: `number-value`, `rest-value`; a rest's sign, size and oddness by these (`rest-negative`, `rest-size`, `rest-form`).
use mathlib.Core.Path.{◌≡◌, refl, sym, ap, ap₂, ◌∙◌, subst}
use mathlib.Core.Bool.{Bool, true, false, cond, false≢true}
use mathlib.Core.Logic.{◌↔◌, inl, inr}
use Prim.Native.Nat.{ℕ, zero, suc, ◌+◌, ◌-◌, ◌*◌, ◌%◌, ◌^◌, ◌≤◌, ◌<◌}
use native.Mathlib.Nat.{mul-pos, zero-mul}
use native.Mathlib.Decide.{dec_lt}
use native.Mathlib.Omega.{arith}
use borrow.Author.Tests.{lt-ltb, le-ltb}
use lib.IntN.{ℤ, pos, negsuc, nat_abs, neg_ℤ, sub_ℕ}
use lib.Pow.{pow_pos, pow-add}
use Rattle.fraction.specs.SignedFraction.{EqualSigned, signed}
use Rattle.number.specs.Integer.{is_negative}
use Rattle.number.specs.Number.{bias, value, exponent_of}
use Rattle.number.specs.declared.Number.{Number}
use Rattle.rests.specs.Rest.{rest_integer, rest_exponent}
use Rattle.rests.specs.Balance.{plus_of, minus_of, scaled_by, dyadic, OddOrNone}
use Rattle.rests.specs.declared.Rest.{Rest}
use Rattle.rests.proofs.Odd.{odd-unique}
use Rattle.rests.proofs.Parts.{OddRest, plus_odd, minus_odd}

-- ---- exponents
pub plus-of-difference : (x y : ℕ) → plus_of (sub_ℕ x y) ≡ x - y
plus-of-difference x y = elim (dec_lt x y) [
  | yes h ↦ simp (lt-ltb x y h) (omega arith)
  | no h ↦ let l : y ≤ x = omega arith in simp (le-ltb x y l)
]

pub minus-of-difference : (x y : ℕ) → minus_of (sub_ℕ x y) ≡ y - x
minus-of-difference x y = elim (dec_lt x y) [
  | yes h ↦ simp (lt-ltb x y h) (omega arith)
  | no h ↦ let l : y ≤ x = omega arith in simp (le-ltb x y l) (omega arith)
]

same-integer : (e f : ℤ) → plus_of e + minus_of f ≡ plus_of f + minus_of e → e ≡ f
same-integer (pos a) (pos b) h = ap pos (omega arith)
same-integer (pos a) (negsuc b) h = absurd (omega arith)
same-integer (negsuc a) (pos b) h = absurd (omega arith)
same-integer (negsuc a) (negsuc b) h = let e : a ≡ b = omega arith in ap negsuc e

-- ---- an odd number with an exponent stands for its fraction alone
-- crossed: what stands for n × 2 ^ e and k × 2 ^ f, over one denominator
crossed : (n e k f : ℤ) → EqualSigned (dyadic n e) (dyadic k f) → let X = 2 ^ (plus_of e + minus_of f) in let Y = 2 ^ (plus_of f + minus_of e) in
    plus_of n * X + minus_of k * Y ≡ plus_of k * Y + minus_of n * X
unfolding dyadic
crossed n e k f h =
    let x : 2 ^ (plus_of e + minus_of f) ≡ 2 ^ plus_of e * 2 ^ minus_of f = pow-add 2 (plus_of e) (minus_of f) in
    let y : 2 ^ (plus_of f + minus_of e) ≡ 2 ^ plus_of f * 2 ^ minus_of e = pow-add 2 (plus_of f) (minus_of e) in
    rw (x, y) (omega (arith, h))

none-odd : (k : ℤ) (X Y : ℕ) → 0 < Y → nat_abs k % 2 ≡ 1 → 0 * X + minus_of k * Y ≡ plus_of k * Y + 0 * X → ⊥
none-odd (pos b) X Y p o h = let q : 0 < b * Y = mul-pos (omega arith) p in omega (arith, zero-mul X, zero-mul Y)
none-odd (negsuc b) X Y p o h = let q : 0 < suc b * Y = mul-pos (omega arith) p in omega (arith, zero-mul X, zero-mul Y)

same-odd : (n k : ℤ) (i j : ℕ) → nat_abs n % 2 ≡ 1 → nat_abs k % 2 ≡ 1 → plus_of n * 2 ^ i + minus_of k * 2 ^ j ≡ plus_of k * 2 ^ j + minus_of n * 2 ^ i
    → (n ≡ k) × (i ≡ j)
same-odd (pos a) (pos b) i j o u h =
    let s = odd-unique a b i j o u (omega (arith, zero-mul (2 ^ i), zero-mul (2 ^ j))) in
    (ap pos s.number, s.exponent)
same-odd (pos a) (negsuc b) i j o u h =
    let q : 0 < suc b * 2 ^ j = mul-pos (omega arith) (pow_pos j) in
    absurd (omega (arith, zero-mul (2 ^ i), zero-mul (2 ^ j)))
same-odd (negsuc a) (pos b) i j o u h =
    let q : 0 < suc a * 2 ^ i = mul-pos (omega arith) (pow_pos i) in
    absurd (omega (arith, zero-mul (2 ^ i), zero-mul (2 ^ j)))
same-odd (negsuc a) (negsuc b) i j o u h =
    let s = odd-unique (suc a) (suc b) i j o u (omega (arith, zero-mul (2 ^ i), zero-mul (2 ^ j))) in
    let e : a ≡ b = omega (arith, s.number) in
    (ap negsuc e, s.exponent)

-- an odd number stands for more than none
not_none : (n e k f : ℤ) → n ≡ pos 0 → nat_abs k % 2 ≡ 1 → EqualSigned (dyadic n e) (dyadic k f) → ⊥
not_none n e k f z u h =
    let X : ℕ = 2 ^ (plus_of e + minus_of f) in
    let Y : ℕ = 2 ^ (plus_of f + minus_of e) in
    none-odd k X Y (pow_pos (plus_of f + minus_of e)) u
    (subst (λ (m : ℤ). plus_of m * X + minus_of k * Y ≡ plus_of k * Y + minus_of m * X) z (crossed n e k f h))

pub dyadic-unique : (n e k f : ℤ) → OddOrNone n e → OddOrNone k f → EqualSigned (dyadic n e) (dyadic k f) → (n ≡ k) × (e ≡ f)
dyadic-unique n e k f (inl z) (inl w) h = (z.0 ∙ sym w.0, z.1 ∙ sym w.1)
dyadic-unique n e k f (inl z) (inr u) h = absurd (not_none n e k f z.0 u h)
dyadic-unique n e k f (inr o) (inl w) h = absurd (not_none k f n e w.0 o (sym h))
dyadic-unique n e k f (inr o) (inr u) h =
    let s = same-odd n k (plus_of e + minus_of f) (plus_of f + minus_of e) o u (crossed n e k f h) in
    (s.0, same-integer e f s.1)

-- ---- numbers
pub number-value : (a : Number) → dyadic (pos a.m) (exponent_of a) ≡ signed (value a)
unfolding dyadic value
number-value a =
    ap₂ (λ (i j : ℕ). scaled_by a.m 0 i j) (plus-of-difference a.x bias) (minus-of-difference a.x bias)
    ∙ ap (λ (z : ℕ). record { plus = a.m * 2 ^ (a.x - bias); minus = z; low = 2 ^ (bias - a.x); above_zero = pow_pos (bias - a.x) })
    (zero-mul (2 ^ (a.x - bias)))

-- ---- rests
plus-integer : (s : Bool) (n : ℕ) → plus_of (cond s (neg_ℤ (pos n)) (pos n)) ≡ cond s 0 n
plus-integer true zero = refl
plus-integer true (suc n) = refl
plus-integer false n = refl

minus-integer : (s : Bool) (n : ℕ) → minus_of (cond s (neg_ℤ (pos n)) (pos n)) ≡ cond s n 0
minus-integer true zero = refl
minus-integer true (suc n) = refl
minus-integer false n = refl

size-integer : (s : Bool) (n : ℕ) → nat_abs (cond s (neg_ℤ (pos n)) (pos n)) ≡ n
size-integer true zero = refl
size-integer true (suc n) = refl
size-integer false n = refl

module _ (t : Rest) where
  pub rest-value : dyadic (rest_integer t) (rest_exponent t) ≡ scaled_by (plus_odd t) (minus_odd t) (t.x - bias) (bias - t.x)
  unfolding dyadic
  rest-value =
      ap₂ (λ (p m : ℕ). scaled_by p m (plus_of (rest_exponent t)) (minus_of (rest_exponent t))) (plus-integer t.negative t.odd)
      (minus-integer t.negative t.odd)
      ∙ ap₂ (λ (i j : ℕ). scaled_by (plus_odd t) (minus_odd t) i j) (plus-of-difference t.x bias) (minus-of-difference t.x bias)

  pub rest-size : nat_abs (rest_integer t) ≡ t.odd
  rest-size = size-integer t.negative t.odd

  pub rest-form : OddRest t → OddOrNone (rest_integer t) (rest_exponent t)
  rest-form (inl e) = inl (ap rest_integer e, ap rest_exponent e)
  rest-form (inr o) = inr (ap (λ (n : ℕ). n % 2) rest-size ∙ o)

  pub rest-negative : OddRest t → (is_negative (rest_integer t) ≡ true) ↔ (t.negative ≡ true)
  rest-negative o = (there t.negative t.odd, back o)
    where
      there : (s : Bool) (n : ℕ) → is_negative (cond s (neg_ℤ (pos n)) (pos n)) ≡ true → s ≡ true
      there true n h = refl
      there false n h = absurd (false≢true h)

      turned : (s : Bool) (n : ℕ) → n % 2 ≡ 1 → s ≡ true → is_negative (cond s (neg_ℤ (pos n)) (pos n)) ≡ true
      turned true zero u h = absurd (omega arith)
      turned true (suc n) u h = refl
      turned false n u h = absurd (false≢true h)

      back : OddRest t → t.negative ≡ true → is_negative (rest_integer t) ≡ true
      back (inl e) h = absurd (false≢true (sym (ap (λ (r : Rest). r.negative) e) ∙ h))
      back (inr u) h = turned t.negative t.odd u h
