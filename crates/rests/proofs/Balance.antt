-- THE LOG BALANCES: `balanced`, what is promised of each operation on positive numbers. All of it follows from the whole numbers p and q of an operation
-- (`Works`): result and rest add up (`adds-up`), no other rest does (`only-rest`), and the rest's sign is the side on which the result lies (`side`, and of a
-- quotient `rounded-up`). What is answered is small (`rounded-small`).
use mathlib.Core.Path.{◌≡◌, refl, sym, ap, ap₂, ◌∙◌, subst}
use mathlib.Core.Bool.{true}
use mathlib.Core.Logic.{◌↔◌}
use Prim.Native.Nat.{ℕ, zero, suc, ◌+◌, ◌-◌, ◌*◌, ◌^◌, ◌<◌}
use native.Mathlib.Nat.{mul-pos, eq_of_mul-eq-mul_right, mul-lt-mul_of_pos_right, lt_of_mul-lt-mul_right}
use native.Mathlib.Omega.{arith}
use lib.IntN.{ℤ}
use lib.Pow.{pow_pos}
use Rattle.fraction.specs.Fraction.{Fraction, fraction_sum, fraction_product}
use Rattle.fraction.specs.SignedFraction.{SignedFraction, EqualSigned, PositiveSigned, signed, signed_add, signed_mul, signed-inv, reciprocal}
use Rattle.fraction.specs.SignedFractionLaws.{equal-trans}
use Rattle.number.proofs.Reach.{ranged-sum, ranged-product, ranged-quotient}
use Rattle.number.proofs.Value.{scale, scale-positive, Over, value-over}
use Rattle.number.specs.Integer.{is_negative}
use Rattle.number.specs.Number.{bias, value, sum_of, product_of, quotient_of}
use Rattle.number.specs.declared.Direction.TheVariants.{Nearest}
use Rattle.number.specs.declared.Number.{Number}
use Rattle.rests.specs.Rest.{sum_rest, product_rest, quotient_rest, sum_rounded, product_rounded, quotient_rounded, worked_by}
use Rattle.rests.specs.Rest.{rest_integer, rest_exponent, PositivePair, Small}
use Rattle.rests.specs.Balance.{dyadic, OddOrNone, BelowSigned, ExactRest, covered, Balanced}
use Rattle.rests.specs.declared.Operator.{Operator}
use Rattle.rests.specs.declared.Operator.TheVariants.{Add, Multiply, Divide}
use Rattle.rests.specs.declared.Rest.{Rest}
use Rattle.rests.specs.declared.Rounded.{Rounded}
use Rattle.rests.proofs.Parts.{OddRest, plus_odd, minus_odd, plus_part, minus_part, rest-odd, rest-sign, rest-at-most, rest-place, rest-parts}
use Rattle.rests.proofs.Dyadic.{dyadic-unique, rest-value, rest-size, rest-form, rest-negative}
use Rattle.rests.proofs.Whole.{Works}
use Rattle.rests.proofs.Sums.{sum-works}
use Rattle.rests.proofs.Products.{product-works, quotient-works}

-- ---- fractions over one denominator s: f is Z, e is E, and a rest's parts are P and M
left-side : (ft fl el p l Z P s : ℕ) → ft * s ≡ Z * fl → p * s ≡ P * l → ((ft * l + p * fl) * el + 0 * (fl * l)) * s ≡ (Z + P) * (fl * l * el)
left-side ft fl el p l Z P s f u = omega (arith, ap (λ (z : ℕ). z * (l * el)) f, ap (λ (z : ℕ). z * (fl * el)) u)

right_side : (et fl el m l E M s : ℕ) → et * s ≡ E * el → m * s ≡ M * l → (et * (fl * l) + (0 * l + m * fl) * el) * s ≡ (E + M) * (fl * l * el)
right_side et fl el m l E M s e v = omega (arith, ap (λ (z : ℕ). z * (fl * l)) e, ap (λ (z : ℕ). z * (fl * el)) v)

-- n × 2 ^ (x - bias), over the denominator of numbers
scaled-over : (n x : ℕ) → n * 2 ^ (x - bias) * scale ≡ n * 2 ^ x * 2 ^ (bias - x)
unfolding value
scaled-over n x = value-over (record { m = n; x = x })

-- f and a rest are e, by whole numbers
parts_add : (f e : Fraction) (Z E : ℕ) → Over scale f Z → Over scale e E → (t : Rest) → Z + plus_part t ≡ E + minus_part t
    → EqualSigned (signed_add (signed f) (dyadic (rest_integer t) (rest_exponent t))) (signed e)
parts_add f e Z E u v t h =
    rw (rest-value t)
    (eq_of_mul-eq-mul_right scale scale-positive _ _
    (left-side f.top f.low e.low _ l Z (plus_part t) scale u (scaled-over (plus_odd t) t.x) ∙ ap (λ (z : ℕ). z * (f.low * l * e.low)) h
    ∙ sym (right_side e.top f.low e.low _ l E (minus_part t) scale v (scaled-over (minus_odd t) t.x))))
  where
    l : ℕ
    l = 2 ^ (bias - t.x)

-- e is p and f is q at exponent x
below-over : (e f : Fraction) (p q x : ℕ) → Over scale e (p * 2 ^ x) → Over scale f (q * 2 ^ x) → (p < q) ↔ BelowSigned (signed e) (signed f)
below-over e f p q x u v = (
  λ h. lt_of_mul-lt-mul_right scale (omega (arith, mul-lt-mul_of_pos_right h (mul-pos (pow_pos x) (mul-pos e.above_zero f.above_zero)), ue, vf)),
  λ h. lt_of_mul-lt-mul_right (2 ^ x * (e.low * f.low)) (omega (arith, mul-lt-mul_of_pos_right h scale-positive, ue, vf)),
)
  where
    ue : e.top * f.low * scale ≡ p * (2 ^ x * (e.low * f.low))
    ue = omega (arith, ap (λ (z : ℕ). z * f.low) u)

    vf : f.top * e.low * scale ≡ q * (2 ^ x * (e.low * f.low))
    vf = omega (arith, ap (λ (z : ℕ). z * e.low) v)

-- what is added to both sides is taken away
add-cancel : (x y z : SignedFraction) → EqualSigned (signed_add x y) (signed_add x z) → EqualSigned y z
add-cancel x y z h = eq_of_mul-eq-mul_right (x.low * x.low) (mul-pos x.above_zero x.above_zero) _ _ (omega (arith, h))

-- sums and products of fractions with nothing taken away
signed-sum : (x y : Fraction) → signed (fraction_sum x y) ≡ signed_add (signed x) (signed y)
signed-sum x y =
    let z : 0 ≡ 0 * y.low + 0 * x.low = omega arith in
    ap (λ (m : ℕ). record { plus = (fraction_sum x y).top; minus = m; low = (fraction_sum x y).low; above_zero = (fraction_sum x y).above_zero }) z

signed_product : (x y : Fraction) → signed (fraction_product x y) ≡ signed_mul (signed x) (signed y)
signed_product x y =
    let p : x.top * y.top ≡ x.top * y.top + 0 * 0 = omega arith in
    let z : 0 ≡ x.top * 0 + 0 * y.top = omega arith in
    ap₂ (λ (p m : ℕ). record { plus = p; minus = m; low = (fraction_product x y).low; above_zero = (fraction_product x y).above_zero }) p z

-- ---- one operation: E is the exact side, F the result's, t the rest
module _ (E F : Fraction) (t : Rest) (w : Works E F t) where
  abbrev n : ℤ
  n = rest_integer t

  abbrev e : ℤ
  e = rest_exponent t

  adds-up : EqualSigned (signed_add (signed F) (dyadic n e)) (signed E)
  adds-up =
      parts_add F E (w.q * 2 ^ w.x) (w.p * 2 ^ w.x) w.result w.exact t
      (subst (λ (s : Rest). w.q * 2 ^ w.x + plus_part s ≡ w.p * 2 ^ w.x + minus_part s) (sym w.rest) (rest-parts w.p w.q w.x))

  odd-rest : OddRest t
  odd-rest = subst OddRest (sym w.rest) (rest-odd w.p w.q w.x)

  only-rest : (k f : ℤ) → OddOrNone k f → EqualSigned (signed_add (signed F) (dyadic k f)) (signed E) → (k ≡ n) × (f ≡ e)
  only-rest k f o h =
      dyadic-unique k f n e o (rest-form t odd-rest)
      (add-cancel (signed F) (dyadic k f) (dyadic n e)
      (equal-trans (signed_add (signed F) (dyadic k f)) (signed E) (signed_add (signed F) (dyadic n e)) h (sym adds-up)))

  odd-small : t.odd < 2 ^ 32
  odd-small =
      rw w.rest (omega (arith, rest-at-most w.p w.q w.x (2 ^ 32 - 1) (omega (arith, w.below)) (omega (arith, w.above))))

  place-small : t.x < 2 ^ 32
  place-small = rw w.rest (omega (arith, rest-place w.p w.q w.x w.below w.above, w.place))

  side : (is_negative n ≡ true) ↔ BelowSigned (signed E) (signed F)
  side =
      let b = below-over E F w.p w.q w.x w.exact w.result in
      let s = rest-sign w.p w.q w.x in
      let r = rest-negative t odd-rest in
      (λ h. b.0 (s.0 (ap (λ (r : Rest). r.negative) (sym w.rest) ∙ r.0 h)), λ h. r.1 (ap (λ (r : Rest). r.negative) w.rest ∙ s.1 (b.1 h)))

  settled : (E' F' : SignedFraction) → signed E ≡ E' → signed F ≡ F' → ExactRest E' F' n e
  settled E' F' g h =
      subst (λ (y : SignedFraction). ExactRest E' y n e) h
      (subst (λ (x : SignedFraction). ExactRest x (signed F) n e) g
      (record { balance = adds-up; odd = rest-form t odd-rest; negative = side; small = rw (rest-size t) odd-small; only = only-rest }))

-- THE PROMISE, of each of the three
pub balanced : (o : Operator) (a b : Number) → PositivePair a b → let r = worked_by o a b in
    Balanced o (signed (value a)) (signed (value b)) (signed (value r.number)) (rest_integer r.rest) (rest_exponent r.rest)
balanced Add a b g =
    settled (fraction_sum (value a) (value b)) (value (sum_of a b)) (sum_rest a b) (sum-works a b g) _ _ (signed-sum (value a) (value b)) refl
balanced Multiply a b g =
    settled (fraction_product (value a) (value b)) (value (product_of a b)) (product_rest a b) (product-works a b g) _ _ (signed_product (value a) (value b)) refl
balanced Divide a b g =
    settled (value a) (fraction_product (value (quotient_of a b)) (value b)) (quotient_rest a b) (quotient-works a b g) _ _ refl
    (signed_product (value (quotient_of a b)) (value b))

-- of a quotient that is: a / b < r exactly where a < r b, b being positive
pub rounded-up : (a b r : SignedFraction) → PositiveSigned b → BelowSigned a (covered Divide r b) ↔ BelowSigned (signed_mul a (signed-inv b)) r
rounded-up a b r h = go (b.plus - b.minus) (b.minus - b.plus) refl
  where
    go : (i j : ℕ) → b.plus - b.minus ≡ i → BelowSigned a (signed_mul r b) ↔ BelowSigned (signed_mul a (reciprocal i j b.low)) r
    go zero j e = absurd (omega arith)
    go (suc i) j e =
        let f : b.plus ≡ b.minus + suc i = omega arith in
        let p = ap (λ (z : ℕ). r.plus * a.low * z) f in
        let m = ap (λ (z : ℕ). r.minus * a.low * z) f in
        (λ g. omega arith, λ g. omega arith)

-- what an operation answers is small
small : (r : Rounded) (E F : Fraction) → Works E F r.rest → r.number.x < 2 ^ 32 → Small r
small r E F w h = record { exponent = h; odd = odd-small E F r.rest w; rest-exponent = place-small E F r.rest w }

pub rounded-small : (o : Operator) (a b : Number) → PositivePair a b → Small (worked_by o a b)
rounded-small Add a b g = small (sum_rounded a b) _ _ (sum-works a b g) (omega (arith, (ranged-sum Nearest g.first g.second (omega arith)).stop))
rounded-small Multiply a b g =
    small (product_rounded a b) _ _ (product-works a b g) (omega (arith, (ranged-product Nearest g.first g.second (omega arith)).stop))
rounded-small Divide a b g =
    small (quotient_rounded a b) _ _ (quotient-works a b g) (omega (arith, (ranged-quotient Nearest g.first g.second g.second-positive).stop))
