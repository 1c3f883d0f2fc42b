-- What a number stands for, over the denominator 2 ^ bias, which is kept shut and never computed: `value-over`, `value-zero`, `value-one`, `value-positive`.
-- `Rounds w q r` says that r is q rounded once in direction w: `sum-rounds`, `product-rounds` and `quotient-rounds` say it of the operations and the exact
-- fractions.
use mathlib.Core.Path.{◌≡◌, refl, sym, ap, ◌∙◌}
use mathlib.Core.Logic.{◌↔◌}
use Prim.Native.Nat.{ℕ, ◌+◌, ◌-◌, ◌*◌, ◌^◌, ◌≤◌, ◌<◌, min}
use native.Mathlib.Nat.{zero-mul, mul-pos, eq_of_mul-eq-mul_right, min-le_left, min-le_right}
use native.Mathlib.Omega.{arith}
use lib.Pow.{pow_pos, pow-add}
use Rattle.fraction.specs.Fraction.{Fraction, Same, natural, fraction_sum, fraction_product, fraction_quotient}
use Rattle.fraction.proofs.Fraction.{factor-positive, quotient-top, quotient-low}
use Rattle.number.specs.Nearest.{unrounded}
use Rattle.number.specs.Number.{bias, zero_number, one_number, round_by, value, Ranged, sum_by, product_by, quotient_by}
use Rattle.number.specs.declared.Direction.{Direction}
use Rattle.number.specs.declared.Number.{Number}

unfoldable pub scale : ℕ
scale = 2 ^ bias

pub scale-positive : 0 < scale
unfolding scale
scale-positive = pow_pos bias

pub scale-is : (x i : ℕ) → i ≡ x + bias → 2 ^ x * scale ≡ 2 ^ i
unfolding scale
scale-is x i e = sym (pow-add 2 x bias) ∙ ap (λ (k : ℕ). 2 ^ k) (sym e)

-- f is p / s
abbrev pub Over : ℕ → Fraction → ℕ → Type 0
Over s f p = f.top * s ≡ p * f.low

-- ---- numbers
places : (x : ℕ) → 2 ^ (x - bias) * scale ≡ 2 ^ x * 2 ^ (bias - x)
places x =
    let e : x + (bias - x) ≡ x - bias + bias = omega arith in
    scale-is (x - bias) (x + (bias - x)) e ∙ pow-add 2 x (bias - x)

pub value-over : (a : Number) → Over scale (value a) (a.m * 2 ^ a.x)
unfolding value
value-over a = omega (arith, ap (λ (z : ℕ). a.m * z) (places a.x))

unrounded-over : (n d x : ℕ) (p : 0 < d) → Over (d * scale) (unrounded n d x p) (n * 2 ^ x)
unrounded-over n d x p = omega (arith, ap (λ (z : ℕ). n * d * z) (places x))

pub value-zero : Same (value zero_number) (natural 0)
unfolding value
value-zero = refl

pub value-one : Same (value one_number) (natural 1)
unfolding value
value-one = refl

pub value-positive : (a : Number) → (0 < a.m) ↔ (0 < (value a).top)
unfolding value
value-positive a = (λ p. mul-pos p (pow_pos (a.x - bias)), λ p. factor-positive a.m (2 ^ (a.x - bias)) p)

pub value-top-zero : (a : Number) → a.m ≡ 0 → (value a).top ≡ 0
unfolding value
value-top-zero a e = ap (λ (z : ℕ). z * 2 ^ (a.x - bias)) e ∙ zero-mul (2 ^ (a.x - bias))

-- ---- exact results, over the denominator of what is rounded
module _ (a b : Number) where
  abbrev A : Fraction
  A = value a

  abbrev B : Fraction
  B = value b

  -- both operands brought to the lower exponent
  pub sum_over_lem : let l = min a.x b.x in Over (1 * scale) (fraction_sum (value a) (value b)) ((a.m * 2 ^ (a.x - l) + b.m * 2 ^ (b.x - l)) * 2 ^ l)
  sum_over_lem =
      let l : ℕ = min a.x b.x in
      let fa : a.x - l + l ≡ a.x = omega (arith, min-le_left a.x b.x) in
      let fb : b.x - l + l ≡ b.x = omega (arith, min-le_right a.x b.x) in
      let ea : 2 ^ (a.x - l) * 2 ^ l ≡ 2 ^ a.x = sym (pow-add 2 (a.x - l) l) ∙ ap (λ (k : ℕ). 2 ^ k) fa in
      let eb : 2 ^ (b.x - l) * 2 ^ l ≡ 2 ^ b.x = sym (pow-add 2 (b.x - l) l) ∙ ap (λ (k : ℕ). 2 ^ k) fb in
      let ga : a.m * 2 ^ a.x * (A.low * B.low) ≡ a.m * (2 ^ (a.x - l) * 2 ^ l) * (A.low * B.low) =
      ap (λ (z : ℕ). a.m * z * (A.low * B.low)) (sym ea) in
      let gb : b.m * 2 ^ b.x * (A.low * B.low) ≡ b.m * (2 ^ (b.x - l) * 2 ^ l) * (A.low * B.low) =
      ap (λ (z : ℕ). b.m * z * (A.low * B.low)) (sym eb) in
      omega (arith, ap (λ (z : ℕ). z * B.low) (value-over a), ap (λ (z : ℕ). z * A.low) (value-over b))

  pub product-over : bias ≤ a.x + b.x → Over (1 * scale) (fraction_product (value a) (value b)) (a.m * b.m * 2 ^ (a.x + b.x - bias))
  product-over h =
      let x : ℕ = a.x + b.x - bias in
      let f : a.x + b.x ≡ x + bias = omega arith in
      let e : 2 ^ x * scale ≡ 2 ^ a.x * 2 ^ b.x = scale-is x (a.x + b.x) f ∙ pow-add 2 a.x b.x in
      let g = ap (λ (z : ℕ). a.m * b.m * (A.low * B.low) * z) e in
      let v = ap (λ (z : ℕ). z * (B.top * scale)) (value-over a) in
      let w = ap (λ (z : ℕ). a.m * 2 ^ a.x * A.low * z) (value-over b) in
      eq_of_mul-eq-mul_right scale scale-positive _ _ (omega arith)

  quotient-over : b.x ≤ a.x + bias → 0 < b.m → Over (b.m * scale) (fraction_quotient (value a) (value b)) (a.m * 2 ^ (a.x + bias - b.x))
  quotient-over h p =
      let x : ℕ = a.x + bias - b.x in
      let q = (value-positive b).0 p in
      let f : x + b.x ≡ a.x + bias = omega arith in
      let e : 2 ^ x * 2 ^ b.x ≡ 2 ^ a.x * scale = sym (pow-add 2 x b.x) ∙ sym (scale-is a.x (x + b.x) f) in
      let g = ap (λ (z : ℕ). a.m * A.low * b.m * B.low * z) e in
      let v = ap (λ (z : ℕ). z * (B.low * b.m * scale)) (value-over a) in
      let w = ap (λ (z : ℕ). a.m * 2 ^ x * A.low * z) (value-over b) in
      rw (quotient-top (value a) (value b) q, quotient-low (value a) (value b) q) (eq_of_mul-eq-mul_right scale scale-positive _ _ (omega arith))

-- ---- r is the fraction q, which is n / d at exponent x, rounded once in direction w
pub record Rounds (w : Direction) (q : Fraction) (r : Number) : Type 0 where
  pub n : ℕ
  pub d : ℕ
  pub x : ℕ
  pub result : round_by w n d x ≡ r
  pub exact : Over (d * scale) q (n * 2 ^ x)
  pub divisor : 0 < d
  pub half : 0 < n → d ≤ 2 * n
  pub start : 32 ≤ x

pub unrounded-rounds : {w : Direction} (n d x : ℕ) (p : 0 < d) → (0 < n → d ≤ 2 * n) → 32 ≤ x → Rounds w (unrounded n d x p) (round_by w n d x)
unrounded-rounds n d x p h s = record { n = n; d = d; x = x; result = refl; exact = unrounded-over n d x p; divisor = p; half = h; start = s }

pub sum-rounds : {w : Direction} {r : ℕ} {a b : Number} → Ranged r a → Ranged r b → r + 64 ≤ bias
    → Rounds w (fraction_sum (value a) (value b)) (sum_by w a b)
unfolding sum_by
sum-rounds {w} {r} {a} {b} u v h =
    let l : ℕ = min a.x b.x in
    record {
      n = a.m * 2 ^ (a.x - l) + b.m * 2 ^ (b.x - l);
      d = 1;
      x = l;
      result = refl;
      exact = sum_over_lem a b;
      divisor = omega arith;
      half = λ p. omega arith;
      start = omega (arith, u.start, v.start);
    }

module _ {w : Direction} {r s : ℕ} {a b : Number} (u : Ranged r a) (v : Ranged s b) (h : r + s + 64 ≤ bias) where
  pub product-rounds : Rounds w (fraction_product (value a) (value b)) (product_by w a b)
  unfolding product_by
  product-rounds =
      let g : bias + 64 ≤ a.x + b.x = omega (arith, u.start, v.start) in
      record {
        n = a.m * b.m;
        d = 1;
        x = a.x + b.x - bias;
        result = refl;
        exact = product-over a b (omega arith);
        divisor = omega arith;
        half = λ p. omega arith;
        start = omega arith;
      }

  pub quotient-rounds : 0 < b.m → Rounds w (fraction_quotient (value a) (value b)) (quotient_by w a b)
  unfolding quotient_by
  quotient-rounds p =
      let g : b.x + 64 ≤ a.x + bias = omega (arith, u.start, v.stop) in
      record {
        n = a.m;
        d = b.m;
        x = a.x + bias - b.x;
        result = refl;
        exact = quotient-over a b (omega arith) p;
        divisor = p;
        half = λ q. omega (arith, u.low q, v.high);
        start = omega arith;
      }
