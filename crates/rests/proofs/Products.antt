-- Products and quotients by whole numbers (`product-works`, `quotient-works`): both sides are words, and one rounding keeps them close.
use mathlib.Core.Path.{◌≡◌, refl, sym, ap, ◌∙◌, subst}
use Prim.Native.Nat.{ℕ, ◌+◌, ◌-◌, ◌*◌, ◌^◌, ◌≤◌, ◌<◌}
use native.Mathlib.Nat.{mul-le-mul, le_of_mul-le-mul_right, mul-one}
use native.Mathlib.Omega.{arith}
use lib.Pow.{pow_pos, pow-add, pow_mono}
use Rattle.fraction.specs.Fraction.{Fraction, natural, fraction_product}
use Rattle.fraction.specs.Within.{Within}
use Rattle.fraction.proofs.Within.{within-one, within-scaled}
use Rattle.number.proofs.Digits.{product-low}
use Rattle.number.proofs.Exact.{sum_fits, product-fits}
use Rattle.number.proofs.Reach.{product-spans, quotient-spans}
use Rattle.number.proofs.Rounding.{round-near}
use Rattle.number.proofs.Value.{scale, scale-positive, scale-is, Over, value-over, product-over}
use Rattle.number.specs.Number.{bias, value, product_of, quotient_of, product_by, quotient_by}
use Rattle.number.specs.Signed.{integer_at}
use Rattle.number.specs.declared.Direction.TheVariants.{Nearest}
use Rattle.number.specs.declared.Number.{Number}
use Rattle.rests.specs.Rest.{product_rest, quotient_rest, PositivePair}
use Rattle.rests.proofs.Whole.{lowered, once, Works, apart}

-- ---- products
module _ (a b : Number) (g : PositivePair a b) where
  abbrev z : Number
  z = product_of a b

  abbrev y : ℕ
  y = a.x + b.x - bias

  pub product-start : y + 31 ≤ z.x
  product-start = (product-spans Nearest g.first g.second (omega arith) g.first-positive g.second-positive).start

  pub product-stop : z.x ≤ y + 33
  product-stop = (product-spans Nearest g.first g.second (omega arith) g.first-positive g.second-positive).stop

  low : 2 ^ 62 ≤ a.m * b.m
  low = product-low a.m b.m (g.first.low g.first-positive) (g.second.low g.second-positive)

  product_high : a.m * b.m ≤ (2 ^ 32 - 1) * (2 ^ 32 - 1)
  product_high =
      let ha : a.m ≤ 2 ^ 32 - 1 = omega (arith, g.first.high) in
      let hb : b.m ≤ 2 ^ 32 - 1 = omega (arith, g.second.high) in
      mul-le-mul ha hb

  product-places : integer_at y z * 2 ^ y ≡ z.m * 2 ^ z.x
  product-places = lowered y z (omega (arith, product-start))

  product-round : Within 1 (natural (z.m * 2 ^ z.x * 1)) (natural (a.m * b.m * 2 ^ y))
  unfolding product_by
  product-round =
      round-near (a.m * b.m) 1 y (omega (arith, low)) (omega arith) (omega (arith, low)) Nearest (omega (arith, g.first.start, g.second.start))

  product-near : Within 1 (natural (integer_at y z * 2 ^ y)) (natural (a.m * b.m * 2 ^ y))
  product-near = rw product-places (rw mul-one at product-round)

  -- the result's side is a word
  pub result_fits : integer_at y z < 2 ^ 64
  result_fits =
      let n = within-one product-near in
      let l : (2 ^ 32 - 1) * integer_at y z ≤ 2 ^ 32 * (a.m * b.m) = le_of_mul-le-mul_right {k = 2 ^ y} (omega (arith, n.1)) (pow_pos y) in
      omega (arith, product_high)

  pub product-works : Works (fraction_product (value a) (value b)) (value z) (product_rest a b)
  unfolding product_rest
  product-works =
      let c = apart (a.m * b.m) (integer_at y z) (2 ^ y) product-near (pow_pos y) (omega (arith, product_high)) result_fits in
      record {
        p = a.m * b.m;
        q = integer_at y z;
        x = y;
        rest = refl;
        exact = once (fraction_product (value a) (value b)) (a.m * b.m * 2 ^ y) (product-over a b (omega (arith, g.first.start, g.second.start)));
        result = subst (Over scale (value z)) (sym product-places) (value-over z);
        below = c.0;
        above = c.1;
        place = omega (arith, g.first.stop, g.second.stop);
      }

-- ---- quotients
module _ (a b : Number) (g : PositivePair a b) where
  abbrev c : Number
  c = quotient_of a b

  -- the exponent of the dividend's side and of result times divisor
  abbrev v : ℕ
  v = c.x + b.x - bias

  quotient-start : a.x + bias ≤ c.x + b.x + 32
  quotient-start =
      let s = quotient-spans Nearest g.first g.second g.first-positive g.second-positive in
      omega (arith, s.start, g.first.start, g.second.stop)

  pub quotient-stop : c.x + b.x + 31 ≤ a.x + bias
  quotient-stop =
      let s = quotient-spans Nearest g.first g.second g.first-positive g.second-positive in
      omega (arith, s.stop, g.first.start, g.second.stop)

  pub quotient-under : bias ≤ c.x + b.x
  quotient-under = omega (arith, quotient-start, g.first.start)

  pub quotient-shift : (v + 31 ≤ a.x) × (a.x ≤ v + 32)
  quotient-shift = (omega (arith, quotient-stop, quotient-under), omega (arith, quotient-start, quotient-under))

  dividend-places : integer_at v a * 2 ^ v ≡ a.m * 2 ^ a.x
  dividend-places = lowered v a (omega (arith, quotient-shift.0))

  pub dividend-fits : integer_at v a < 2 ^ 64
  dividend-fits =
      let l : a.x - v ≤ 32 = omega (arith, quotient-shift.1) in
      (sum_fits a.m 0 (2 ^ (a.x - v)) g.first.high (omega arith) (pow_mono {i = a.x - v} {j = 32} l)).0

  pub divisor-fits : c.m * b.m < 2 ^ 64
  divisor-fits =
      product-fits c.m b.m (quotient-spans Nearest g.first g.second g.first-positive g.second-positive).high g.second.high

  -- the one rounding, of the quotient of the mantissas at exponent w
  abbrev w : ℕ
  w = a.x + bias - b.x

  quotient-round : Within 1 (natural (c.m * 2 ^ c.x * b.m)) (natural (a.m * 2 ^ w))
  unfolding quotient_by
  quotient-round =
      let la : 2 ^ 31 ≤ a.m = g.first.low g.first-positive in
      let hb : b.m < 2 ^ 32 = g.second.high in
      round-near a.m b.m w g.first-positive g.second-positive (omega arith) Nearest (omega (arith, g.first.start, g.second.stop))

  -- both sides times 2 ^ b.x, over the scale
  quotient-near : Within 1 (natural (c.m * b.m * 2 ^ v)) (natural (integer_at v a * 2 ^ v))
  quotient-near =
      let e : c.x + b.x ≡ v + bias = omega (arith, quotient-under) in
      let f : w + b.x ≡ a.x + bias = omega (arith, g.first.start, g.second.stop) in
      let l : 2 ^ c.x * 2 ^ b.x ≡ 2 ^ v * scale = sym (pow-add 2 c.x b.x) ∙ sym (scale-is v (c.x + b.x) e) in
      let r : 2 ^ w * 2 ^ b.x ≡ 2 ^ a.x * scale = sym (pow-add 2 w b.x) ∙ sym (scale-is a.x (w + b.x) f) in
      let q : Fraction = record { top = 2 ^ b.x; low = scale; above_zero = scale-positive } in
      rw dividend-places
      (within-scaled q (natural (c.m * b.m * 2 ^ v)) (natural (a.m * 2 ^ a.x)) quotient-round
      (omega (arith, ap (λ (z : ℕ). c.m * b.m * z) l)) (omega (arith, ap (λ (z : ℕ). a.m * z) r)))

  pub quotient-works : Works (value a) (fraction_product (value c) (value b)) (quotient_rest a b)
  unfolding quotient_rest
  quotient-works =
      let k = apart (integer_at v a) (c.m * b.m) (2 ^ v) quotient-near (pow_pos v) dividend-fits divisor-fits in
      record {
        p = integer_at v a;
        q = c.m * b.m;
        x = v;
        rest = refl;
        exact = subst (Over scale (value a)) (sym dividend-places) (value-over a);
        result = once (fraction_product (value c) (value b)) (c.m * b.m * 2 ^ v) (product-over c b quotient-under);
        below = k.0;
        above = k.1;
        place = omega (arith, quotient-shift.0, g.first.stop);
      }
