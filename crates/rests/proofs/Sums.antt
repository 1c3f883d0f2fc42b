-- Sums by whole numbers (`sum-works`). Where the second exponent is not above the first, the result is no further from the sum than the first operand is
-- (`nearer`), so it lies between the first operand and twice the second more (`sum-above`, `sum_below`). For the code: what the result has more than the first
-- operand, taken off the second, is the rest (`sum-rest`, Fast2Sum), and far apart the second is the rest (`far-rest`).
use mathlib.Core.Bool.{false}
use mathlib.Core.Path.{◌≡◌, refl, sym, ap, ◌∙◌, subst}
use Prim.Native.Nat.{ℕ, ◌+◌, ◌-◌, ◌*◌, ◌^◌, ◌≤◌, ◌<◌, min}
use native.Mathlib.Nat.{le_of_mul-le-mul_right, min-eq_right, min_comm, sub_self, mul-one, mul_assoc, add_comm}
use native.Mathlib.Decide.{dec_le}
use native.Mathlib.Omega.{arith}
use lib.Pow.{pow_pos, pow-add, pow_mono}
use Rattle.fraction.specs.Fraction.{fraction_sum}
use Rattle.number.proofs.Exact.{sum_fits, sum-far}
use Rattle.number.proofs.Nearest.{over-near, sum-nearest}
use Rattle.number.proofs.Reach.{sum-spans}
use Rattle.number.proofs.Value.{scale, scale-positive, Over, value-over, sum_over_lem}
use Rattle.number.proofs.Zero.{sum_is, sum_comm}
use Rattle.number.specs.Nearest.{gap}
use Rattle.number.specs.Number.{bias, reach, value, sum_of}
use Rattle.number.specs.Signed.{integer_at}
use Rattle.number.specs.declared.Direction.TheVariants.{Nearest}
use Rattle.number.specs.declared.Number.{Number}
use Rattle.rests.specs.Rest.{odd_part, rest_of, sum_rest, PositivePair}
use Rattle.rests.proofs.Parts.{rest-not-above, rest-shifted}
use Rattle.rests.proofs.Whole.{lowered, once, Works}

-- ---- sums
-- the first has the higher exponent, or the same
module _ (a b : Number) (g : PositivePair a b) (h : b.x ≤ a.x) where
  abbrev k : ℕ
  k = a.x - b.x

  abbrev r : Number
  r = sum_of a b

  -- the exact sum at the lower exponent, and the result
  abbrev n : ℕ
  n = a.m * 2 ^ k + b.m

  abbrev R : ℕ
  R = integer_at b.x r

  sum-rest-is : sum_rest a b ≡ rest_of n R b.x
  unfolding sum_rest
  sum-rest-is = rw (min-eq_right h, sub_self b.x, mul-one b.m) refl

  exact : Over scale (fraction_sum (value a) (value b)) (n * 2 ^ b.x)
  exact = once (fraction_sum (value a) (value b)) (n * 2 ^ b.x) (rw (min-eq_right h, sub_self b.x, mul-one b.m) at (sum_over_lem a b))

  pub sum-start : a.x ≤ r.x
  sum-start = (sum-spans Nearest reach a b g.first g.second g.first-positive (omega arith) h).start

  pub sum-stop : r.x ≤ a.x + 2
  sum-stop = (sum-spans Nearest reach a b g.first g.second g.first-positive (omega arith) h).stop

  result-places : R * 2 ^ b.x ≡ r.m * 2 ^ r.x
  result-places = lowered b.x r (omega (arith, sum-start))

  -- the first is no nearer to the sum than the result is
  nearer : gap (R * 2 ^ b.x) (n * 2 ^ b.x) ≤ gap (a.m * 2 ^ k * 2 ^ b.x) (n * 2 ^ b.x)
  unfolding value
  nearer =
      rw (result-places, lowered b.x a h)
      (over-near scale (r.m * 2 ^ r.x) (n * 2 ^ b.x) (a.m * 2 ^ a.x) (value r) (fraction_sum (value a) (value b)) (value a) scale-positive
      (value-over r) exact (value-over a)
      ((sum-nearest g.first g.second (omega arith)).best a.m (a.x - bias) (bias - a.x) g.first.high))

  sum-above : a.m * 2 ^ k ≤ R
  sum-above = le_of_mul-le-mul_right {k = 2 ^ b.x} (omega (arith, nearer)) (pow_pos b.x)

  sum_below : R ≤ n + b.m
  sum_below = le_of_mul-le-mul_right {k = 2 ^ b.x} (omega (arith, nearer)) (pow_pos b.x)

  ordered-works : Works (fraction_sum (value a) (value b)) (value r) (sum_rest a b)
  ordered-works = record {
    p = n;
    q = R;
    x = b.x;
    rest = sum-rest-is;
    exact = exact;
    result = subst (Over scale (value r)) (sym result-places) (value-over r);
    below = omega (arith, sum-above, g.second.high);
    above = omega (arith, sum_below, g.second.high);
    place = omega (arith, g.second.stop);
  }

  -- for the code: what the result has more than the first, in units of the first's last place
  abbrev more : ℕ
  more = r.m * 2 ^ (r.x - a.x) - a.m

  places : R ≡ r.m * 2 ^ (r.x - a.x) * 2 ^ k
  places =
      let e : r.x - b.x ≡ r.x - a.x + k = omega (arith, sum-start) in
      ap (λ (i : ℕ). r.m * 2 ^ i) e ∙ ap (λ (z : ℕ). r.m * z) (pow-add 2 (r.x - a.x) k) ∙ sym (mul_assoc r.m (2 ^ (r.x - a.x)) (2 ^ k))

  pub more-fits : a.m ≤ r.m * 2 ^ (r.x - a.x)
  more-fits = le_of_mul-le-mul_right {k = 2 ^ k} (rw places at sum-above) (pow_pos k)

  pub more-word : r.m * 2 ^ (r.x - a.x) < 2 ^ 64
  more-word =
      let s = sum-spans Nearest reach a b g.first g.second g.first-positive (omega arith) h in
      let l : r.x - a.x ≤ 32 = omega (arith, s.stop) in
      (sum_fits r.m 0 (2 ^ (r.x - a.x)) s.high (omega arith) (pow_mono {i = r.x - a.x} {j = 32} l)).0

  more-is : a.m * 2 ^ k + more * 2 ^ k ≡ R
  more-is =
      let e : a.m + more ≡ r.m * 2 ^ (r.x - a.x) = omega (arith, more-fits) in
      omega (arith, ap (λ (z : ℕ). z * 2 ^ k) e, places)

  pub more-small : more * 2 ^ k ≤ b.m + b.m
  more-small = omega (arith, more-is, sum_below)

  pub sum-rest : sum_rest a b ≡ rest_of b.m (more * 2 ^ k) b.x
  sum-rest = sum-rest-is ∙ ap (λ (q : ℕ). rest_of n q b.x) (sym more-is) ∙ rest-shifted (a.m * 2 ^ k) b.m (more * 2 ^ k) b.x

  -- more than 32 places apart the result is the first, and the rest is the second
  pub far-rest : 32 < k → sum_rest a b ≡ odd_part false b.m b.x
  far-rest f =
      let lo : 2 ^ 33 ≤ 2 ^ k = pow_mono {i = 33} {j = k} (omega arith) in
      let e : r ≡ record { m = a.m; x = b.x + k } =
      sum_is Nearest a b h ∙ sum-far a.m b.m b.x k (omega (arith, g.second.high)) (g.first.low g.first-positive) g.first.high in
      let s : b.x + k - b.x ≡ k = omega arith in
      let q : R ≡ a.m * 2 ^ k + 0 = ap (integer_at b.x) e ∙ ap (λ (i : ℕ). a.m * 2 ^ i) s ∙ omega arith in
      let d : b.m - 0 ≡ b.m = omega arith in
      sum-rest-is ∙ ap (λ (q : ℕ). rest_of n q b.x) q ∙ rest-shifted (a.m * 2 ^ k) b.m 0 b.x ∙ rest-not-above b.m 0 b.x (omega arith)
      ∙ ap (λ (p : ℕ). odd_part false p b.x) d

-- the operands of a sum exchanged
pub rest-comm : (a b : Number) → sum_rest a b ≡ sum_rest b a
unfolding sum_rest
rest-comm a b =
    rw (min_comm a.x b.x, sum_comm Nearest a b)
    (ap (λ (p : ℕ). rest_of p (integer_at (min b.x a.x) (sum_of b a)) (min b.x a.x))
    (add_comm (integer_at (min b.x a.x) a) (integer_at (min b.x a.x) b)))

-- ---- sums, whichever exponent is higher
pub sum-works : (a b : Number) → PositivePair a b → Works (fraction_sum (value a) (value b)) (value (sum_of a b)) (sum_rest a b)
sum-works a b g = elim (dec_le b.x a.x) [
  | yes h ↦ ordered-works a b g h
  | no h ↦
      let w = ordered-works b a (exchanged g) (omega arith) in
      record {
        p = w.p;
        q = w.q;
        x = w.x;
        rest = rest-comm a b ∙ w.rest;
        exact = omega (arith, w.exact);
        result = subst (λ (r : Number). Over scale (value r) (w.q * 2 ^ w.x)) (sum_comm Nearest b a) w.result;
        below = w.below;
        above = w.above;
        place = w.place;
      }
]
  where
    exchanged : PositivePair a b → PositivePair b a
    exchanged g = record { first = g.second; second = g.first; first-positive = g.second-positive; second-positive = g.first-positive }
