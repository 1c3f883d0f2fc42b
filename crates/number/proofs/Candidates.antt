-- A result that was rounded in any direction, the exact fraction, and another number m × 2 ^ (i - j), over one denominator and in places of the one and the
-- other (`Placed`). Either the exact fraction is zero, and so is the result, or every other number is so placed (`rounds-placed`).
use mathlib.Core.Path.{◌≡◌, refl, sym, ap, ◌∙◌, subst}
use mathlib.Core.Logic.{◌⊎◌, inl, inr}
use Prim.Native.Nat.{ℕ, zero, suc, ◌+◌, ◌-◌, ◌*◌, ◌%◌, ◌^◌, ◌≤◌, ◌<◌}
use native.Mathlib.Nat.{zero-mul, mul-pos, eq_of_mul-eq-mul_right}
use native.Mathlib.Decide.{dec_le}
use native.Mathlib.Omega.{arith}
use lib.Pow.{pow_pos, pow-add}
use Rattle.fraction.specs.Fraction.{Fraction}
use Rattle.number.proofs.Rounding.{round-represents, round-zero, dropped, scaled-low}
use Rattle.number.proofs.Value.{scale, scale-positive, scale-is, Over, value-over, Rounds}
use Rattle.number.specs.Direction.{whole_by}
use Rattle.number.specs.Nearest.{float}
use Rattle.number.specs.Number.{bias, round_by, value}
use Rattle.number.specs.declared.Direction.{Direction}
use Rattle.number.specs.declared.Number.{Number}

-- a place F is a whole number of places E, or a part of one
pub data Place (E F : ℕ) : Type 0 where
  coarse : (t : ℕ) → F ≡ E * 2 ^ t → Place E F
  fine : (t : ℕ) → E ≡ F * 2 ^ suc t → Place E F

-- over S: the exact q is N / D last places E of the result r, which takes a whole number of them; the other number is m places F
pub record Placed (w : Direction) (q : Fraction) (r : Number) (m i j : ℕ) : Type 0 where
  pub N : ℕ
  pub D : ℕ
  pub E : ℕ
  pub F : ℕ
  pub S : ℕ
  pub divisor : 0 < D
  pub low : 2 ^ 31 * D ≤ N
  pub last : 0 < E
  pub others : 0 < F
  pub positive : 0 < S
  pub result : Over S (value r) (whole_by w N D * D * E)
  pub exact : Over S q (N * E)
  pub other : Over S (float m i j) (m * D * F)
  pub place : Place E F
  pub even : whole_by w N D % 2 ≡ 0 → r.m % 2 ≡ 0

-- ---- one rounding, of n / d at exponent x, not zero
module _ (w : Direction) (n d x : ℕ) (pn : 0 < n) (pd : 0 < d) (half : d ≤ 2 * n) (hx : 32 ≤ x) where
  abbrev k : ℕ
  k = dropped n d x pn pd half

  -- the exponent of the last place
  abbrev y : ℕ
  y = x + k - 32

  place_of : (i j : ℕ) → Place (2 ^ y * 2 ^ j) (2 ^ i * scale)
  place_of i j = go (dec_le (y + j) (i + bias))
    where
      go : Dec (y + j ≤ i + bias) → Place (2 ^ y * 2 ^ j) (2 ^ i * scale)
      go (yes l) =
          let t : ℕ = i + bias - (y + j) in
          let e : y + j + t ≡ i + bias = omega arith in
          coarse t (scale-is i (y + j + t) e ∙ pow-add 2 (y + j) t ∙ ap (λ (z : ℕ). z * 2 ^ t) (pow-add 2 y j))
      go (no l) =
          let t : ℕ = y + j - (i + bias) - 1 in
          let e : y + j ≡ i + bias + suc t = omega arith in
          fine t
          (sym (pow-add 2 y j) ∙ ap (λ (z : ℕ). 2 ^ z) e ∙ pow-add 2 (i + bias) (suc t)
          ∙ ap (λ (z : ℕ). z * 2 ^ suc t) (sym (scale-is i (i + bias) refl)))

  nonzero-placed : (q : Fraction) → Over (d * scale) q (n * 2 ^ x) → (m i j : ℕ) → Placed w q (round_by w n d x) m i j
  nonzero-placed q o m i j =
      let R = round_by w n d x in
      let D : ℕ = d * 2 ^ k in
      let p_d : 0 < D = mul-pos pd (pow_pos k) in
      let g : y + 32 ≡ x + k = omega arith in
      let e : 2 ^ y * 2 ^ 32 ≡ 2 ^ x * 2 ^ k = sym (pow-add 2 y 32) ∙ ap (λ (z : ℕ). 2 ^ z) g ∙ pow-add 2 x k in
      let r = round-represents n d x pn pd half w in
      record {
        N = n * 2 ^ 32;
        D = D;
        E = 2 ^ y * 2 ^ j;
        F = 2 ^ i * scale;
        S = D * scale * 2 ^ j;
        divisor = p_d;
        low = scaled-low n d x pn pd half;
        last = mul-pos (pow_pos y) (pow_pos j);
        others = mul-pos (pow_pos i) scale-positive;
        positive = mul-pos (mul-pos p_d scale-positive) (pow_pos j);
        result = omega (arith, ap (λ (z : ℕ). z * (D * 2 ^ j)) (value-over R), ap (λ (z : ℕ). z * ((value R).low * D * 2 ^ j)) r.same);
        exact = omega (arith, ap (λ (z : ℕ). z * (2 ^ k * 2 ^ j)) o, ap (λ (z : ℕ). n * 2 ^ j * q.low * z) e);
        other = omega arith;
        place = place_of i j;
        even = r.even;
      }

-- ---- r is q rounded once
-- a fraction of which a multiple is zero
top-zero : (s : ℕ) (q : Fraction) → 0 < s → Over s q 0 → q.top ≡ 0
top-zero s q p o = eq_of_mul-eq-mul_right s p q.top 0 (omega arith)

-- the exact fraction is zero, and so is the result
abbrev pub BothZero : Fraction → Number → Type 0
BothZero q r = (q.top ≡ 0) × (r.m ≡ 0)

pub rounds-placed : {w : Direction} {q : Fraction} {r : Number} → Rounds w q r → BothZero q r ⊎ ((m i j : ℕ) → Placed w q r m i j)
rounds-placed {w} {q} {r} h = go h.n refl
  where
    go : (n : ℕ) → h.n ≡ n → BothZero q r ⊎ ((m i j : ℕ) → Placed w q r m i j)
    go zero e = inl (
      top-zero (h.d * scale) q (mul-pos h.divisor scale-positive)
          (h.exact ∙ ap (λ (n : ℕ). n * 2 ^ h.x * q.low) e ∙ ap (λ (k : ℕ). k * q.low) (zero-mul (2 ^ h.x))),
      ap (λ (r : Number). r.m) (sym h.result ∙ ap (λ (n : ℕ). round_by w n h.d h.x) e ∙ round-zero w h.d h.x),
    )
    go (suc n) e = inr (λ m i j.
        subst (λ (r : Number). Placed w q r m i j) h.result
        (nonzero-placed w h.n h.d h.x (omega arith) h.divisor (h.half (omega arith)) h.start q h.exact m i j))
