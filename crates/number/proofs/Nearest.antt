-- The rounding as a property: of all numbers with 32 bits, at any exponent, none is nearer to the exact result, and a tie goes to the even mantissa.
-- `round-nearest` for every rounding; `sum-nearest`, `product-nearest` and `quotient-nearest` for the operations, zero operands included.
use mathlib.Core.Logic.{⊎_elim}
use mathlib.Core.Path.{◌≡◌, sym, ap, ap₂, ◌∙◌}
use Prim.Native.Nat.{ℕ, suc, ◌+◌, ◌-◌, ◌*◌, ◌%◌, ◌^◌, ◌≤◌, ◌<◌}
use native.Mathlib.Nat.{mul-pos, mul-le-mul_right, mul-lt-mul_of_pos_right, le_of_mul-le-mul_right, eq_of_mul-eq-mul_right, le_antisymm, le_of_lt}
use native.Mathlib.Nat.{not-le_of_lt}
use native.Mathlib.Decide.{dec_le}
use native.Mathlib.Omega.{arith}
use lib.Pow.{pow_mono}
use lib.Ieee.Nearest.{closest}
use Rattle.fraction.specs.Fraction.{Fraction, Same, fraction_sum, fraction_product, fraction_quotient}
use Rattle.number.proofs.Closest.{closest-best, closest-tie}
use Rattle.number.proofs.Candidates as Candidates
use Rattle.number.proofs.Candidates.{Place, Placed, BothZero, rounds-placed}
use Rattle.number.proofs.Value.{Over, Rounds, unrounded-rounds, sum-rounds, product-rounds, quotient-rounds}
use Rattle.number.specs.Nearest.{gap, AtLeastAsNear, NearestTo, float, unrounded}
use Rattle.number.specs.Number.{bias, round, value, Ranged, sum_of, product_of, quotient_of}
use Rattle.number.specs.declared.Direction.TheVariants.{Nearest}
use Rattle.number.specs.declared.Number.{Number}

-- ---- distances over one denominator
gap-scale : (a b k : ℕ) → gap (a * k) (b * k) ≡ gap a b * k
gap-scale a b k = go (dec_le a b)
  where
    go : Dec (a ≤ b) → gap (a * k) (b * k) ≡ gap a b * k
    go (yes h) =
        let e : a + gap a b ≡ b = omega arith in
        omega (arith, mul-le-mul_right k h, ap (λ (z : ℕ). z * k) e)
    go (no h) =
        let l : b ≤ a = omega arith in
        let e : b + gap a b ≡ a = omega arith in
        omega (arith, mul-le-mul_right k l, ap (λ (z : ℕ). z * k) e)

-- x = p / s lies gap p e / s from q = e / s
distance : (s p e : ℕ) (x q : Fraction) → Over s x p → Over s q e → gap (x.top * q.low) (q.top * x.low) * s ≡ gap p e * (x.low * q.low)
distance s p e x q f g =
    let a : x.top * q.low * s ≡ p * (x.low * q.low) = omega (arith, ap (λ (z : ℕ). z * q.low) f) in
    let b : q.top * x.low * s ≡ e * (x.low * q.low) = omega (arith, ap (λ (z : ℕ). z * x.low) g) in
    sym (gap-scale (x.top * q.low) (q.top * x.low) s) ∙ ap₂ gap a b ∙ gap-scale p e (x.low * q.low)

-- ---- two distances from q, of x = p / s and y = c / s
module _ (s p e c : ℕ) (x q y : Fraction) (ps : 0 < s) (f : Over s x p) (g : Over s q e) (h : Over s y c) where
  -- both times s, as multiples of the three denominators
  left : gap (x.top * q.low) (q.top * x.low) * y.low * s ≡ gap p e * (x.low * y.low * q.low)
  left = regroup (gap (x.top * q.low) (q.top * x.low)) (gap p e) (distance s p e x q f g)
    where
      regroup : (X P : ℕ) → X * s ≡ P * (x.low * q.low) → X * y.low * s ≡ P * (x.low * y.low * q.low)
      regroup X P d = omega (arith, ap (λ (z : ℕ). z * y.low) d)

  right : gap (y.top * q.low) (q.top * y.low) * x.low * s ≡ gap c e * (x.low * y.low * q.low)
  right = regroup (gap (y.top * q.low) (q.top * y.low)) (gap c e) (distance s c e y q h g)
    where
      regroup : (Y C : ℕ) → Y * s ≡ C * (y.low * q.low) → Y * x.low * s ≡ C * (x.low * y.low * q.low)
      regroup Y C d = omega (arith, ap (λ (z : ℕ). z * x.low) d)

  near-over : gap p e ≤ gap c e → AtLeastAsNear q x y
  near-over l = le_of_mul-le-mul_right (rw (left, right) (mul-le-mul_right (x.low * y.low * q.low) l)) ps

  pub over-near : AtLeastAsNear q x y → gap p e ≤ gap c e
  over-near l =
      le_of_mul-le-mul_right {k = x.low * y.low * q.low} (rw (left, right) at (mul-le-mul_right s l))
      (mul-pos (mul-pos x.above_zero y.above_zero) q.above_zero)

  same_over : p ≡ c → Same y x
  same_over k =
      eq_of_mul-eq-mul_right s ps _ _ (omega (arith, ap (λ (z : ℕ). z * x.low) h, ap (λ (z : ℕ). z * y.low) f, ap (λ (z : ℕ). z * (x.low * y.low)) k))

-- ---- the candidate m × F against the whole number M = closest N D of places E, where N / D is exact, all over one denominator D
pub record Chosen (N D E F m : ℕ) : Type 0 where
  pub best : gap (closest N D * D * E) (N * E) ≤ gap (m * D * F) (N * E)
  pub even : gap (m * D * F) (N * E) ≤ gap (closest N D * D * E) (N * E) → (closest N D * D * E ≡ m * D * F → ⊥) → closest N D % 2 ≡ 0

module _ (N D : ℕ) (p_d : 0 < D) (lo : 2 ^ 31 * D ≤ N) where
  abbrev M : ℕ
  M = closest N D

  -- m / 2 ^ (t + 1) is below 2 ^ 31, and M at least as near as that
  lower : (m t : ℕ) → m < 2 ^ 32 → gap (M * D) N * 2 ^ suc t < gap (m * D) (N * 2 ^ suc t)
  lower m t h =
      let P : ℕ = 2 ^ suc t in
      let two : 2 ≤ P = pow_mono {i = 1} {j = suc t} (omega arith) in
      let m' : m + 1 ≤ 2 ^ 32 = omega arith in
      let a = mul-le-mul_right D m' in
      let b = mul-le-mul_right (2 ^ 31 * D) two in
      let c = mul-le-mul_right P lo in
      let d = mul-le-mul_right P (closest-best N D p_d (2 ^ 31)) in
      let e : gap (2 ^ 31 * D) N * P + 2 ^ 31 * D * P ≡ N * P = rest (2 ^ 31 * D) N P lo in
      omega arith
    where
      rest : (a b k : ℕ) → a ≤ b → gap a b * k + a * k ≡ b * k
      rest a b k l =
          let e : gap a b + a ≡ b = omega arith in
          omega (arith, ap (λ (z : ℕ). z * k) e)

  module _ (E F m : ℕ) where
    -- the candidate is a whole number of places
    coarse : (t : ℕ) → 0 < E → F ≡ E * 2 ^ t → Chosen N D E F m
    coarse t p_e f =
        let c : m * D * F ≡ m * 2 ^ t * D * E = omega (arith, ap (λ (z : ℕ). m * D * z) f) in
        let a : gap (M * D * E) (N * E) ≡ gap (M * D) N * E = gap-scale (M * D) N E in
        let b : gap (m * D * F) (N * E) ≡ gap (m * 2 ^ t * D) N * E = ap (λ (z : ℕ). gap z (N * E)) c ∙ gap-scale (m * 2 ^ t * D) N E in
        let l = closest-best N D p_d (m * 2 ^ t) in
        record {
          best = rw (a, b) (mul-le-mul_right E l);
          even = λ g ne.
              let h : gap (M * D) N ≡ gap (m * 2 ^ t * D) N = le_antisymm l (le_of_mul-le-mul_right (rw (a, b) at g) p_e) in
              closest-tie N D p_d (m * 2 ^ t) (λ (s : m * 2 ^ t ≡ M). ne (ap (λ (z : ℕ). z * D * E) (sym s) ∙ sym c)) h;
        }

    -- it is finer, and so below 2 ^ 31 places
    fine : (t : ℕ) → 0 < F → m < 2 ^ 32 → E ≡ F * 2 ^ suc t → Chosen N D E F m
    fine t p_f h f =
        let P : ℕ = 2 ^ suc t in
        let p : M * D * E ≡ M * D * P * F = omega (arith, ap (λ (z : ℕ). M * D * z) f) in
        let e : N * E ≡ N * P * F = omega (arith, ap (λ (z : ℕ). N * z) f) in
        let a : gap (M * D * E) (N * E) ≡ gap (M * D) N * P * F =
        ap₂ gap p e ∙ gap-scale (M * D * P) (N * P) F ∙ ap (λ (z : ℕ). z * F) (gap-scale (M * D) N P) in
        let b : gap (m * D * F) (N * E) ≡ gap (m * D) (N * P) * F = ap (gap (m * D * F)) e ∙ gap-scale (m * D) (N * P) F in
        let l : gap (M * D * E) (N * E) < gap (m * D * F) (N * E) = rw (a, b) (mul-lt-mul_of_pos_right (lower m t h) p_f) in
        record { best = le_of_lt l; even = λ g ne. absurd (not-le_of_lt l g) }

-- ---- a number in any place
chosen : {q : Fraction} {r : Number} {m i j : ℕ} (P : Placed Nearest q r m i j) → m < 2 ^ 32 → Chosen P.N P.D P.E P.F m
chosen {m = m} P h = go P.place
  where
    go : Place P.E P.F → Chosen P.N P.D P.E P.F m
    go (Candidates.coarse t e) = coarse P.N P.D P.divisor P.low P.E P.F m t P.last e
    go (Candidates.fine t e) = fine P.N P.D P.divisor P.low P.E P.F m t P.others h e

placed-nearest : {q : Fraction} {r : Number} → ((m i j : ℕ) → Placed Nearest q r m i j) → NearestTo q r
placed-nearest {q} {r} place = record { best = best; even = even }
  where
    best : (m i j : ℕ) → m < 2 ^ 32 → AtLeastAsNear q (value r) (float m i j)
    best m i j h =
        let P = place m i j in
        near-over P.S _ _ _ (value r) q (float m i j) P.positive P.result P.exact P.other (chosen P h).best

    even : (m i j : ℕ) → m < 2 ^ 32 → AtLeastAsNear q (float m i j) (value r) → (Same (float m i j) (value r) → ⊥) → r.m % 2 ≡ 0
    even m i j h g ne =
        let P = place m i j in
        P.even
        ((chosen P h).even (over-near P.S _ _ _ (float m i j) q (value r) P.positive P.other P.exact P.result g)
        (λ e. ne (same_over P.S _ _ _ (value r) q (float m i j) P.positive P.result P.exact P.other e)))

-- ---- zero is exact
zero-nearest : (q : Fraction) (r : Number) → q.top ≡ 0 → r.m ≡ 0 → NearestTo q r
unfolding value
zero-nearest q r e f =
    let g : r.m * 2 ^ (r.x - bias) * q.low ≡ 0 = ap (λ (z : ℕ). z * 2 ^ (r.x - bias) * q.low) f ∙ omega arith in
    let h : q.top * 2 ^ (bias - r.x) ≡ 0 = ap (λ (z : ℕ). z * 2 ^ (bias - r.x)) e ∙ omega arith in
    let d : gap ((value r).top * q.low) (q.top * (value r).low) ≡ 0 = omega arith in
    record {
      best = λ m i j l. rw d (omega arith);
      even = λ m i j l n ne. ap (λ (z : ℕ). z % 2) f;
    }

pub rounds-nearest : {q : Fraction} {r : Number} → Rounds Nearest q r → NearestTo q r
rounds-nearest {q} {r} h = ⊎_elim (λ (z : BothZero q r). zero-nearest q r z.0 z.1) placed-nearest (rounds-placed h)

pub round-nearest : (n d x : ℕ) (p : 0 < d) → (0 < n → d ≤ 2 * n) → 32 ≤ x → NearestTo (unrounded n d x p) (round n d x)
round-nearest n d x p h s = rounds-nearest (unrounded-rounds n d x p h s)

-- ---- the operations
pub sum-nearest : {r : ℕ} {a b : Number} → Ranged r a → Ranged r b → r + 64 ≤ bias → NearestTo (fraction_sum (value a) (value b)) (sum_of a b)
sum-nearest u v h = rounds-nearest (sum-rounds u v h)

module _ {r s : ℕ} {a b : Number} (u : Ranged r a) (v : Ranged s b) (h : r + s + 64 ≤ bias) where
  pub product-nearest : NearestTo (fraction_product (value a) (value b)) (product_of a b)
  product-nearest = rounds-nearest (product-rounds u v h)

  pub quotient-nearest : 0 < b.m → NearestTo (fraction_quotient (value a) (value b)) (quotient_of a b)
  quotient-nearest p = rounds-nearest (quotient-rounds u v h p)
