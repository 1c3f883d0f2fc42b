-- WHAT THE DIRECTIONS MEAN (document 02, request (g)). In any direction a rounded result lies on its side (`rounds-side`), and rounding passes no number of 32
-- digits, from below or from above (`rounds-faithful`). So down gives the largest that is not above, up the smallest that is not below (`rounds-toward`), and
-- with error, exponent and zero these are the laws of every direction (`lawful`).
use mathlib.Core.Logic.{⊎_elim}
use mathlib.Core.Path.{◌≡◌, ap, ◌∙◌}
use Prim.Native.Nat.{ℕ, suc, ◌+◌, ◌*◌, ◌^◌, ◌≤◌, ◌<◌}
use native.Mathlib.Nat.{zero-mul, mul-pos, mul-le-mul_right, le_of_mul-le-mul_right}
use native.Mathlib.Omega.{arith}
use lib.Pow.{pow_mono}
use Rattle.fraction.specs.Fraction.{Fraction, AtMost}
use Rattle.fraction.proofs.Within.{within-sym, within_none}
use Rattle.number.proofs.Candidates as Candidates
use Rattle.number.proofs.Candidates.{Place, Placed, BothZero, rounds-placed}
use Rattle.number.proofs.Error.{rounds-within}
use Rattle.number.proofs.Nearest.{rounds-nearest}
use Rattle.number.proofs.Reach.{ranged-sum, ranged-product, ranged-quotient}
use Rattle.number.proofs.Taken.{Beside, beside-zero, taken-above, taken-below, taken-side}
use Rattle.number.proofs.Tests.{none}
use Rattle.number.proofs.Value.{Over, value-positive, value-top-zero, Rounds, sum-rounds, product-rounds, quotient-rounds}
use Rattle.number.specs.Direction.{whole_by, Side}
use Rattle.number.specs.Nearest.{float}
use Rattle.number.specs.Number.{value, Ranged}
use Rattle.number.specs.Toward.{Toward, Directed, Lawful}
use Rattle.number.specs.declared.Direction.{Direction}
use Rattle.number.specs.declared.Direction.TheVariants.{Nearest, Down, Up}
use Rattle.number.specs.declared.Number.{Number}

-- rounding passes no number: whatever is at most q is at most r, and whatever is at least q is at least r
pub record Faithful (q : Fraction) (r : Number) : Type 0 where
  pub above : (m i j : ℕ) → m < 2 ^ 32 → AtMost (float m i j) q → AtMost (float m i j) (value r)
  pub below : (m i j : ℕ) → m < 2 ^ 32 → AtMost q (float m i j) → AtMost (value r) (float m i j)

-- ---- order over one denominator: x is p / s and y is q / s
module _ (s p q : ℕ) (x y : Fraction) (ps : 0 < s) (f : Over s x p) (g : Over s y q) where
  -- both cross products times s, as multiples of the two denominators
  left : x.top * y.low * s ≡ p * (x.low * y.low)
  left = omega (arith, ap (λ (z : ℕ). z * y.low) f)

  right : y.top * x.low * s ≡ q * (x.low * y.low)
  right = omega (arith, ap (λ (z : ℕ). z * x.low) g)

  most-over : p ≤ q → AtMost x y
  most-over h = le_of_mul-le-mul_right (rw (left, right) (mul-le-mul_right (x.low * y.low) h)) ps

  over-most : AtMost x y → p ≤ q
  over-most h = le_of_mul-le-mul_right {k = x.low * y.low} (rw (left, right) at (mul-le-mul_right s h)) (mul-pos x.above_zero y.above_zero)

-- ---- another number m of places F against the whole number M that is taken for N / D, of places E
module _ (w : Direction) (N D E F m : ℕ) (p_d : 0 < D) where
  abbrev M : ℕ
  M = whole_by w N D

  -- a whole number of places
  module _ (t : ℕ) (p_e : 0 < E) (e : F ≡ E * 2 ^ t) where
    same : m * D * F ≡ m * 2 ^ t * D * E
    same = omega (arith, ap (λ (z : ℕ). m * D * z) e)

    coarse-above : m * D * F ≤ N * E → m * D * F ≤ M * D * E
    coarse-above h =
        let c : m * 2 ^ t * D ≤ N = le_of_mul-le-mul_right {k = E} (omega (arith, same)) p_e in
        omega (arith, same, mul-le-mul_right (D * E) (taken-above N D p_d w (m * 2 ^ t) c))

    coarse-below : N * E ≤ m * D * F → M * D * E ≤ m * D * F
    coarse-below h =
        let c : N ≤ m * 2 ^ t * D = le_of_mul-le-mul_right {k = E} (omega (arith, same)) p_e in
        omega (arith, same, mul-le-mul_right (D * E) (taken-below N D p_d w (m * 2 ^ t) c))

  -- a part of one: then it is below 2 ^ 31 places
  module _ (lo : 2 ^ 31 * D ≤ N) (t : ℕ) (p_f : 0 < F) (h : m < 2 ^ 32) (e : E ≡ F * 2 ^ suc t) where
    short : m * D * F < 2 ^ 31 * D * E
    short =
        let two : 2 ≤ 2 ^ suc t = pow_mono {i = 1} {j = suc t} (omega arith) in
        let m' : m + 1 ≤ 2 ^ 32 = omega arith in
        omega (arith, mul-le-mul_right (D * F) m', mul-le-mul_right (2 ^ 31 * D * F) two, ap (λ (z : ℕ). 2 ^ 31 * D * z) e, mul-pos p_d p_f)

    fine-above : m * D * F ≤ M * D * E
    fine-above = omega (arith, short, mul-le-mul_right (D * E) (taken-above N D p_d w (2 ^ 31) lo))

    fine-below : N * E ≤ m * D * F → M * D * E ≤ m * D * F
    fine-below g = absurd (omega (arith, short, mul-le-mul_right E lo))

-- ---- a number in any place
module _ {w : Direction} {q : Fraction} {r : Number} {m i j : ℕ} (P : Placed w q r m i j) (h : m < 2 ^ 32) where
  abbrev N' : ℕ
  N' = P.N * P.E

  abbrev M' : ℕ
  M' = whole_by w P.N P.D * P.D * P.E

  abbrev m' : ℕ
  m' = m * P.D * P.F

  passes-above : m' ≤ N' → m' ≤ M'
  passes-above l = go P.place
    where
      go : Place P.E P.F → m' ≤ M'
      go (Candidates.coarse t e) = coarse-above w P.N P.D P.E P.F m P.divisor t P.last e l
      go (Candidates.fine t e) = fine-above w P.N P.D P.E P.F m P.divisor P.low t P.others h e

  passes-below : N' ≤ m' → M' ≤ m'
  passes-below l = go P.place
    where
      go : Place P.E P.F → M' ≤ m'
      go (Candidates.coarse t e) = coarse-below w P.N P.D P.E P.F m P.divisor t P.last e l
      go (Candidates.fine t e) = fine-below w P.N P.D P.E P.F m P.divisor P.low t P.others h e l

  placed-above : AtMost (float m i j) q → AtMost (float m i j) (value r)
  placed-above g =
      most-over P.S m' M' (float m i j) (value r) P.positive P.other P.result
      (passes-above (over-most P.S m' N' (float m i j) q P.positive P.other P.exact g))

  placed_below : AtMost q (float m i j) → AtMost (value r) (float m i j)
  placed_below g =
      most-over P.S M' m' (value r) (float m i j) P.positive P.result P.other
      (passes-below (over-most P.S N' m' q (float m i j) P.positive P.exact P.other g))

-- ---- sides, by the direction
side-over : (w : Direction) (s p e : ℕ) (r q : Fraction) → 0 < s → Over s r p → Over s q e → Beside w p e → Side w r q
side-over Nearest s p e r q ps f g h = tt
side-over Down s p e r q ps f g h = most-over s p e r q ps f g h
side-over Up s p e r q ps f g h = most-over s e p q r ps g f h

placed-side : (w : Direction) {q : Fraction} {r : Number} → Placed w q r 0 0 0 → Side w (value r) q
placed-side w {q} {r} P =
    side-over w P.S _ _ (value r) q P.positive P.result P.exact (taken-side P.N P.D P.divisor w P.E)

-- ---- zero is exact
module _ (q : Fraction) (r : Number) (z : BothZero q r) where
  exact-zero : (k : ℕ) → q.top * k ≡ 0
  exact-zero k = ap (λ (t : ℕ). t * k) z.0 ∙ zero-mul k

  result-zero : (k : ℕ) → (value r).top * k ≡ 0
  result-zero k = ap (λ (t : ℕ). t * k) (value-top-zero r z.1) ∙ zero-mul k

  zero-faithful : Faithful q r
  zero-faithful = record {
    above = λ m i j h g.
        le_of_mul-le-mul_right {k = q.low}
        (omega (arith, mul-le-mul_right (value r).low g, exact-zero ((float m i j).low * (value r).low))) q.above_zero;
    below = λ m i j h g. omega (arith, result-zero (float m i j).low);
  }

  zero-side : (w : Direction) → Side w (value r) q
  zero-side w = side-over w 1 0 0 (value r) q (omega arith) (omega (arith, result-zero 1)) (omega (arith, exact-zero 1)) (beside-zero w)

-- ---- r is q rounded once
pub rounds-faithful : {w : Direction} {q : Fraction} {r : Number} → Rounds w q r → Faithful q r
rounds-faithful {w} {q} {r} h =
    ⊎_elim (zero-faithful q r)
    (λ (P : (m i j : ℕ) → Placed w q r m i j). record { above = λ m i j l. placed-above (P m i j) l; below = λ m i j l. placed_below (P m i j) l })
    (rounds-placed h)

pub rounds-side : {w : Direction} {q : Fraction} {r : Number} → Rounds w q r → Side w (value r) q
rounds-side {w} {q} {r} h =
    ⊎_elim (λ (z : BothZero q r). zero-side q r z w) (λ (P : (m i j : ℕ) → Placed w q r m i j). placed-side w (P 0 0 0)) (rounds-placed h)

-- what each direction means: the definition goes by the direction, and so does this
pub rounds-toward : (w : Direction) {q : Fraction} {r : Number} → Rounds w q r → Toward w q r
rounds-toward Nearest h = rounds-nearest h
rounds-toward Down h = record { not-above = rounds-side h; largest = (rounds-faithful h).above }
rounds-toward Up h = record { not-below = rounds-side h; smallest = (rounds-faithful h).below }

-- zero of zero alone, since it is within so many roundings
top-none : (r : Number) → (value r).top ≡ 0 → r.m ≡ 0
top-none r e = none (λ p. let q = (value-positive r).0 p in omega arith)

directed : {w : Direction} {k : ℕ} {q : Fraction} {r : Number} → Ranged k r → Rounds w q r → Directed w k q r
directed {w} {k} {q} {r} u h =
    let near = rounds-within h in
    record {
      ranged = u;
      within = near;
      side = rounds-side h;
      toward = rounds-toward w h;
      zero = (λ e. within_none (within-sym near) (value-top-zero r e), λ e. top-none r (within_none near e));
    }

pub lawful : (w : Direction) → Lawful w
lawful w = record {
  sum = λ u v h. directed (ranged-sum w u v h) (sum-rounds u v h);
  product = λ u v h. directed (ranged-product w u v h) (product-rounds u v h);
  quotient = λ u v h p. directed (ranged-quotient w u v p) (quotient-rounds u v h p);
}
