-- One rounding, in any direction. `round_is`, `round-normal` and `round-parts` say which whole number it takes, `round_same` that it goes by the exact value
-- alone; `round-represents`, `round-near`, `round-start` and `round-stop` give a result's digits, its error and its exponent.
use mathlib.Core.Path.{◌≡◌, refl, sym, ap, ap₂, ◌∙◌, subst}
use mathlib.Core.Logic.{⊎_elim}
use Prim.Native.Nat.{ℕ, suc, ◌+◌, ◌-◌, ◌*◌, ◌/◌, ◌%◌, ◌^◌, ◌≤◌, ◌<◌}
use native.Mathlib.Nat.{div-one, mod-one, mul-pos, mul-le-mul_right}
use native.Mathlib.Nat.{mul-lt-mul_of_pos_right, le_of_mul-le-mul_right, lt_of_mul-lt-mul_right, le-div_iff_mul-le, div-lt_iff_lt-mul, le_antisymm}
use native.Mathlib.Nat.{lt_of_lt_of_le, lt_of_le_of_lt, lt_of_not-le, not-le_of_lt, eq-or-lt_of_le}
use native.Mathlib.Omega.{arith}
use borrow.Author.Tests.{ne_eqb, eq-eqb}
use lib.Pow.{pow_pos, pow_mono, pow-add}
use lib.Ieee.{size}
use lib.Ieee.Digits.{size-lt, size-le, size_reaches}
use Rattle.fraction.specs.Fraction.{Fraction, natural}
use Rattle.fraction.specs.Within.{Within}
use Rattle.fraction.proofs.Within.{within-scaled}
use Rattle.number.proofs.Taken.{taken-whole, taken-same, taken-above, taken-below, taken-near}
use Rattle.number.proofs.Tests.{quotient-of, remainder_of}
use Rattle.number.specs.Direction.{taken, whole_by, roundings}
use Rattle.number.specs.Number.{zero_number, round_by, renormalised}
use Rattle.number.specs.declared.Direction.{Direction}
use Rattle.number.specs.declared.Number.{Number}

-- where a power of 2 is below another, so is its exponent
pow-less : {i j : ℕ} → 2 ^ i < 2 ^ j → i < j
pow-less {i} {j} h = lt_of_not-le (λ (g : j ≤ i). not-le_of_lt h (pow_mono g))

-- ---- how many binary digits
size_is : (n j : ℕ) → 2 ^ j ≤ n → n < 2 ^ suc j → size n ≡ suc j
size_is n j lo hi =
    le_antisymm (size-le n (suc j) hi)
    (lt_of_not-le (λ (g : size n ≤ j). not-le_of_lt (lt_of_lt_of_le (size-lt n) (pow_mono g)) lo))

-- ---- which whole number it is
pub round-zero : (w : Direction) (d x : ℕ) → round_by w 0 d x ≡ zero_number
unfolding round_by
round-zero w d x = refl

-- n / d is N / D times 2 ^ k / 2 ^ 32, where N / D has 32 digits before the point
pub round_is : (w : Direction) (n d x N D k : ℕ) → 0 < n → 0 < d → 0 < D → n * 2 ^ 32 * D ≡ N * (d * 2 ^ k) → 2 ^ 31 * D ≤ N → N < 2 ^ 32 * D
    → round_by w n d x ≡ renormalised (whole_by w N D) (x + k - 32)
unfolding round_by
round_is w n d x N D k pn pd p_d e lo hi =
    let P : ℕ = 2 ^ k in
    let p_p : 0 < P = pow_pos k in
    let pd_p : 0 < d * P = mul-pos pd p_p in
    let lo₁ : 2 ^ 31 * P * d * D ≤ n * 2 ^ 32 * D = omega (arith, mul-le-mul_right (d * P) lo) in
    let lo₂ : 2 ^ (31 + k) ≤ n * 2 ^ 32 / d = (le-div_iff_mul-le pd).1 (rw (pow-add 2 31 k) (le_of_mul-le-mul_right lo₁ p_d)) in
    let hi₁ : n * 2 ^ 32 * D < 2 ^ 32 * P * d * D = omega (arith, mul-lt-mul_of_pos_right hi pd_p) in
    let s : 2 ^ suc (31 + k) ≡ 2 ^ 32 * P = omega (arith, pow-add 2 31 k) in
    let hi₂ : n * 2 ^ 32 / d < 2 ^ suc (31 + k) = rw s ((div-lt_iff_lt-mul pd).1 (lt_of_mul-lt-mul_right D hi₁)) in
    let t : size (n * 2 ^ 32 / d) - 32 ≡ k = omega (arith, size_is (n * 2 ^ 32 / d) (31 + k) lo₂ hi₂) in
    rw (ne_eqb n 0 (omega arith), t)
    (ap (λ (m : ℕ). renormalised m (x + k - 32)) (taken-same w (n * 2 ^ 32) (d * P) N D pd_p p_d e))

-- n / d has 32 digits before the point itself
pub round-normal : (w : Direction) (n d x : ℕ) → 0 < d → 2 ^ 31 * d ≤ n → n < 2 ^ 32 * d → round_by w n d x ≡ renormalised (whole_by w n d) x
round-normal w n d x p lo hi = round_is w n d x n d 32 (omega arith) p p (omega arith) lo hi ∙ ap (renormalised (whole_by w n d)) (omega arith)

-- q and r / d: the whole part and the remainder, as division gives them
pub round-parts : (w : Direction) (q r d x : ℕ) → r < d → 2 ^ 31 ≤ q → q < 2 ^ 32 → round_by w (q * d + r) d x ≡ renormalised (taken w q r d) x
round-parts w q r d x h lo hi =
    let p : 0 < d = omega arith in
    let a : 2 ^ 31 * d ≤ q * d = mul-le-mul_right d lo in
    let s : suc q ≤ 2 ^ 32 = hi in
    let b : suc q * d ≤ 2 ^ 32 * d = mul-le-mul_right d s in
    round-normal w (q * d + r) d x p (omega arith) (omega arith)
    ∙ ap₂ (λ (m k : ℕ). renormalised (taken w m k d) x) (quotient-of d q r h) (remainder_of d q r h)

-- n / d at exponent x and N / D at exponent y are the same fraction, the second with 32 digits before the point
pub round_same : (w : Direction) (n d x N D y k : ℕ) → 0 < n → 0 < d → 0 < D → n * 2 ^ 32 * D ≡ N * (d * 2 ^ k) → x + k - 32 ≡ y → 2 ^ 31 * D ≤ N
    → N < 2 ^ 32 * D → round_by w n d x ≡ round_by w N D y
round_same w n d x N D y k pn pd p_d e f lo hi =
    round_is w n d x N D k pn pd p_d e lo hi ∙ ap (renormalised (whole_by w N D)) f ∙ sym (round-normal w N D y p_d lo hi)

pub renormalised-small : (m x : ℕ) → m < 2 ^ 32 → renormalised m x ≡ record { m = m; x = x }
unfolding renormalised
renormalised-small m x h = simp (ne_eqb m (2 ^ 32) (omega arith))

-- a whole number whose digits all fit is kept as it is
pub round_exact : (w : Direction) (n x N k : ℕ) → 0 < n → n * 2 ^ 32 ≡ N * 2 ^ k → 2 ^ 31 ≤ N → N < 2 ^ 32 → round_by w n 1 x ≡ record { m = N; x = x + k - 32 }
round_exact w n x N k p e lo hi =
    let c : whole_by w N 1 ≡ N = rw (div-one N, mod-one N) (taken-whole w N 1 (omega arith)) in
    round_is w n 1 x N 1 k p (omega arith) (omega arith) (omega arith) (omega arith) (omega arith)
    ∙ ap (λ (z : ℕ). renormalised z (x + k - 32)) c ∙ renormalised-small N (x + k - 32) hi

-- ---- a result of 32 digits that stands for m × 2 ^ x
pub record Represents (m x : ℕ) (r : Number) : Type 0 where
  pub low : 2 ^ 31 ≤ r.m
  pub high : r.m < 2 ^ 32
  pub start : x ≤ r.x
  pub stop : r.x ≤ x + 1
  pub same : r.m * 2 ^ r.x ≡ m * 2 ^ x
  pub even : m % 2 ≡ 0 → r.m % 2 ≡ 0

renormalised-represents : (m x : ℕ) → 2 ^ 31 ≤ m → m ≤ 2 ^ 32 → Represents m x (renormalised m x)
unfolding renormalised
renormalised-represents m x lo hi =
    ⊎_elim
    (λ (e : m ≡ 2 ^ 32). rw (eq-eqb m (2 ^ 32) e)
    (record {
      low = omega arith;
      high = omega arith;
      start = omega arith;
      stop = omega arith;
      same = rw (pow-add 2 x 1) (omega (arith, ap (λ (z : ℕ). z * 2 ^ x) e));
      even = λ h. refl;
    }))
    (λ (h : m < 2 ^ 32). rw (ne_eqb m (2 ^ 32) (omega arith))
    (record { low = lo; high = h; start = omega arith; stop = omega arith; same = refl; even = λ h. h }))
    (eq-or-lt_of_le hi)

module _ (n d x : ℕ) (pn : 0 < n) (pd : 0 < d) (half : d ≤ 2 * n) where
  abbrev q : ℕ
  q = n * 2 ^ 32 / d

  -- how many digits are dropped
  abbrev pub dropped : ℕ
  dropped = size q - 32

  abbrev k : ℕ
  k = dropped

  long : 32 ≤ size q
  long =
      let a : 2 ^ 31 ≤ q = (le-div_iff_mul-le pd).1 (omega arith) in
      pow-less (lt_of_le_of_lt a (size-lt q))

  pub scaled-low : 2 ^ 31 * (d * 2 ^ k) ≤ n * 2 ^ 32
  scaled-low =
      let e : size q ≡ suc (31 + k) = omega (arith, long) in
      let a : 2 ^ (31 + k) ≤ q = size_reaches q (31 + k) (omega arith) in
      omega (arith, rw (pow-add 2 31 k) at ((le-div_iff_mul-le pd).0 a))

  pub scaled-high : n * 2 ^ 32 < 2 ^ 32 * (d * 2 ^ k)
  scaled-high =
      let e : size q ≡ 32 + k = omega (arith, long) in
      let b : q < 2 ^ (32 + k) = subst (λ (s : ℕ). q < 2 ^ s) e (size-lt q) in
      omega (arith, rw (pow-add 2 32 k) at ((div-lt_iff_lt-mul pd).0 b))

  module _ (w : Direction) where
    abbrev M : ℕ
    M = whole_by w (n * 2 ^ 32) (d * 2 ^ k)

    pub round-represents : Represents M (x + k - 32) (round_by w n d x)
    unfolding round_by
    round-represents =
        let p = mul-pos pd (pow_pos k) in
        rw (ne_eqb n 0 (omega arith))
        (renormalised-represents M (x + k - 32) (taken-above (n * 2 ^ 32) (d * 2 ^ k) p w (2 ^ 31) scaled-low)
        (taken-below (n * 2 ^ 32) (d * 2 ^ k) p w (2 ^ 32) (omega (arith, scaled-high))))

    -- the rounded value and the exact one, both times 2 ^ 32 / 2 ^ x
    pub round-near : 32 ≤ x → Within (roundings w) (natural ((round_by w n d x).m * 2 ^ (round_by w n d x).x * d)) (natural (n * 2 ^ x))
    round-near hx =
        let Y : ℕ = 2 ^ (x + k - 32) in
        let near = taken-near (n * 2 ^ 32) (d * 2 ^ k) (mul-pos pd (pow_pos k)) scaled-low w in
        let g : x + k - 32 + 32 ≡ x + k = omega arith in
        let e : Y * 2 ^ 32 ≡ 2 ^ x * 2 ^ k = sym (pow-add 2 (x + k - 32) 32) ∙ ap (λ (i : ℕ). 2 ^ i) g ∙ pow-add 2 x k in
        let c : Fraction = record { top = 2 ^ x; low = 2 ^ 32; above_zero = omega arith } in
        rw round-represents.same
        (within-scaled c (natural (M * Y * d)) (natural (n * 2 ^ x)) near (omega (arith, ap (λ (z : ℕ). M * d * z) e)) (omega arith))

    -- the exponent, from powers of 2 around n / d
    pub round-start : (i : ℕ) → 2 ^ i * d ≤ n * 2 ^ 32 → x + i ≤ (round_by w n d x).x + 63
    round-start i h =
        let a : 2 ^ i * d < 2 ^ (32 + k) * d = lt_of_le_of_lt h (rw (pow-add 2 32 k) (omega (arith, scaled-high))) in
        omega (arith, pow-less {i = i} {j = 32 + k} (lt_of_mul-lt-mul_right d a), round-represents.start)

    pub round-stop : (j : ℕ) → n * 2 ^ 32 < 2 ^ j * d → 32 ≤ x → (round_by w n d x).x + 63 ≤ x + j
    round-stop j h hx =
        let a : 2 ^ (31 + k) * d < 2 ^ j * d = lt_of_le_of_lt (rw (pow-add 2 31 k) (omega (arith, scaled-low))) h in
        omega (arith, pow-less {i = 31 + k} {j = j} (lt_of_mul-lt-mul_right d a), round-represents.stop)
