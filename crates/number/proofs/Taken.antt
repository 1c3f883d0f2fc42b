-- THE DIRECTIONS (document 02, request (g)), of whole numbers: which one is taken for n / d. It is the whole part, or one more where the direction says so
-- (`taken-by`). It looks at no more than a comparison with a half and whether something is left (`taken-alike`), so equal fractions are rounded alike
-- (`taken-same`). It lies on its side (`taken-side`), within its roundings (`taken-near`), and passes no whole number (`taken-above`, `taken-below`).
-- The laws of numbers, of operations and of arithmetic are over the direction and follow from these. They split on it again only where a definition goes by
-- it: what a direction means and on which side it rounds (`Toward`, `Unique`), and what the code adds or multiplies by (`Digits`).
use mathlib.Core.Path.{◌≡◌, refl, sym, ap, ◌∙◌}
use mathlib.Core.Bool.{Bool, true, false, cond}
use mathlib.Core.Logic.{◌⊎◌, ⊎_elim, inl, inr}
use Prim.Native.Nat.{ℕ, zero, suc, ◌+◌, ◌*◌, ◌/◌, ◌%◌, ◌^◌, ◌≤◌, ◌<◌, compare}
use native.Mathlib.Nat.{mul_comm, mul-le-mul_right, mul-lt-mul_of_pos_right, le_of_mul-le-mul_right, eq_of_mul-eq-mul_right}
use native.Mathlib.Nat.{lt_of_mul-lt-mul_right, div-add-mod', mod-lt, le-div_iff_mul-le}
use native.Mathlib.Omega.{arith}
use borrow.Author.Tests.{eqb-true, eqb-false, ne_eqb}
use lib.Dec.{eqb}
use lib.Ieee.Nearest.{div_same}
use Rattle.fraction.specs.Fraction.{Fraction, natural}
use Rattle.fraction.specs.Within.{less, unit, Within}
use Rattle.fraction.proofs.Within.{within-sym, within-trans}
use Rattle.number.proofs.Closest.{Below, Above, side, compare_alike}
use Rattle.number.specs.Direction.{taken, whole_by, roundings}
use Rattle.number.specs.declared.Direction.{Direction}
use Rattle.number.specs.declared.Direction.TheVariants.{Nearest, Down, Up}

-- p on the direction's side of q, of whole numbers: down it is not above, up it is not below, to nearest it may be either
abbrev pub Beside : Direction → ℕ → ℕ → Type 0
Beside Nearest p q = Unit {0}
Beside Down p q = p ≤ q
Beside Up p q = q ≤ p

-- ---- which whole number it is
-- what is left where the whole part is taken, and where one more is
abbrev LeftLow : Direction → ℕ → ℕ → Type 0
LeftLow Nearest r d = r * 2 ≤ d
LeftLow Down r d = Unit {0}
LeftLow Up r d = r ≡ 0

abbrev LeftHigh : Direction → ℕ → ℕ → Type 0
LeftHigh Nearest r d = d ≤ r * 2
LeftHigh Down r d = ⊥
LeftHigh Up r d = 0 < r

abbrev Low : Direction → ℕ → ℕ → ℕ → Type 0
Low w q r d = (taken w q r d ≡ q) × LeftLow w r d

abbrev High : Direction → ℕ → ℕ → ℕ → Type 0
High w q r d = (taken w q r d ≡ q + 1) × LeftHigh w r d

taken-by : (w : Direction) (q r d : ℕ) → Low w q r d ⊎ High w q r d
taken-by Nearest q r d =
    ⊎_elim (λ (c : Below (taken Nearest q r d) q r d). inl (c.0, c.1)) (λ (c : Above (taken Nearest q r d) q r d). inr (c.0, c.1)) (side q r d)
taken-by Down q r d = inl (refl, tt)
taken-by Up q r d = by (eqb r 0) refl
  where
    by : (t : Bool) → eqb r 0 ≡ t → ((cond t q (q + 1) ≡ q) × (r ≡ 0)) ⊎ ((cond t q (q + 1) ≡ q + 1) × (0 < r))
    by true e = inl (refl, eqb-true r 0 e)
    by false e = let h = eqb-false r 0 e in inr (refl, omega arith)

-- one more is taken only where something is left
some_left : (w : Direction) {r d : ℕ} → 0 < d → LeftHigh w r d → 0 < r
some_left Nearest p h = omega arith
some_left Down p h = absurd h
some_left Up p h = h

pub taken-whole : (w : Direction) (q d : ℕ) → 0 < d → taken w q 0 d ≡ q
taken-whole w q d p = ⊎_elim (λ (c : Low w q 0 d). c.0) (λ (c : High w q 0 d). absurd (omega (arith, some_left w p c.1))) (taken-by w q 0 d)

-- ---- what it looks at
pub taken-alike : (w : Direction) (q r d s e : ℕ) → compare (r * 2) d ≡ compare (s * 2) e → eqb r 0 ≡ eqb s 0 → taken w q r d ≡ taken w q s e
taken-alike Nearest q r d s e c z = ap (lib.Ieee.nearest q) c
taken-alike Down q r d s e c z = refl
taken-alike Up q r d s e c z = ap (λ (t : Bool). cond t q (q + 1)) z

-- two numbers that are zero together
pub zero-alike : (r s : ℕ) → (r ≡ 0 → s ≡ 0) → (s ≡ 0 → r ≡ 0) → eqb r 0 ≡ eqb s 0
zero-alike zero zero f g = refl
zero-alike zero (suc s) f g = absurd (omega (arith, f refl))
zero-alike (suc r) zero f g = absurd (omega (arith, g refl))
zero-alike (suc r) (suc s) f g = ne_eqb (suc r) 0 (λ h. omega arith) ∙ sym (ne_eqb (suc s) 0 (λ h. omega arith))

-- two numbers and two others in the proportion of d to D stand in the same order
module _ (d D : ℕ) (p : 0 < d) (q : 0 < D) {x y x' y' : ℕ} (e : x * D ≡ x' * d) (f : y * D ≡ y' * d) where
  scaled-less : x < y → x' < y'
  scaled-less h = lt_of_mul-lt-mul_right d (omega (arith, e, f, mul-lt-mul_of_pos_right h q))

  scaled-same : x ≡ y → x' ≡ y'
  scaled-same h = eq_of_mul-eq-mul_right d p x' y' (omega (arith, e, f, ap (λ (z : ℕ). z * D) h))

-- equal fractions leave remainders in that proportion
pub taken-same : (w : Direction) (n d N D : ℕ) → 0 < d → 0 < D → n * D ≡ N * d → whole_by w n d ≡ whole_by w N D
taken-same w n d N D p q e =
    taken-alike w (n / d) (n % d) d (N % D) D
    (compare_alike (n % d * 2) d (N % D * 2) D (scaled-less d D p q twice turned) (scaled-same d D p q twice turned) (scaled-less d D p q turned twice))
    (zero-alike (n % d) (N % D) (scaled-same d D p q crossed (omega arith)) (scaled-same D d q p (sym crossed) (omega arith)))
    ∙ ap (λ (z : ℕ). taken w z (N % D) D) f
  where
    f : n / d ≡ N / D
    f = div_same n d N D p q e

    crossed : n % d * D ≡ N % D * d
    crossed = left (n / d) (n % d) (N / D) (N % D) (div-add-mod' n d) (div-add-mod' N D) f
      where
        left : (a r b s : ℕ) → a * d + r ≡ n → b * D + s ≡ N → a ≡ b → r * D ≡ s * d
        left a r b s g h i = omega (arith, e, ap (λ (z : ℕ). z * D) g, ap (λ (z : ℕ). z * d) h, ap (λ (z : ℕ). z * (d * D)) i)

    twice : n % d * 2 * D ≡ N % D * 2 * d
    twice = omega (arith, crossed)

    turned : d * D ≡ D * d
    turned = mul_comm d D

-- ---- n / d
module _ (n d : ℕ) (p : 0 < d) where
  abbrev q : ℕ
  q = n / d

  abbrev r : ℕ
  r = n % d

  -- the two cases, with the division's equation and the result's multiple of d handed over
  by-case : (w : Direction) {A : Type 0} → (q * d + r ≡ n → whole_by w n d ≡ q → whole_by w n d * d ≡ q * d → LeftLow w r d → A)
      → (q * d + r ≡ n → whole_by w n d ≡ q + 1 → whole_by w n d * d ≡ (q + 1) * d → LeftHigh w r d → A) → A
  by-case w low high =
      ⊎_elim (λ (c : Low w q r d). low (div-add-mod' n d) c.0 (ap (λ (z : ℕ). z * d) c.0) c.1)
      (λ (c : High w q r d). high (div-add-mod' n d) c.0 (ap (λ (z : ℕ). z * d) c.0) c.1) (taken-by w q r d)

  -- rounding passes no whole number, from below or from above
  pub taken-above : (w : Direction) (i : ℕ) → i * d ≤ n → i ≤ whole_by w n d
  taken-above w i h =
      let l : i ≤ q = (le-div_iff_mul-le p).1 h in
      by-case w (λ e f g c. omega arith) (λ e f g c. omega arith)

  pub taken-below : (w : Direction) (j : ℕ) → n ≤ j * d → whole_by w n d ≤ j
  taken-below w j h = by-case w (λ e f g c. omega (arith, few q r e)) (λ e f g c. omega (arith, more q r e (some_left w p c)))
    where
      few : (a b : ℕ) → a * d + b ≡ n → a ≤ j
      few a b e = le_of_mul-le-mul_right {k = d} (omega arith) p

      more : (a b : ℕ) → a * d + b ≡ n → 0 < b → a < j
      more a b e k = lt_of_mul-lt-mul_right d (omega arith)

  -- it lies on its side, and so do multiples
  pub taken-side : (w : Direction) (k : ℕ) → Beside w (whole_by w n d * d * k) (n * k)
  taken-side Nearest k = tt
  taken-side Down k = let h : q * d ≤ n = omega (arith, div-add-mod' n d) in mul-le-mul_right k h
  taken-side Up k =
      let h : n ≤ whole_by Up n d * d = by-case Up (λ e f g c. omega arith) (λ e f g c. omega (arith, mod-lt n p)) in
      mul-le-mul_right k h

  -- and within its roundings: to nearest by half a unit; in any direction by a unit, half of it to the middle beyond the whole part and half of it back
  module _ (lo : 2 ^ 31 * d ≤ n) where
    low : 2 ^ 31 * d ≤ q * d
    low = mul-le-mul_right d ((le-div_iff_mul-le p).1 lo)

    half-near : Within 1 (natural (whole_by Nearest n d * d)) (natural n)
    unfolding less unit
    half-near =
        let l = mod-lt n p in
        by-case Nearest (λ e f g c. record { above = omega arith; below = omega arith }) (λ e f g c. record { above = omega arith; below = omega arith })

    abbrev middle : Fraction
    middle = record { top = q * d * 2 + d; low = 2; above_zero = omega arith }

    middle-near : (m : ℕ) → q * d ≤ m → m ≤ q * d + d → Within 1 (natural m) middle
    unfolding less unit
    middle-near m f g = record { above = omega (arith, low); below = omega (arith, low) }

    unit-near : (w : Direction) → Within 2 (natural (whole_by w n d * d)) (natural n)
    unit-near w =
        let l = mod-lt n p in
        let e = div-add-mod' n d in
        let back = within-sym (middle-near n (omega arith) (omega arith)) in
        by-case w (λ e f g c. within-trans (middle-near _ (omega arith) (omega arith)) back)
        (λ e f g c. within-trans (middle-near _ (omega arith) (omega arith)) back)

    pub taken-near : (w : Direction) → Within (roundings w) (natural (whole_by w n d * d)) (natural n)
    taken-near Nearest = half-near
    taken-near Down = unit-near Down
    taken-near Up = unit-near Up

-- nothing is on every side of nothing
pub beside-zero : (w : Direction) → Beside w 0 0
beside-zero Nearest = tt
beside-zero Down = omega arith
beside-zero Up = omega arith
