-- Sums, in any direction: aligned operands have 63 or 64 digits (`aligned-low`, `aligned-high`) and round as their exact sum (`aligned-is`), since what is left
-- of the second compares with half a unit as it does, and is nothing where it is (`far-alike`).
use mathlib.Core.Path.{◌≡◌, refl, sym, ap, ap₂, ◌∙◌, subst}
use mathlib.Core.Bool.{Bool, true, false, cond}
use mathlib.Core.Logic.{◌⊎◌, ⊎_elim, inl, inr}
use Prim.Native.Nat.{ℕ, zero, suc, ◌+◌, ◌-◌, ◌*◌, ◌/◌, ◌%◌, ◌^◌, ◌≤◌, ◌<◌, min, compare}
use native.Mathlib.Nat.{mul-pos, pow-succ', min-eq_left, mul-le-mul_left, mul-div_cancel, mul-div-mul_right, zero-div}
use native.Mathlib.Nat.{div-lt_iff_lt-mul}
use native.Mathlib.Decide.{dec_lt}
use native.Mathlib.Omega.{arith}
use borrow.Author.Tests.{ne_eqb, eq-eqb, eqb-true}
use lib.Dec.{eqb}
use lib.Pow.{pow_pos, pow-add, pow_mono}
use Rattle.number.proofs.Closest.{compare_alike}
use Rattle.number.proofs.Rounding.{round_same}
use Rattle.number.proofs.Exact.{integer-long, by_units}
use Rattle.number.proofs.Taken.{zero-alike, taken-alike}
use Rattle.number.specs.Digits.{unlike_of, aligned_of}
use Rattle.number.specs.Number.{round_by, renormalised}
use Rattle.number.specs.declared.Direction.{Direction}

-- ---- operands brought to one exponent
pub unlike-le : (a b : ℕ) → unlike_of a b ≤ 1
unfolding unlike_of
unlike-le a b = go (eqb a b)
  where
    go : (t : Bool) → cond t 0 1 ≤ 1
    go true = omega arith
    go false = omega arith

unlike-same : (a b : ℕ) → a ≡ b → unlike_of a b ≡ 0
unfolding unlike_of
unlike-same a b e = rw (eq-eqb a b e) refl

unlike-other : (a b : ℕ) → (a ≡ b → ⊥) → unlike_of a b ≡ 1
unfolding unlike_of
unlike-other a b e = rw (ne_eqb a b e) refl

unlike-none : (a b : ℕ) → unlike_of a b ≡ 0 → a ≡ b
unfolding unlike_of
unlike-none a b h = go (eqb a b) refl h
  where
    go : (t : Bool) → eqb a b ≡ t → ◌≡◌ {A = ℕ} (cond t 0 1) 0 → a ≡ b
    go true e f = eqb-true a b e
    go false e f = absurd (omega arith)

pub aligned-low : (a b k : ℕ) → 2 ^ 31 ≤ a → 2 ^ 62 ≤ aligned_of a b k
unfolding aligned_of
aligned-low a b k h = omega arith

-- at one exponent nothing is dropped, and else the second counts half at most
pub aligned-high : (a b k : ℕ) → a < 2 ^ 32 → b < 2 ^ 32 → aligned_of a b k ≤ 2 ^ 64 - 2 ^ 32
unfolding aligned_of
aligned-high a b zero h g =
    let s : unlike_of (b * 2 ^ 30 / 2 ^ 0 * 2 ^ 0) (b * 2 ^ 30) ≡ 0 = unlike-same _ _ (omega arith) in
    omega (arith, s)
aligned-high a b (suc k) h g =
    let two : 2 ≤ 2 ^ suc k = pow_mono {i = 1} {j = suc k} (omega arith) in
    let y : b * 2 ^ 30 / 2 ^ suc k < b * 2 ^ 29 + 1 = (div-lt_iff_lt-mul (pow_pos (suc k))).1 (omega (arith, mul-le-mul_left (b * 2 ^ 29 + 1) two)) in
    let s = unlike-le (b * 2 ^ 30 / 2 ^ suc k * 2 ^ suc k) (b * 2 ^ 30) in
    omega (arith, s)

-- n with c zeros joined, at an exponent lower by c
scaled : (w : Direction) (n j c k y : ℕ) → 0 < n → c ≤ 32 + k → y + c ≡ j → 2 ^ 31 * 2 ^ k ≤ n * 2 ^ c → n * 2 ^ c < 2 ^ 32 * 2 ^ k
    → round_by w n 1 j ≡ round_by w (n * 2 ^ c) 1 y
scaled w n j c k y p l e lo hi =
    let g : c + (32 + k - c) ≡ 32 + k = omega arith in
    let f : 2 ^ c * 2 ^ (32 + k - c) ≡ 2 ^ 32 * 2 ^ k = sym (pow-add 2 c (32 + k - c)) ∙ ap (λ (i : ℕ). 2 ^ i) g ∙ pow-add 2 32 k in
    let s : n * (2 ^ c * 2 ^ (32 + k - c)) ≡ n * (2 ^ 32 * 2 ^ k) = ap (λ (z : ℕ). n * z) f in
    round_same w n 1 j (n * 2 ^ c) (2 ^ k) (y + k) (32 + k - c) p (omega arith) (pow_pos k) (omega (arith, s)) (omega arith) lo hi
    ∙ sym (integer-long w (n * 2 ^ c) y k (mul-pos p (pow_pos c)) lo hi)

-- up to 31 places apart nothing is dropped
aligned-near : (a b k : ℕ) → k ≤ 30 → aligned_of a b k ≡ (a * 2 ^ k + b) * 2 ^ (31 - k)
unfolding aligned_of
aligned-near a b k h =
    let m : ℕ = 30 - k in
    let g : m + k ≡ 30 = omega arith in
    let e : 2 ^ m * 2 ^ k ≡ 2 ^ 30 = sym (pow-add 2 m k) ∙ ap (λ (i : ℕ). 2 ^ i) g in
    let f : b * 2 ^ m * 2 ^ k ≡ b * 2 ^ 30 = omega (arith, ap (λ (z : ℕ). b * z) e) in
    let d : b * 2 ^ 30 / 2 ^ k ≡ b * 2 ^ m = ap (λ (z : ℕ). z / 2 ^ k) (sym f) ∙ mul-div_cancel (b * 2 ^ m) (pow_pos k) in
    let i : 31 - k ≡ suc m = omega arith in
    let s : unlike_of (b * 2 ^ 30 / 2 ^ k * 2 ^ k) (b * 2 ^ 30) ≡ 0 = unlike-same _ _ (ap (λ (z : ℕ). z * 2 ^ k) d ∙ f) in
    rw (s, d, i, pow-succ' 2 m) (omega (arith, ap (λ (z : ℕ). a * z) e))

half : (b : ℕ) → b * 2 ^ 30 / 2 ^ 31 ≡ b / 2
half b = mul-div-mul_right {m = 2 ^ 30} b 2 (omega arith)

quarter : (b : ℕ) → b * 2 ^ 30 / 2 ^ 32 ≡ b / 4
quarter b = mul-div-mul_right {m = 2 ^ 30} b 4 (omega arith)

aligned-31 : (a b : ℕ) → aligned_of a b 31 ≡ a * 2 ^ 31 + b
unfolding aligned_of
aligned-31 a b =
    rw (half b)
    (elim (dec_lt (b % 2) 1) [
      | yes h ↦ rw (unlike-same (b / 2 * 2 ^ 31) (b * 2 ^ 30) (omega arith)) (omega arith)
      | no h ↦ rw (unlike-other (b / 2 * 2 ^ 31) (b * 2 ^ 30) (omega arith)) (omega arith)
    ])

-- ---- operands far apart: a units of 2 ^ 31, and what is left of b, moved k places down
abbrev left_of : ℕ → ℕ → ℕ
left_of b k = b * 2 ^ 30 / 2 ^ k * 2 + unlike_of (b * 2 ^ 30 / 2 ^ k * 2 ^ k) (b * 2 ^ 30)

aligned-left : (a b k : ℕ) → aligned_of a b k ≡ a * 2 ^ 31 + left_of b k
unfolding aligned_of
aligned-left a b k = omega arith

-- something is left of b where it is not zero, be it the digit that stands for what is dropped
left-zero : (b k : ℕ) → eqb (left_of b k) 0 ≡ eqb b 0
left-zero b k = zero-alike (left_of b k) b
    (λ e.
    let u : b * 2 ^ 30 / 2 ^ k * 2 ^ k ≡ b * 2 ^ 30 = unlike-none _ _ (omega arith) in
    let y : b * 2 ^ 30 / 2 ^ k ≡ 0 = omega arith in
    omega (arith, u, ap (λ (z : ℕ). z * 2 ^ k) y))
    (λ e.
    let z : b * 2 ^ 30 ≡ 0 = omega arith in
    let y : b * 2 ^ 30 / 2 ^ k ≡ 0 = ap (λ (n : ℕ). n / 2 ^ k) z ∙ zero-div (2 ^ k) in
    let u = unlike-same (b * 2 ^ 30 / 2 ^ k * 2 ^ k) (b * 2 ^ 30) (ap (λ (n : ℕ). n * 2 ^ k) y ∙ omega arith) in
    omega (arith, y, u))

-- what is left decides as b does
far-alike : (w : Direction) (a b j k l : ℕ) → 2 ^ 31 ≤ a → a < 2 ^ 32 → left_of b l < 2 ^ 31 → b < 2 ^ k → 31 ≤ j + k
    → compare (left_of b l * 2) (2 ^ 31) ≡ compare (b * 2) (2 ^ k) → round_by w (aligned_of a b l) 1 (j + k - 31) ≡ round_by w (a * 2 ^ k + b) 1 j
far-alike w a b j k l lo hi hl hb hj c =
    let x : j + k - 31 + 31 ≡ j + k = omega arith in
    ap (λ (p : ℕ). round_by w p 1 (j + k - 31)) (aligned-left a b l) ∙ by_units w a (left_of b l) (j + k - 31) 31 hl lo hi
    ∙ ap₂ renormalised (taken-alike w a (left_of b l) (2 ^ 31) b (2 ^ k) c (left-zero b l)) x ∙ sym (by_units w a b j k hb lo hi)

-- 32 places apart: what is left of b is less than half a unit, half a unit or more, as b is
module _ (b : ℕ) (g : b < 2 ^ 32) where
  abbrev dropped : ℕ
  dropped = unlike_of (b * 2 ^ 30 / 2 ^ 32 * 2 ^ 32) (b * 2 ^ 30)

  -- whether digits of b are dropped
  digits : ((b % 4 ≡ 0) × (dropped ≡ 0)) ⊎ ((1 ≤ b % 4) × (dropped ≡ 1))
  digits =
      rw (quarter b)
      (elim (dec_lt (b % 4) 1) [
        | yes h ↦ inl (omega arith, unlike-same (b / 4 * 2 ^ 32) (b * 2 ^ 30) (omega arith))
        | no h ↦ inr (omega arith, unlike-other (b / 4 * 2 ^ 32) (b * 2 ^ 30) (omega arith))
      ])

  by_digits : {A : Type 0} → (b % 4 ≡ 0 → dropped ≡ 0 → A) → (1 ≤ b % 4 → dropped ≡ 1 → A) → A
  by_digits none some = ⊎_elim (λ (c : (b % 4 ≡ 0) × (dropped ≡ 0)). none c.0 c.1) (λ (c : (1 ≤ b % 4) × (dropped ≡ 1)). some c.0 c.1) digits

  left-fits : left_of b 32 < 2 ^ 31
  left-fits = by_digits (λ h e. omega (arith, quarter b)) (λ h e. omega (arith, quarter b))

  left-compare : compare (left_of b 32 * 2) (2 ^ 31) ≡ compare (b * 2) (2 ^ 32)
  left-compare =
      compare_alike (left_of b 32 * 2) (2 ^ 31) (b * 2) (2 ^ 32)
      (λ l. by_digits (λ h e. omega (arith, quarter b)) (λ h e. omega (arith, quarter b)))
      (λ l. by_digits (λ h e. omega (arith, quarter b)) (λ h e. omega (arith, quarter b)))
      (λ l. by_digits (λ h e. omega (arith, quarter b)) (λ h e. omega (arith, quarter b)))

-- ---- the sum of a * 2 ^ k and b at exponent j, as it is aligned
near : (w : Direction) (a b j k : ℕ) → 2 ^ 31 ≤ a → a < 2 ^ 32 → b < 2 ^ 32 → k ≤ 31 → 31 ≤ j + k
    → aligned_of a b k ≡ (a * 2 ^ k + b) * 2 ^ (31 - k) → round_by w (aligned_of a b k) 1 (j + k - 31) ≡ round_by w (a * 2 ^ k + b) 1 j
near w a b j k lo hi hb hk hj e =
    let n : ℕ = a * 2 ^ k + b in
    let pn : 0 < n = omega (arith, mul-pos {m = a} {n = 2 ^ k} (omega arith) (pow_pos k)) in
    let l = aligned-low a b k lo in
    let h = aligned-high a b k hi hb in
    let s : round_by w n 1 j ≡ round_by w (n * 2 ^ (31 - k)) 1 (j + k - 31) = elim (dec_lt (aligned_of a b k) (2 ^ 63)) [
      | yes t ↦ scaled w n j (31 - k) 31 (j + k - 31) pn (omega arith) (omega arith) (omega (arith, e, l)) (omega (arith, e))
      | no t ↦ scaled w n j (31 - k) 32 (j + k - 31) pn (omega arith) (omega arith) (omega (arith, e)) (omega (arith, e, h))
    ] in
    ap (λ (p : ℕ). round_by w p 1 (j + k - 31)) e ∙ sym s

-- from 33 places on both are less than half a unit
far : (w : Direction) (a b j k l : ℕ) → 2 ^ 31 ≤ a → a < 2 ^ 32 → b < 2 ^ 32 → 33 ≤ k → 33 ≤ l
    → round_by w (aligned_of a b l) 1 (j + k - 31) ≡ round_by w (a * 2 ^ k + b) 1 j
far w a b j k l lo hi hb hk hl =
    let y : b * 2 ^ 30 / 2 ^ l < 2 ^ 29 = (div-lt_iff_lt-mul (pow_pos l)).1 (omega (arith, pow_mono {i = 33} {j = l} hl)) in
    let s = unlike-le (b * 2 ^ 30 / 2 ^ l * 2 ^ l) (b * 2 ^ 30) in
    let f : left_of b l * 2 < 2 ^ 31 = omega (arith, y, s) in
    let g : b * 2 < 2 ^ k = omega (arith, pow_mono {i = 33} {j = k} hk) in
    far-alike w a b j k l lo hi (omega arith) (omega arith) (omega arith)
    (compare_alike (left_of b l * 2) (2 ^ 31) (b * 2) (2 ^ k) (λ h. g) (λ h. absurd (omega arith)) (λ h. absurd (omega arith)))

pub aligned-is : (w : Direction) (a b j k : ℕ) → 2 ^ 31 ≤ a → a < 2 ^ 32 → b < 2 ^ 32 → 31 ≤ j + k
    → round_by w (aligned_of a b (min k 63)) 1 (j + k - 31) ≡ round_by w (a * 2 ^ k + b) 1 j
aligned-is w a b j k lo hi hb hj = elim (dec_lt k 32) [ yes h ↦ below h | no h ↦ above (omega arith) ]
  where
    Goal : ℕ → Type 0
    Goal i = round_by w (aligned_of a b i) 1 (j + k - 31) ≡ round_by w (a * 2 ^ k + b) 1 j

    just : (i : ℕ) → k ≡ i → i ≤ 32 → Goal k → Goal (min k 63)
    just i e l g = subst Goal (sym (min-eq_left (omega arith))) g

    at-31 : k ≡ 31 → Goal k
    at-31 e =
        near w a b j k lo hi hb (omega arith) hj
        (subst (λ (i : ℕ). aligned_of a b i ≡ (a * 2 ^ i + b) * 2 ^ (31 - i)) (sym e) (aligned-31 a b ∙ omega arith))

    below : k < 32 → Goal (min k 63)
    below h =
        just k refl (omega arith)
        (elim (dec_lt k 31) [
          | yes l ↦ near w a b j k lo hi hb (omega arith) hj (aligned-near a b k (omega arith))
          | no l ↦ at-31 (omega arith)
        ])

    at-32 : k ≡ 32 → Goal k
    at-32 e =
        subst (λ (i : ℕ). round_by w (aligned_of a b i) 1 (j + i - 31) ≡ round_by w (a * 2 ^ i + b) 1 j) (sym e)
        (far-alike w a b j 32 32 lo hi (left-fits b hb) hb (omega arith) (left-compare b hb))

    above : 32 ≤ k → Goal (min k 63)
    above h = elim (dec_lt k 33) [
      | yes l ↦ just k refl (omega arith) (at-32 (omega arith))
      | no l ↦ far w a b j k (min k 63) lo hi hb (omega arith) (omega arith)
    ]
