-- A rest by its whole numbers: what an odd part stands for (`odd-value`), the balance p = q + rest (`rest-parts`), odd or none (`rest-odd`), its sign
-- (`rest-sign`), size (`rest-at-most`) and exponent (`rest-place`); a number added to both sides changes nothing (`rest-shifted`). Exponents keep their bias,
-- and 2 ^ bias is never computed.
use mathlib.Core.Path.{◌≡◌, refl, sym, ap, ap₂, ◌∙◌, subst}
use mathlib.Core.Bool.{Bool, true, false, cond, false≢true}
use mathlib.Core.Logic.{◌⊎◌, ◌↔◌, inl, inr}
use Prim.Native.Nat.{ℕ, zero, suc, ◌+◌, ◌-◌, ◌*◌, ◌/◌, ◌%◌, ◌^◌, ◌≤◌, ◌<◌}
use native.Mathlib.Nat.{zero-mul, div-le_self}
use native.Mathlib.Omega.{arith}
use native.Mathlib.Decide.{dec_lt}
use borrow.Author.Tests.{lt-ltb, le-ltb, ne_eqb}
use lib.Count.{trailing_le}
use lib.Dec.{eqb, ltb}
use lib.Ieee.{size}
use lib.Ieee.Digits.{size-lt, size-le}
use lib.Pow.{pow-add}
use Rattle.number.specs.Number.{bias}
use Rattle.rests.specs.Rest.{no_rest, twos, odd_part, rest_of}
use Rattle.rests.specs.declared.Rest.{Rest}
use Rattle.rests.proofs.Odd.{halves}

-- odd, or none
abbrev pub OddRest : Rest → Type 0
OddRest r = (r ≡ no_rest) ⊎ (r.odd % 2 ≡ 1)

-- ---- the two parts of a rest, as whole numbers times 2 ^ x
abbrev pub plus_odd : Rest → ℕ
plus_odd r = cond r.negative 0 r.odd

abbrev pub minus_odd : Rest → ℕ
minus_odd r = cond r.negative r.odd 0

abbrev pub plus_part : Rest → ℕ
plus_part r = plus_odd r * 2 ^ r.x

abbrev pub minus_part : Rest → ℕ
minus_part r = minus_odd r * 2 ^ r.x

-- ---- an odd part
abbrev taken : Bool → ℕ → ℕ → Rest
taken s n x = record { negative = s; odd = n / 2 ^ twos n; x = x + twos n }

module _ (s : Bool) (n x : ℕ) where
  pub odd-none : n ≡ 0 → odd_part s n x ≡ no_rest
  unfolding odd_part
  odd-none e = ap (λ (k : ℕ). cond (eqb k 0) no_rest (taken s n x)) e

  pub odd-some : 0 < n → odd_part s n x ≡ taken s n x
  unfolding odd_part
  odd-some p = ap (λ (t : Bool). cond t no_rest (taken s n x)) (ne_eqb n 0 (λ e. omega arith))

  -- by whether there is anything
  odd-by : (P : Rest → Type 0) → (n ≡ 0 → P no_rest) → (0 < n → P (taken s n x)) → P (odd_part s n x)
  odd-by P none some = go n refl
    where
      go : (k : ℕ) → n ≡ k → P (odd_part s n x)
      go zero e = subst P (sym (odd-none e)) (none e)
      go (suc k) e = let p : 0 < n = omega arith in subst P (sym (odd-some p)) (some p)

  -- n × 2 ^ x
  pub odd-value : (odd_part s n x).odd * 2 ^ (odd_part s n x).x ≡ n * 2 ^ x
  odd-value =
      odd-by (λ r. r.odd * 2 ^ r.x ≡ n * 2 ^ x) (λ e. zero-mul (2 ^ bias) ∙ sym (ap (λ (k : ℕ). k * 2 ^ x) e ∙ zero-mul (2 ^ x)))
      (λ p.
      let h = halves (size n) n p (size-lt n) in
      ap (λ (z : ℕ). n / 2 ^ twos n * z) (pow-add 2 x (twos n)) ∙ omega (arith, ap (λ (z : ℕ). z * 2 ^ x) h.whole))

  odd-or-none : OddRest (odd_part s n x)
  odd-or-none = odd-by OddRest (λ e. inl refl) (λ p. inr (halves (size n) n p (size-lt n)).odd)

  odd-at-most : (odd_part s n x).odd ≤ n
  odd-at-most = odd-by (λ r. r.odd ≤ n) (λ e. omega arith) (λ p. div-le_self n (2 ^ twos n))

  -- the exponent grows by the twos, fewer than the digits
  odd_place : n < 2 ^ 32 → (odd_part s n x).x ≤ x + bias + 32
  odd_place h = odd-by (λ r. r.x ≤ x + bias + 32) (λ e. omega arith) (λ p. omega (arith, trailing_le (size n) n, size-le n 32 h))

odd-plus : (n x : ℕ) → (odd_part false n x).negative ≡ false
odd-plus n x = odd-by false n x (λ r. r.negative ≡ false) (λ e. refl) (λ p. refl)

odd-minus : (n x : ℕ) → 0 < n → (odd_part true n x).negative ≡ true
odd-minus n x p = ap (λ (r : Rest). r.negative) (odd-some true n x p)

-- ---- the rest p - q at exponent x
module _ (p q x : ℕ) where
  pub rest-above : p < q → rest_of p q x ≡ odd_part true (q - p) x
  unfolding rest_of
  rest-above h = ap (λ (t : Bool). cond t (odd_part true (q - p) x) (odd_part false (p - q) x)) (lt-ltb p q h)

  pub rest-not-above : q ≤ p → rest_of p q x ≡ odd_part false (p - q) x
  unfolding rest_of
  rest-not-above h = ap (λ (t : Bool). cond t (odd_part true (q - p) x) (odd_part false (p - q) x)) (le-ltb p q h)

  -- by which is larger
  rest-by : (P : Rest → Type 0) → (p < q → P (odd_part true (q - p) x)) → (q ≤ p → P (odd_part false (p - q) x)) → P (rest_of p q x)
  rest-by P above not-above = elim (dec_lt p q) [
    | yes h ↦ subst P (sym (rest-above h)) (above h)
    | no h ↦ let l : q ≤ p = omega arith in subst P (sym (rest-not-above l)) (not-above l)
  ]

  pub rest-odd : OddRest (rest_of p q x)
  rest-odd = rest-by OddRest (λ h. odd-or-none true (q - p) x) (λ h. odd-or-none false (p - q) x)

  -- negative exactly where q is the larger
  pub rest-sign : ((rest_of p q x).negative ≡ true) ↔ (p < q)
  rest-sign =
      rest-by (λ r. (r.negative ≡ true) ↔ (p < q)) (λ h. (λ e. h, λ g. odd-minus (q - p) x (omega arith)))
      (λ h. (λ e. absurd (false≢true (sym (odd-plus (p - q) x) ∙ e)), λ g. absurd (omega arith)))

  -- its odd number is not above the distance of p and q
  pub rest-at-most : (d : ℕ) → p ≤ q + d → q ≤ p + d → (rest_of p q x).odd ≤ d
  rest-at-most d a b =
      rest-by (λ r. r.odd ≤ d) (λ h. omega (arith, odd-at-most true (q - p) x)) (λ h. omega (arith, odd-at-most false (p - q) x))

  pub rest-place : p < q + 2 ^ 32 → q < p + 2 ^ 32 → (rest_of p q x).x ≤ x + bias + 32
  rest-place a b =
      rest-by (λ r. r.x ≤ x + bias + 32) (λ h. odd_place true (q - p) x (omega arith)) (λ h. odd_place false (p - q) x (omega arith))

  -- q and the rest are p
  pub rest-parts : q * 2 ^ x + plus_part (rest_of p q x) ≡ p * 2 ^ x + minus_part (rest_of p q x)
  rest-parts =
      rest-by (λ r. q * 2 ^ x + plus_part r ≡ p * 2 ^ x + minus_part r)
      (λ h.
      let d : p + (q - p) ≡ q = omega arith in
      let z = zero-mul (2 ^ (odd_part true (q - p) x).x) in
      rw (odd-minus (q - p) x (omega arith)) (omega (arith, ap (λ (z : ℕ). z * 2 ^ x) d, odd-value true (q - p) x)))
      (λ h.
      let d : q + (p - q) ≡ p = omega arith in
      let z = zero-mul (2 ^ (odd_part false (p - q) x).x) in
      rw (odd-plus (p - q) x) (omega (arith, ap (λ (z : ℕ). z * 2 ^ x) d, odd-value false (p - q) x)))

-- by one test: the distance of p and q, with its sign
pub rest-apart : (p q x : ℕ) → odd_part (ltb p q) (p - q + (q - p)) x ≡ rest_of p q x
rest-apart p q x = elim (dec_lt p q) [
  | yes h ↦
      let d : p - q + (q - p) ≡ q - p = omega arith in
      ap₂ (λ (s : Bool) (n : ℕ). odd_part s n x) (lt-ltb p q h) d ∙ sym (rest-above p q x h)
  | no h ↦
      let l : q ≤ p = omega arith in
      let d : p - q + (q - p) ≡ p - q = omega arith in
      ap₂ (λ (s : Bool) (n : ℕ). odd_part s n x) (le-ltb p q l) d ∙ sym (rest-not-above p q x l)
]

-- what is added on both sides takes no part
pub rest-shifted : (c p q x : ℕ) → rest_of (c + p) (c + q) x ≡ rest_of p q x
rest-shifted c p q x = elim (dec_lt p q) [
  | yes h ↦
      let d : c + q - (c + p) ≡ q - p = omega arith in
      rest-above (c + p) (c + q) x (omega arith) ∙ ap (λ (n : ℕ). odd_part true n x) d ∙ sym (rest-above p q x h)
  | no h ↦
      let d : c + p - (c + q) ≡ p - q = omega arith in
      rest-not-above (c + p) (c + q) x (omega arith) ∙ ap (λ (n : ℕ). odd_part false n x) d ∙ sym (rest-not-above p q x (omega arith))
]
