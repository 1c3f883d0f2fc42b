-- The property determines the number: two mantissas of 32 bits that are both nearest to a fraction, ties going to the even one, are the same number
-- (`nearest-unique`); so are two that are the largest not above it, or the smallest not below it (`toward-unique`). So what `Toward` says of a result leaves no
-- choice, in any direction.
use mathlib.Core.Path.{◌≡◌, sym, ap, ap₂, ◌∙◌}
use mathlib.Core.Logic.{◌⊎◌, inl, inr}
use Prim.Native.Nat.{ℕ, ◌+◌, ◌-◌, ◌*◌, ◌%◌, ◌^◌, ◌≤◌, ◌<◌}
use native.Mathlib.Nat.{mul-pos, mul-le-mul, mul-le-mul_right, lt_of_mul-lt-mul_right, eq_of_mul-eq-mul_right, le_of_lt, not-le_of_lt, mul-lt-mul_of_pos_right}
use native.Mathlib.Nat.{eq-or-lt_of_le, le_antisymm}
use native.Mathlib.Decide.{dec_le, dec_lt}
use native.Mathlib.Omega.{arith}
use lib.Pow.{pow_pos, pow-add, pow_mono}
use Rattle.fraction.specs.Fraction.{Fraction, Same}
use Rattle.number.proofs.Nearest.{over-near}
use Rattle.number.proofs.Value.{scale, scale-positive, Over, value-over}
use Rattle.number.specs.Nearest.{gap, AtLeastAsNear, NearestTo, Normal}
use Rattle.number.specs.Number.{bias, value}
use Rattle.number.specs.Toward.{Toward}
use Rattle.number.specs.declared.Direction.{Direction}
use Rattle.number.specs.declared.Direction.TheVariants.{Nearest, Down, Up}
use Rattle.number.specs.declared.Number.{Number}

-- ---- the order of m × 2 ^ x
-- a higher exponent gives the larger number
exponents : (m x n y : ℕ) → 2 ^ 31 ≤ n → m < 2 ^ 32 → x < y → m * 2 ^ x < n * 2 ^ y
exponents m x n y l h g =
    let e : x + (y - x) ≡ y = omega arith in
    let p : 2 ^ x * 2 ^ (y - x) ≡ 2 ^ y = sym (pow-add 2 x (y - x)) ∙ ap (λ (k : ℕ). 2 ^ k) e in
    let two : 2 ≤ 2 ^ (y - x) = pow_mono {i = 1} {j = y - x} (omega arith) in
    let m' : m + 1 ≤ 2 ^ 32 = omega arith in
    let a = mul-le-mul_right (2 ^ x) (mul-le-mul l two) in
    let b = mul-le-mul_right (2 ^ x) m' in
    let c = ap (λ (z : ℕ). n * z) p in
    omega (arith, pow_pos x)

-- the next number after m × 2 ^ x is (m + 1) × 2 ^ x
next : (m x n y : ℕ) → 2 ^ 31 ≤ m → n < 2 ^ 32 → m * 2 ^ x < n * 2 ^ y → (m + 1) * 2 ^ x ≤ n * 2 ^ y
next m x n y l h g = go (dec_le x y)
  where
    go : Dec (x ≤ y) → (m + 1) * 2 ^ x ≤ n * 2 ^ y
    go (yes k) =
        let e : y - x + x ≡ y = omega arith in
        let p : 2 ^ (y - x) * 2 ^ x ≡ 2 ^ y = sym (pow-add 2 (y - x) x) ∙ ap (λ (k : ℕ). 2 ^ k) e in
        let c : n * 2 ^ (y - x) * 2 ^ x ≡ n * 2 ^ y = omega (arith, ap (λ (z : ℕ). n * z) p) in
        let d : m < n * 2 ^ (y - x) = lt_of_mul-lt-mul_right (2 ^ x) (rw c g) in
        let d' : m + 1 ≤ n * 2 ^ (y - x) = omega arith in
        rw (← c) (mul-le-mul_right (2 ^ x) d')
    go (no k) = absurd (not-le_of_lt g (le_of_lt (exponents n y m x l h (omega arith))))

same_number : (a b : Number) → Normal a → Normal b → a.m * 2 ^ a.x ≡ b.m * 2 ^ b.x → a ≡ b
same_number a b u v e = go (dec_lt a.x b.x) (dec_lt b.x a.x)
  where
    go : Dec (a.x < b.x) → Dec (b.x < a.x) → a ≡ b
    go (yes h) k = absurd (omega (arith, exponents a.m a.x b.m b.x v.low u.high h))
    go (no h) (yes k) = absurd (omega (arith, exponents b.m b.x a.m a.x u.low v.high k))
    go (no h) (no k) =
        let x : a.x ≡ b.x = omega arith in
        let m : a.m ≡ b.m = eq_of_mul-eq-mul_right (2 ^ b.x) (pow_pos b.x) a.m b.m (ap (λ (z : ℕ). a.m * 2 ^ z) (sym x) ∙ e) in
        ap₂ (λ (m x : ℕ). record { m = m; x = x }) m x

-- ---- values over one denominator
abbrev top : Number → ℕ
top a = a.m * 2 ^ a.x

value-top : (a b : Number) → Same (value a) (value b) → top a ≡ top b
value-top a b h =
    eq_of_mul-eq-mul_right ((value a).low * (value b).low) (mul-pos (value a).above_zero (value b).above_zero) (top a) (top b)
    (omega (arith, ap (λ (z : ℕ). z * scale) h, ap (λ (z : ℕ). z * (value b).low) (value-over a), ap (λ (z : ℕ). z * (value a).low) (value-over b)))

module _ (q : Fraction) where
  number-over : (a : Number) → Over (scale * q.low) (value a) (top a * q.low)
  number-over a = omega (arith, ap (λ (z : ℕ). z * q.low) (value-over a))

  nearer : (a b : Number) → AtLeastAsNear q (value a) (value b) → gap (top a * q.low) (q.top * scale) ≤ gap (top b * q.low) (q.top * scale)
  nearer a b h =
      over-near (scale * q.low) (top a * q.low) (q.top * scale) (top b * q.low) (value a) q (value b)
      (mul-pos scale-positive q.above_zero) (number-over a) (omega arith) (number-over b) h

  best : (a b : Number) → NearestTo q a → b.m < 2 ^ 32 → AtLeastAsNear q (value a) (value b)
  unfolding value
  best a b n h = n.best b.m (b.x - bias) (bias - b.x) h

  even : (a b : Number) → NearestTo q a → NearestTo q b → a.m < 2 ^ 32 → b.m < 2 ^ 32 → (top b ≡ top a → ⊥) → a.m % 2 ≡ 0
  unfolding value
  even a b n o g h ne = n.even b.m (b.x - bias) (bias - b.x) h (best b a o g) (λ s. ne (value-top b a s))

-- p and p' are as far from e, and c lies between them
between : (p c p' e : ℕ) → p < c → c < p' → gap p' e ≤ gap p e → gap p e ≤ gap c e → ⊥
between p c p' e a b g h = omega arith

-- Of two different numbers that are nearest both are even; but the number next to the lesser is odd, and so lies between them, and is nearer.
no-larger : (q : Fraction) (a b : Number) → Normal a → Normal b → NearestTo q a → NearestTo q b → top a < top b → ⊥
no-larger q a b u v n o l = go (eq-or-lt_of_le (next a.m a.x b.m b.x u.low v.high l))
  where
    even-a : a.m % 2 ≡ 0
    even-a = even q a b n o u.high v.high (λ e. absurd (omega arith))

    even-b : b.m % 2 ≡ 0
    even-b = even q b a o n v.high u.high (λ e. absurd (omega arith))

    c : Number
    c = record { m = a.m + 1; x = a.x }

    normal : Normal c
    normal = record { low = omega (arith, u.low); high = omega (arith, u.high, even-a) }

    go : (top c ≡ top b) ⊎ (top c < top b) → ⊥
    go (inl e) =
        let m = ap (λ (d : Number). d.m) (same_number c b normal v e) in
        omega (arith, even-a, even-b)
    go (inr h) =
        let p = mul-lt-mul_of_pos_right {k = q.low} h q.above_zero in
        between (top a * q.low) (top c * q.low) (top b * q.low) (q.top * scale)
        (omega (arith, mul-pos (pow_pos a.x) q.above_zero)) (omega arith)
        (nearer q b a (best q b a o u.high)) (nearer q a c (best q a c n normal.high))

pub nearest-unique : (q : Fraction) (a b : Number) → Normal a → Normal b → NearestTo q a → NearestTo q b → a ≡ b
nearest-unique q a b u v n o = go (dec_lt (top a) (top b)) (dec_lt (top b) (top a))
  where
    go : Dec (top a < top b) → Dec (top b < top a) → a ≡ b
    go (yes h) k = absurd (no-larger q a b u v n o h)
    go (no h) (yes k) = absurd (no-larger q b a v u o n k)
    go (no h) (no k) = same_number a b u v (omega arith)

-- of two extremes neither is beyond the other
pub toward-unique : (w : Direction) (q : Fraction) (a b : Number) → Normal a → Normal b → Toward w q a → Toward w q b → a ≡ b
unfolding value
toward-unique Nearest q a b u v n o = nearest-unique q a b u v n o
toward-unique Down q a b u v n o =
    same_number a b u v
    (value-top a b
    (le_antisymm (o.largest a.m (a.x - bias) (bias - a.x) u.high n.not-above)
    (n.largest b.m (b.x - bias) (bias - b.x) v.high o.not-above)))
toward-unique Up q a b u v n o =
    same_number a b u v
    (value-top a b
    (le_antisymm (n.smallest b.m (b.x - bias) (bias - b.x) v.high o.not-below)
    (o.smallest a.m (a.x - bias) (bias - a.x) u.high n.not-below)))
