-- How far each operation takes the exponents, in any direction: `sum-spans`, `product-spans`, `quotient-spans` of operands that are not zero, `ranged-sum`,
-- `ranged-product`, `ranged-quotient` of any, and to nearest `ranged-difference`; `ranged-more` widens a range; `ranged-zero`, `ranged-one` and
-- `ranged-stored` start one; `in-range-stored` and `stored-in-range` tie the code's test to stored numbers.
use mathlib.Core.Path.{◌≡◌, refl, sym, ap, ◌∙◌, subst}
use mathlib.Core.Bool.{true, false}
use Prim.Native.Nat.{ℕ, zero, suc, ◌+◌, ◌-◌, ◌*◌, ◌^◌, ◌≤◌, ◌<◌, min}
use native.Mathlib.Nat.{mul-le-mul, mul-le-mul_right, min_comm}
use native.Mathlib.Decide.{dec_le}
use native.Mathlib.Omega.{arith}
use borrow.Author.Tests.{leb-true, le-leb, ltb-true}
use lib.Dec.{leb}
use lib.Pow.{pow_pos, pow-add}
use Rattle.number.proofs.Tests.{both}
use Rattle.number.proofs.Rounding.{round-represents, round-start, round-stop, round-zero}
use Rattle.number.proofs.Division.{shift-range, quotient-divided}
use Rattle.number.proofs.Zero.{sum_is, sum_comm, sum-zero-left, sum-zero-right, product-zero-left, product-zero-right, quotient-zero-left}
use Rattle.number.proofs.Zero.{round-positive}
use Rattle.number.proofs.Order.{not-below, difference-is, difference-zero-right}
use Rattle.number.specs.Number.{bias, zero_number, one_number, round, Ranged, Stored, in_range, sum_by, product_by, quotient_by}
use Rattle.number.specs.Signed.{integer_at, below, difference_of}
use Rattle.number.specs.declared.Direction.{Direction}
use Rattle.number.specs.declared.Direction.TheVariants.{Nearest}
use Rattle.number.specs.declared.Number.{Number}

pub ranged-more : {r s : ℕ} {a : Number} → r ≤ s → Ranged r a → Ranged s a
ranged-more h w = record { zero = w.zero; low = w.low; high = w.high; start = omega arith; stop = omega arith }

pub ranged-zero : (r : ℕ) → Ranged r zero_number
ranged-zero r = record { zero = λ e. refl; low = λ h. absurd (omega arith); high = omega arith; start = omega arith; stop = omega arith }

-- a mantissa of 32 bits
normal : (r : ℕ) (a : Number) → 2 ^ 31 ≤ a.m → a.m < 2 ^ 32 → bias ≤ a.x + r → a.x ≤ bias + r → Ranged r a
normal r a l h s t = record { zero = λ e. absurd (omega arith); low = λ p. l; high = h; start = s; stop = t }

-- the same at an exponent from i to j
pub record Spans (i j : ℕ) (a : Number) : Type 0 where
  pub low : 2 ^ 31 ≤ a.m
  pub high : a.m < 2 ^ 32
  pub start : i ≤ a.x
  pub stop : a.x ≤ j

spanned : {r i j : ℕ} {a : Number} → Spans i j a → bias ≤ i + r → j ≤ bias + r → Ranged r a
spanned {r} {i} {j} {a} s g h = normal r a s.low s.high (omega (arith, s.start)) (omega (arith, s.stop))

pub ranged-one : Ranged 31 one_number
ranged-one = normal 31 one_number (omega arith) (omega arith) (omega arith) (omega arith)

pub ranged-stored : {a : Number} → Stored a → Ranged 1000 a
ranged-stored {a} s = normal 1000 a s.low s.high s.start s.stop

-- ---- stored numbers and the test of the exponent
pub stored-in-range : {a : Number} → Stored a → in_range a ≡ true
unfolding in_range
stored-in-range {a} s = simp (le-leb bias (a.x + 1000) s.start, le-leb a.x (bias + 1000) s.stop)

pub in-range-stored : {r : ℕ} {a : Number} → Ranged r a → 0 < a.m → in_range a ≡ true → Stored a
unfolding in_range
in-range-stored {r} {a} u p e =
    let t = both (leb bias (a.x + 1000)) (leb a.x (bias + 1000)) e in
    record { low = u.low p; high = u.high; start = leb-true bias (a.x + 1000) t.0; stop = leb-true a.x (bias + 1000) t.1 }

-- ---- quotients: the whole quotient is shifted by 31 places or 32
module _ (w : Direction) {r s : ℕ} {a b : Number} (u : Ranged r a) (v : Ranged s b) where
  pub quotient-spans : 0 < a.m → 0 < b.m → let x = a.x + bias - b.x in Spans (x - 32) (x - 31) (quotient_by w a b)
  quotient-spans p q =
      let d = quotient-divided w u v p q in
      let f = d.after in
      let s = shift-range a.m b.m in
      record {
        low = omega (arith, d.mantissa, f.low);
        high = omega (arith, d.mantissa, f.high);
        start = omega (arith, d.exponent, s.1);
        stop = omega (arith, d.exponent, s.0);
      }

  pub ranged-quotient : 0 < b.m → Ranged (r + s + 32) (quotient_by w a b)
  ranged-quotient q = go a.m refl
    where
      go : (i : ℕ) → a.m ≡ i → Ranged (r + s + 32) (quotient_by w a b)
      go zero e = subst (Ranged (r + s + 32)) (sym (quotient-zero-left w a b e)) (ranged-zero (r + s + 32))
      go (suc i) e = spanned (quotient-spans (omega arith) q) (omega (arith, u.start, v.stop)) (omega (arith, u.stop, v.start))

-- ---- products
module _ (w : Direction) {r s : ℕ} {a b : Number} (u : Ranged r a) (v : Ranged s b) (small : r + s + 64 ≤ bias) where
  pub product-spans : 0 < a.m → 0 < b.m → let x = a.x + b.x - bias in Spans (x + 31) (x + 33) (product_by w a b)
  unfolding product_by
  product-spans p q =
      let la : 2 ^ 31 ≤ a.m = u.low p in
      let lb : 2 ^ 31 ≤ b.m = v.low q in
      let ha : a.m ≤ 2 ^ 32 - 1 = omega (arith, u.high) in
      let hb : b.m ≤ 2 ^ 32 - 1 = omega (arith, v.high) in
      let n : ℕ = a.m * b.m in
      let x : ℕ = a.x + b.x - bias in
      let lo : 2 ^ 62 ≤ n = mul-le-mul la lb in
      let hi : n ≤ (2 ^ 32 - 1) * (2 ^ 32 - 1) = mul-le-mul ha hb in
      let c = round-represents n 1 x (omega arith) (omega arith) (omega arith) w in
      let g = round-start n 1 x (omega arith) (omega arith) (omega arith) w 94 (omega arith) in
      let h = round-stop n 1 x (omega arith) (omega arith) (omega arith) w 96 (omega arith) (omega (arith, u.start, v.start)) in
      record { low = c.low; high = c.high; start = omega arith; stop = omega arith }

  pub ranged-product : Ranged (r + s + 33) (product_by w a b)
  ranged-product = go a.m b.m refl refl
    where
      go : (i j : ℕ) → a.m ≡ i → b.m ≡ j → Ranged (r + s + 33) (product_by w a b)
      go zero j e f = subst (Ranged (r + s + 33)) (sym (product-zero-left w a b e)) (ranged-zero (r + s + 33))
      go (suc i) zero e f = subst (Ranged (r + s + 33)) (sym (product-zero-right w a b f)) (ranged-zero (r + s + 33))
      go (suc i) (suc j) e f =
          spanned (product-spans (omega arith) (omega arith)) (omega (arith, u.start, v.start)) (omega (arith, u.stop, v.stop, u.start, v.start))

-- ---- sums
-- the lower exponent second
pub sum-spans : (w : Direction) (r : ℕ) (a b : Number) → Ranged r a → Ranged r b → 0 < a.m → r + 64 ≤ bias → b.x ≤ a.x
    → Spans a.x (a.x + 2) (sum_by w a b)
sum-spans w r a b u v p small l =
    let k : ℕ = a.x - b.x in
    let n : ℕ = a.m * 2 ^ k + b.m in
    let la : 2 ^ 31 ≤ a.m = u.low p in
    let ha : a.m ≤ 2 ^ 32 - 1 = omega (arith, u.high) in
    let lo : 2 ^ 31 * 2 ^ k ≤ a.m * 2 ^ k = mul-le-mul_right (2 ^ k) la in
    let hi : a.m * 2 ^ k ≤ (2 ^ 32 - 1) * 2 ^ k = mul-le-mul_right (2 ^ k) ha in
    let b' : b.m < 2 ^ 32 = v.high in
    let pk : 0 < 2 ^ k = pow_pos k in
    let c = round-represents n 1 b.x (omega arith) (omega arith) (omega arith) w in
    let g = round-start n 1 b.x (omega arith) (omega arith) (omega arith) w (63 + k) (rw (pow-add 2 63 k) (omega arith)) in
    let h = round-stop n 1 b.x (omega arith) (omega arith) (omega arith) w (65 + k) (rw (pow-add 2 65 k) (omega arith)) (omega (arith, v.start)) in
    subst (Spans a.x (a.x + 2)) (sym (sum_is w a b l)) (record { low = c.low; high = c.high; start = omega arith; stop = omega arith })

ordered-sum : (w : Direction) (r : ℕ) (a b : Number) → Ranged r a → Ranged r b → 0 < a.m → r + 64 ≤ bias → b.x ≤ a.x → Ranged (r + 2) (sum_by w a b)
ordered-sum w r a b u v p small l = spanned (sum-spans w r a b u v p small l) (omega (arith, u.start)) (omega (arith, u.stop))

pub ranged-sum : (w : Direction) {r : ℕ} {a b : Number} → Ranged r a → Ranged r b → r + 64 ≤ bias → Ranged (r + 2) (sum_by w a b)
ranged-sum w {r} {a} {b} u v small = go a.m b.m refl refl (dec_le b.x a.x)
  where
    go : (i j : ℕ) → a.m ≡ i → b.m ≡ j → Dec (b.x ≤ a.x) → Ranged (r + 2) (sum_by w a b)
    go zero j e f d = subst (Ranged (r + 2)) (sym (sum-zero-left w a b v e)) (ranged-more (omega arith) v)
    go (suc i) zero e f d = subst (Ranged (r + 2)) (sym (sum-zero-right w a b u f)) (ranged-more (omega arith) u)
    go (suc i) (suc j) e f (yes l) = ordered-sum w r a b u v (omega arith) small l
    go (suc i) (suc j) e f (no l) = subst (Ranged (r + 2)) (sum_comm w b a) (ordered-sum w r b a v u (omega arith) small (omega arith))

-- ---- differences: cancellation may lower the exponent by 31
pub difference-positive : (a b : Number) → below b a ≡ true → 0 < (difference_of a b).m
unfolding below difference_of
difference-positive a b h =
    let l : ℕ = min a.x b.x in
    let g = ltb-true (integer_at (min b.x a.x) b) (integer_at (min b.x a.x) a) h in
    let p : integer_at l b < integer_at l a = subst (λ (k : ℕ). integer_at k b < integer_at k a) (min_comm b.x a.x) g in
    round-positive Nearest (integer_at l a - integer_at l b) 1 l (omega arith) (omega arith) (omega arith)

-- a positive whole number of at most 32 + k digits, at an exponent within r that is k below one within r
ranged-integer : (r n k x : ℕ) → r + 64 ≤ bias → bias ≤ x + r → x + k ≤ bias + r → n < 2 ^ 32 * 2 ^ k → Ranged (r + 31) (round n 1 x)
ranged-integer r n k x small start stop hi = go n refl
  where
    go : (i : ℕ) → n ≡ i → Ranged (r + 31) (round n 1 x)
    go zero e = subst (Ranged (r + 31)) (sym (ap (λ (z : ℕ). round z 1 x) e ∙ round-zero Nearest 1 x)) (ranged-zero (r + 31))
    go (suc i) e =
        let c = round-represents n 1 x (omega arith) (omega arith) (omega arith) Nearest in
        let g = round-start n 1 x (omega arith) (omega arith) (omega arith) Nearest 32 (omega arith) in
        let h = round-stop n 1 x (omega arith) (omega arith) (omega arith) Nearest (64 + k) (rw (pow-add 2 64 k) (omega arith)) (omega arith) in
        normal (r + 31) (round n 1 x) c.low c.high (omega (arith, g)) (omega (arith, h))

pub ranged-difference : {r : ℕ} {a b : Number} → Ranged r a → Ranged r b → r + 64 ≤ bias → below a b ≡ false → Ranged (r + 31) (difference_of a b)
ranged-difference {r} {a} {b} u v small h = go b.m refl
  where
    go : (i : ℕ) → b.m ≡ i → Ranged (r + 31) (difference_of a b)
    go zero e = subst (Ranged (r + 31)) (sym (difference-zero-right a b u e)) (ranged-more (omega arith) u)
    go (suc i) e =
        let n = not-below a b u v (omega arith) h in
        let k : ℕ = a.x - b.x in
        let ha : a.m ≤ 2 ^ 32 - 1 = omega (arith, u.high) in
        let hi : a.m * 2 ^ k ≤ (2 ^ 32 - 1) * 2 ^ k = mul-le-mul_right (2 ^ k) ha in
        let l : b.x ≤ a.x = n.exponent in
        subst (Ranged (r + 31)) (sym (difference-is a b l))
        (ranged-integer r (a.m * 2 ^ k - b.m) k b.x small v.start (omega (arith, u.stop)) (omega (arith, pow_pos k)))
