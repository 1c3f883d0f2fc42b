-- Zero operands and zero results: a sum with zero is the other operand (`sum-zero-right`), a product with zero and zero divided are zero;
-- a sum is zero only of zeros (`sum-zero`), a product only with a zero (`product-zero`), a quotient only of zero (`quotient-zero`).
-- With them what the code's tests need: the exponents' order (`sum_is`, `sum_comm`, `sum-ordered`). All of it in every direction.
use mathlib.Core.Path.{◌≡◌, refl, sym, ap, ◌∙◌}
use mathlib.Core.Bool.{Bool, true, false, cond}
use mathlib.Core.Logic.{◌↔◌, ◌⊎◌, ⊎_elim, inl, inr}
use Prim.Native.Nat.{ℕ, zero, suc, ◌+◌, ◌-◌, ◌*◌, ◌^◌, ◌≤◌, ◌<◌, min}
use native.Mathlib.Nat.{min-eq_right, min_comm, min-le_left, sub_self, mul-one, zero-mul, add_comm, mul_comm, mul-pos}
use native.Mathlib.Omega.{arith}
use borrow.Author.Tests.{ltb-true, ltb-false}
use lib.Dec.{ltb}
use lib.Pow.{pow_pos, pow-add}
use Rattle.number.proofs.Rounding.{round-zero, round_exact, round-represents}
use Rattle.number.proofs.Tests.{none}
use Rattle.number.specs.Number.{bias, reach, zero_number, round_by, FullDigits, Ranged, sum_by, product_by, quotient_by}
use Rattle.number.specs.declared.Direction.{Direction}
use Rattle.number.specs.declared.Number.{Number}

-- ---- sums, from the lower exponent
pub sum_is : (w : Direction) (a b : Number) → b.x ≤ a.x → sum_by w a b ≡ round_by w (a.m * 2 ^ (a.x - b.x) + b.m) 1 b.x
unfolding sum_by
sum_is w a b h = rw (min-eq_right h, sub_self b.x, mul-one b.m) refl

pub sum_comm : (w : Direction) (a b : Number) → sum_by w a b ≡ sum_by w b a
unfolding sum_by
sum_comm w a b =
    rw (min_comm a.x b.x)
    (ap (λ (n : ℕ). round_by w n 1 (min b.x a.x)) (add_comm (a.m * 2 ^ (a.x - min b.x a.x)) (b.m * 2 ^ (b.x - min b.x a.x))))

pub product-comm : (w : Direction) (a b : Number) → product_by w a b ≡ product_by w b a
unfolding product_by
product-comm w a b = rw (mul_comm a.m b.m, add_comm a.x b.x) refl

-- ---- zero operands
pub zero_is : {r : ℕ} (a : Number) → Ranged r a → a.m ≡ 0 → a ≡ zero_number
zero_is a f h = ap (λ (k : ℕ). record { m = k; x = a.x }) h ∙ ap (λ (k : ℕ). record { m = 0; x = k }) (f.zero h)

pub product-zero-left : (w : Direction) (a b : Number) → a.m ≡ 0 → product_by w a b ≡ zero_number
unfolding product_by
product-zero-left w a b h =
    let x : ℕ = a.x + b.x - bias in
    ap (λ (n : ℕ). round_by w n 1 x) (ap (λ (k : ℕ). k * b.m) h ∙ zero-mul b.m) ∙ round-zero w 1 x

pub product-zero-right : (w : Direction) (a b : Number) → b.m ≡ 0 → product_by w a b ≡ zero_number
product-zero-right w a b h = product-comm w a b ∙ product-zero-left w b a h

pub quotient-zero-left : (w : Direction) (a b : Number) → a.m ≡ 0 → quotient_by w a b ≡ zero_number
unfolding quotient_by
quotient-zero-left w a b h = ap (λ (n : ℕ). round_by w n b.m (a.x + bias - b.x)) h ∙ round-zero w b.m (a.x + bias - b.x)

-- a number brought to a lower exponent rounds to itself
pub round-back : (w : Direction) {r : ℕ} (a : Number) (l : ℕ) → Ranged r a → l ≤ a.x → round_by w (a.m * 2 ^ (a.x - l)) 1 l ≡ a
round-back w a l f h = go a.m refl
  where
    k : ℕ
    k = a.x - l

    go : (i : ℕ) → a.m ≡ i → round_by w (a.m * 2 ^ k) 1 l ≡ a
    go zero e = ap (λ (n : ℕ). round_by w n 1 l) (ap (λ (i : ℕ). i * 2 ^ k) e ∙ zero-mul (2 ^ k)) ∙ round-zero w 1 l ∙ sym (zero_is a f e)
    go (suc i) e =
        let lo : 2 ^ 31 ≤ a.m = f.low (omega arith) in
        let y : l + (32 + k) - 32 ≡ a.x = omega arith in
        let c : a.m * 2 ^ k * 2 ^ 32 ≡ a.m * 2 ^ (32 + k) = rw (pow-add 2 32 k) (omega arith) in
        round_exact w (a.m * 2 ^ k) l a.m (32 + k) (mul-pos (omega arith) (pow_pos k)) c lo f.high ∙ ap (λ (x : ℕ). record { m = a.m; x = x }) y

-- with a zero operand the sum is the other, whichever exponent is lower
pub sum-zero-right : (w : Direction) {r : ℕ} (a b : Number) → Ranged r a → b.m ≡ 0 → sum_by w a b ≡ a
unfolding sum_by
sum-zero-right w a b f h =
    let l : ℕ = min a.x b.x in
    let s : a.m * 2 ^ (a.x - l) + b.m * 2 ^ (b.x - l) ≡ a.m * 2 ^ (a.x - l) = omega (arith, ap (λ (z : ℕ). z * 2 ^ (b.x - l)) h) in
    ap (λ (n : ℕ). round_by w n 1 l) s ∙ round-back w a l f (min-le_left a.x b.x)

pub sum-zero-left : (w : Direction) {r : ℕ} (a b : Number) → Ranged r b → a.m ≡ 0 → sum_by w a b ≡ b
sum-zero-left w a b f h = sum_comm w a b ∙ sum-zero-right w b a f h

-- ---- positive results
pub round-positive : (w : Direction) (n d x : ℕ) → 0 < n → 0 < d → d ≤ 2 * n → 0 < (round_by w n d x).m
round-positive w n d x pn pd half = let r = round-represents n d x pn pd half w in omega (arith, r.low)

pub sum-positive-left : (w : Direction) (a b : Number) → 0 < a.m → 0 < (sum_by w a b).m
unfolding sum_by
sum-positive-left w a b p =
    let l : ℕ = min a.x b.x in
    let n : 0 < a.m * 2 ^ (a.x - l) = mul-pos p (pow_pos (a.x - l)) in
    round-positive w (a.m * 2 ^ (a.x - l) + b.m * 2 ^ (b.x - l)) 1 l (omega arith) (omega arith) (omega arith)

pub sum-positive-right : (w : Direction) (a b : Number) → 0 < b.m → 0 < (sum_by w a b).m
sum-positive-right w a b p = rw (sum_comm w a b) (sum-positive-left w b a p)

pub product-positive : (w : Direction) (a b : Number) → 0 < a.m → 0 < b.m → 0 < (product_by w a b).m
unfolding product_by
product-positive w a b p q =
    let n : 0 < a.m * b.m = mul-pos p q in
    round-positive w (a.m * b.m) 1 (a.x + b.x - bias) n (omega arith) (omega arith)

pub quotient-positive : (w : Direction) {r s : ℕ} (a b : Number) → Ranged r a → Ranged s b → 0 < a.m → 0 < b.m → 0 < (quotient_by w a b).m
unfolding quotient_by
quotient-positive w a b u v p q =
    let la : 2 ^ 31 ≤ a.m = u.low p in
    round-positive w a.m b.m (a.x + bias - b.x) p q (omega (arith, v.high))

-- ---- zero results
pub sum_zeros : (w : Direction) (a b : Number) → a.m ≡ 0 → b.m ≡ 0 → sum_by w a b ≡ zero_number
unfolding sum_by
sum_zeros w a b e f =
    let l : ℕ = min a.x b.x in
    let s : a.m * 2 ^ (a.x - l) + b.m * 2 ^ (b.x - l) ≡ 0 = omega (arith, ap (λ (z : ℕ). z * 2 ^ (a.x - l)) e, ap (λ (z : ℕ). z * 2 ^ (b.x - l)) f) in
    ap (λ (n : ℕ). round_by w n 1 l) s ∙ round-zero w 1 l

pub sum-zero : (w : Direction) (a b : Number) → ((sum_by w a b).m ≡ 0) ↔ ((a.m ≡ 0) × (b.m ≡ 0))
sum-zero w a b = (
  λ e. (none (λ p. let q = sum-positive-left w a b p in omega arith), none (λ p. let q = sum-positive-right w a b p in omega arith)),
  λ z. ap (λ (c : Number). c.m) (sum_zeros w a b z.0 z.1),
)

pub product-zero : (w : Direction) (a b : Number) → ((product_by w a b).m ≡ 0) ↔ ((a.m ≡ 0) ⊎ (b.m ≡ 0))
product-zero w a b =
    (λ e. go e a.m refl, ⊎_elim (λ z. ap (λ (c : Number). c.m) (product-zero-left w a b z)) (λ z. ap (λ (c : Number). c.m) (product-zero-right w a b z)))
  where
    go : (product_by w a b).m ≡ 0 → (k : ℕ) → a.m ≡ k → (a.m ≡ 0) ⊎ (b.m ≡ 0)
    go e zero f = inl f
    go e (suc k) f = inr (none (λ p. let q = product-positive w a b (omega arith) p in omega arith))

pub quotient-zero : (w : Direction) {r s : ℕ} (a b : Number) → Ranged r a → Ranged s b → 0 < b.m → ((quotient_by w a b).m ≡ 0) ↔ (a.m ≡ 0)
quotient-zero w a b u v q =
    (λ e. none (λ p. let r = quotient-positive w a b u v p q in omega arith), λ z. ap (λ (c : Number). c.m) (quotient-zero-left w a b z))

-- the operands in order: first the one whose exponent is not the lower, chosen by a test t
module _ (w : Direction) (a b : Number) (A : Ranged reach a) (B : Ranged reach b) (ha : 0 < a.m) (hb : 0 < b.m) where
  pub sum-ordered : (t : Bool) → ltb a.x b.x ≡ t → {c d : Number} → c ≡ cond t b a → d ≡ cond t a b
      → (FullDigits c.m × (d.m < 2 ^ 32) × (d.x ≤ c.x) × (32 ≤ d.x) × (c.x < 2 ^ 61)) × (round_by w (c.m * 2 ^ (c.x - d.x) + d.m) 1 d.x ≡ sum_by w a b)
  sum-ordered true e ec ed =
      let l : a.x < b.x = ltb-true a.x b.x e in rw (ec, ed) (
        (record { low = B.low hb; high = B.high }, A.high, omega arith, omega (arith, A.start), omega (arith, B.stop)),
        sym (sum_is w b a (omega arith)) ∙ sum_comm w b a,
      )
  sum-ordered false e ec ed =
      let l : b.x ≤ a.x = ltb-false a.x b.x e in rw (ec, ed) (
        (record { low = A.low ha; high = A.high }, B.high, l, omega (arith, B.start), omega (arith, A.stop)),
        sym (sum_is w a b l),
      )
