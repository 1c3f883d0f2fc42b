-- Each operation's result is within the direction's unit roundings of the exact one, one to nearest and two down or up, zero operands included:
-- `sum-within`, `product-within`, `quotient-within`, by one law of every rounding, `rounds-within`.
use mathlib.Core.Path.{◌≡◌, ap, subst}
use Prim.Native.Nat.{ℕ, zero, suc, ◌+◌, ◌*◌, ◌^◌, ◌≤◌, ◌<◌}
use native.Mathlib.Nat.{mul-pos}
use native.Mathlib.Omega.{arith}
use Rattle.fraction.specs.Fraction.{Fraction, natural, fraction_sum, fraction_product, fraction_quotient}
use Rattle.fraction.specs.Within.{Within}
use Rattle.fraction.proofs.Within.{within_same, within-mono, within-scaled}
use Rattle.number.proofs.Rounding.{round-zero, round-near}
use Rattle.number.proofs.Value.{scale, scale-positive, value-over, Rounds, sum-rounds, product-rounds, quotient-rounds}
use Rattle.number.specs.Direction.{roundings}
use Rattle.number.specs.Number.{bias, round_by, value, Ranged, sum_by, product_by, quotient_by}
use Rattle.number.specs.declared.Direction.{Direction}
use Rattle.number.specs.declared.Number.{Number}

-- one rounding, of n / d at exponent x
round-close : (w : Direction) (n d x : ℕ) → 0 < d → (0 < n → d ≤ 2 * n) → 32 ≤ x
    → Within (roundings w) (natural ((round_by w n d x).m * 2 ^ (round_by w n d x).x * d)) (natural (n * 2 ^ x))
round-close w zero d x pd half hx =
    let e : (round_by w 0 d x).m ≡ 0 = ap (λ (r : Number). r.m) (round-zero w d x) in
    let f = ap (λ (z : ℕ). z * (2 ^ (round_by w 0 d x).x * d)) e in
    within-mono (omega arith) (within_same (natural ((round_by w 0 d x).m * 2 ^ (round_by w 0 d x).x * d)) (natural (0 * 2 ^ x)) (omega arith))
round-close w (suc n) d x pd half hx = round-near (suc n) d x (omega arith) pd (half (omega arith)) w hx

-- both over the denominator d * scale
pub rounds-within : {w : Direction} {q : Fraction} {r : Number} → Rounds w q r → Within (roundings w) (value r) q
rounds-within {w} {q} {r} h =
    let d = h.d in
    let t = round_by w h.n d h.x in
    let c : Fraction = record { top = 1; low = d * scale; above_zero = mul-pos h.divisor scale-positive } in
    subst (λ (z : Number). Within (roundings w) (value z) q) h.result
    (within-scaled c (value t) q (round-close w h.n d h.x h.divisor h.half h.start) (omega (arith, ap (λ (z : ℕ). z * d) (value-over t)))
    (omega (arith, h.exact)))

-- ---- the operations
pub sum-within : (w : Direction) {r : ℕ} {a b : Number} → Ranged r a → Ranged r b → r + 64 ≤ bias
    → Within (roundings w) (value (sum_by w a b)) (fraction_sum (value a) (value b))
sum-within w u v h = rounds-within (sum-rounds u v h)

module _ (w : Direction) {r s : ℕ} {a b : Number} (u : Ranged r a) (v : Ranged s b) (h : r + s + 64 ≤ bias) where
  pub product-within : Within (roundings w) (value (product_by w a b)) (fraction_product (value a) (value b))
  product-within = rounds-within (product-rounds u v h)

  pub quotient-within : 0 < b.m → Within (roundings w) (value (quotient_by w a b)) (fraction_quotient (value a) (value b))
  quotient-within p = rounds-within (quotient-rounds u v h p)
