-- An operation by whole numbers (`Works`): the exact side p and the result's side q at one exponent, both over one denominator; the rest is that of p and q,
-- and these lie less than 2 ^ 32 apart. What goes with it: a number at a lower exponent (`lowered`), and whole numbers within one unit rounding (`apart`).
use mathlib.Core.Path.{◌≡◌, sym, ap, ◌∙◌}
use Prim.Native.Nat.{ℕ, ◌+◌, ◌-◌, ◌*◌, ◌^◌, ◌≤◌, ◌<◌}
use native.Mathlib.Nat.{le_of_mul-le-mul_right, lt_of_mul-lt-mul_right, one-mul, mul_assoc}
use native.Mathlib.Omega.{arith}
use lib.Pow.{pow-add}
use Rattle.fraction.specs.Fraction.{Fraction, natural}
use Rattle.fraction.specs.Within.{Within}
use Rattle.fraction.proofs.Within.{within-one}
use Rattle.number.proofs.Value.{scale, Over}
use Rattle.number.specs.Signed.{integer_at}
use Rattle.number.specs.declared.Number.{Number}
use Rattle.rests.specs.Rest.{rest_of}
use Rattle.rests.specs.declared.Rest.{Rest}

-- a number at a lower exponent
pub lowered : (l : ℕ) (a : Number) → l ≤ a.x → integer_at l a * 2 ^ l ≡ a.m * 2 ^ a.x
lowered l a h =
    let e : a.x - l + l ≡ a.x = omega arith in
    let p : 2 ^ (a.x - l) * 2 ^ l ≡ 2 ^ a.x = sym (pow-add 2 (a.x - l) l) ∙ ap (λ (k : ℕ). 2 ^ k) e in
    mul_assoc a.m (2 ^ (a.x - l)) (2 ^ l) ∙ ap (λ (z : ℕ). a.m * z) p

-- over a denominator once
pub once : (f : Fraction) (p : ℕ) → Over (1 * scale) f p → Over scale f p
once f p h = ap (λ (z : ℕ). f.top * z) (sym (one-mul scale)) ∙ h

-- E is p and F is q at exponent x, and t is the rest of the two
pub record Works (E F : Fraction) (t : Rest) : Type 0 where
  pub p : ℕ
  pub q : ℕ
  pub x : ℕ
  pub rest : t ≡ rest_of p q x
  pub exact : Over scale E (p * 2 ^ x)
  pub result : Over scale F (q * 2 ^ x)
  pub below : p < q + 2 ^ 32
  pub above : q < p + 2 ^ 32
  pub place : x < 2 ^ 24

-- ---- p and q within one unit rounding, both words: less than 2 ^ 32 apart
not-far : (p q : ℕ) → (2 ^ 32 - 1) * p ≤ 2 ^ 32 * q → p < 2 ^ 64 → p < q + 2 ^ 32
not-far p q h w =
    let l : p * 2 ^ 32 ≤ q * 2 ^ 32 + p = omega (arith, h) in
    lt_of_mul-lt-mul_right (2 ^ 32) (less p q l w)
  where
    less : (p q : ℕ) → p * 2 ^ 32 ≤ q * 2 ^ 32 + p → p < 2 ^ 64 → p * 2 ^ 32 < (q + 2 ^ 32) * 2 ^ 32
    less p q h w = omega arith

pub apart : (p q y : ℕ) → Within 1 (natural (q * y)) (natural (p * y)) → 0 < y → p < 2 ^ 64 → q < 2 ^ 64 → (p < q + 2 ^ 32) × (q < p + 2 ^ 32)
apart p q y w pos hp hq = (
  not-far p q (le_of_mul-le-mul_right {k = y} (omega (arith, (within-one w).0)) pos) hp,
  not-far q p (le_of_mul-le-mul_right {k = y} (omega (arith, (within-one w).1)) pos) hq,
)
