-- STEPS BY SIZES, as the code works them out: a term more of the sum (term-more), and how large terms and the whole are (term_few,
-- product-few).
use Prim.Native.Nat.{ℕ, ◌+◌, ◌-◌, ◌*◌, ◌^◌, ◌≤◌}
use native.Mathlib.Nat.{mul-le-mul}
use native.Mathlib.Omega.{arith}
use mathlib.Core.Path.{◌≡◌, ap, ◌∙◌}
use Rattle.rowset.specs.Mask.{count_below}
use Rattle.rowset.proofs.Positions.{below-choose}
use Rattle.words.proofs.Sums.{sum_more}
use Rattle.words.specs.Effort.{sum_over, choose}

module _ (n c k : ℕ) where
  -- the terms as the closed form has them, c rows being clamped
  abbrev pub term : ℕ → ℕ
  term p = (4 * (k - p) + 1) * choose (n - 1) (c + (p - 1))

  pub term-more : (p x s : ℕ) → n ≤ 8 → c + p ≤ 8 → x ≡ sum_over p term → s ≡ count_below (c + p) (2 ^ (n - 1))
      → x + (4 * (k - (p + 1)) + 1) * s ≡ sum_over (p + 1) term
  term-more p x s ln lp e f =
      let g : c + p ≡ c + (p + 1 - 1) = omega arith in
      let h : s ≡ choose (n - 1) (c + (p + 1 - 1)) = f ∙ below-choose (n - 1) (c + p) (omega arith) lp ∙ ap (choose (n - 1)) g in
      sum_more term p x _ e (ap (λ (s : ℕ). (4 * (k - (p + 1)) + 1) * s) h)

  pub term_few : (p s : ℕ) → k ≤ 8 → s ≤ 70 → (4 * (k - (p + 1)) + 1) * s ≤ 2310
  term_few p s l ls = let a : 4 * (k - (p + 1)) + 1 ≤ 33 = omega arith in let b : (4 * (k - (p + 1)) + 1) * s ≤ 33 * 70 = mul-le-mul a ls in omega arith

pub product-few : (m n x : ℕ) → m ≤ 6 → 1 ≤ n → n ≤ 8 → x ≤ 18480 → (n * n ≤ 64) × (n ≤ n * n) × (m * (n * n - n) ≤ 384) × (m * (n * n - n) * x ≤ 7096320)
product-few m n x lm some ln lx =
    let a : n * n ≤ 8 * 8 = mul-le-mul ln ln in
    let b : n * n - n ≤ 64 = omega arith in
    let c : m * (n * n - n) ≤ 6 * 64 = mul-le-mul lm b in
    let d : m * (n * n - n) * x ≤ 6 * 64 * 18480 = mul-le-mul c lx in
    let r : n ≤ n = omega arith in
    let e : 1 * n ≤ n * n = mul-le-mul some r in
    (omega arith, omega arith, omega arith, omega arith)
