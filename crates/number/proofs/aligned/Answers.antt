-- `aligned` meets its contract: what is shifted is not larger, and all fits.
use mathlib.Core.Path.{◌≡◌, ap, ◌∙◌}
use Prim.Native.Nat.{ℕ, ◌+◌, ◌*◌, ◌/◌, ◌^◌, ◌≤◌}
use native.Mathlib.Nat.{div-le_self}
use native.Mathlib.Omega.{arith}
use Rattle.number.proofs.Sums.{unlike-le}
use Rattle.number.specs.Digits.{aligned_of, unlike_of}
use Rattle.number.proofs.aligned.Goals as goal

-- the digit for what is dropped
one : (r m n : ℕ) → r ≡ unlike_of m n → r ≤ 1
one r m n e = omega (arith, e, unlike-le m n)

pub overflow_add-result-2 : goal.overflow_add-result-2
overflow_add-result-2 c = let a = c.args in
    omega (arith, div-le_self (a.b * 2 ^ 30) (2 ^ a.k), one _ _ _ c.unlike.ensures)

pub returns : goal.returns
unfolding aligned_of
returns c = let a = c.args in
    let z = a.b * 2 ^ 30 in
    let y = z / 2 ^ a.k in
    ap (λ (s : ℕ). (a.a * 2 ^ 30 + y) * 2 + s) (c.unlike.ensures ∙ ap (λ (p : ℕ). unlike_of (y * p) z) c.power.ensures)
