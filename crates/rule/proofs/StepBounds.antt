-- The bounds of m steps from those of one: each step adds as much as the first (steps-bound), and six steps of eight rows stay small (steps-small).
use mathlib.Core.Path.{◌≡◌}
use Prim.Native.Nat.{ℕ, ◌+◌, ◌-◌, ◌*◌, ◌≤◌}
use native.Mathlib.Nat.{mul-le-mul, mul-le-mul_left}
use native.Mathlib.Omega.{arith}
use Rattle.words.specs.Operation.{bound_of}

pub steps-bound : (m n : ℕ) → m * (bound_of 1 n - 3) + 3 ≡ bound_of m n
steps-bound m n = grouped m (2 * n * n - n)
  where
    grouped : (m z : ℕ) → m * (4 * 1 * z + 3 - 3) + 3 ≡ 4 * m * z + 3
    grouped m z = let e : 4 * 1 * z + 3 - 3 ≡ 4 * z = omega arith in rw e (omega arith)

pub steps-small : (m n : ℕ) → m ≤ 6 → n ≤ 8 → m * (bound_of 1 n - 3) ≤ 2880
steps-small m n p q =
    let s : 2 * n * n - n ≤ 120 = omega (arith, mul-le-mul_left n q) in
    let b : bound_of 1 n - 3 ≤ 480 = omega arith in
    mul-le-mul p b
