-- A test of all numbers below n holds where it holds of each (`all-below`), and then of each (`all-each`).
use Prim.Native.Nat.{ℕ, zero, suc, ◌<◌}
use native.Mathlib.Decide.{ℕ_discrete}
use native.Mathlib.Omega.{arith}
use mathlib.Core.Path.{◌≡◌, refl}
use mathlib.Core.Bool.{Bool, true, and-eq-true_iff}
use Rattle.arrays.specs.Below.{all_below}

module _ (f : ℕ → Bool) where
  pub all-below : (n : ℕ) → ((i : ℕ) → i < n → f i ≡ true) → all_below n f ≡ true
  unfolding all_below
  all-below zero h = refl
  all-below (suc n) h = (and-eq-true_iff (all_below n f) (f n)).1 (all-below n (λ i g. h i (omega arith)), h n (omega arith))

  pub all-each : (n : ℕ) → all_below n f ≡ true → (i : ℕ) → i < n → f i ≡ true
  unfolding all_below
  all-each zero e i h = absurd (omega arith)
  all-each (suc n) e i h =
      let p = (and-eq-true_iff (all_below n f) (f n)).0 e in
      elim (ℕ_discrete i n) [
        | yes q ↦ rw q p.1
        | no q ↦ all-each n p.0 i (omega arith)
      ]
