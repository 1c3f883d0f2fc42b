-- A loop that puts the texts f 1 to f n, one behind the other (`Turns`).
use Prim.Native.Nat.{ℕ, suc, ◌+◌, ◌-◌, ◌≤◌, ◌<◌}
use native.Mathlib.Numerals.{add-one}
use native.Mathlib.Omega.{arith}
use mathlib.Core.Path.{◌≡◌}
use mathlib.Core.List.{List, [], ◌++◌}
use Rattle.words.specs.Word.{ascending, for_up}
use Rattle.lines.specs.Text.{Puts}
use Rattle.lines.proofs.Text.{Left, left-all, left-none, left_behind}

module _ (f : ℕ → List ℕ) (n j : ℕ) where
  up_none : n < j → for_up j n f ≡ []
  unfolding ascending
  up_none h =
      let e : suc n - j ≡ 0 = omega arith in
      rw e

  up_more : j ≤ n → for_up j n f ≡ f j ++ for_up (j + 1) n f
  unfolding ascending
  up_more h =
      let e : suc n - j ≡ suc (suc n - (j + 1)) = omega arith in
      rw (e, ← add-one j)

-- of the n texts those before the j-th are put
pub record Turns (f : ℕ → List ℕ) (n : ℕ) (out₀ : List ℕ) (at : ℕ) (out : List ℕ) (to j : ℕ) : Type 0 where
  pub left : Left out₀ at (for_up 1 n f) out to (for_up j n f)

pub turns-none : (f : ℕ → List ℕ) (n : ℕ) (out : List ℕ) (at : ℕ) → Turns f n out at out at 1
turns-none f n out at = record { left = left-all out at (for_up 1 n f) }

module _ {f : ℕ → List ℕ} {n : ℕ} {out₀ : List ℕ} {at : ℕ} {out : List ℕ} {to j : ℕ} (p : Turns f n out₀ at out to j) where
  pub turns-end : n < j → Puts out₀ at (for_up 1 n f) out to
  turns-end h = left-none (rw (up_none f n j h) at p.left)

  pub turns_more : {out' : List ℕ} {to' : ℕ} → j ≤ n → Puts out to (f j) out' to' → Turns f n out₀ at out' to' (j + 1)
  turns_more h q = record { left = left_behind (rw (up_more f n j h) at p.left) q }
