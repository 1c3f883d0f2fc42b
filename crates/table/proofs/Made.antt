-- An array that `from_fn` made: where each call gives the value of h at its index and leaves the closure as it was, the element at k is h k (`made`).
use Prim.Native.Nat.{ℕ, zero, suc, ◌+◌, ◌≤◌, ◌<◌}
use native.Mathlib.Decide.{ℕ_discrete}
use native.Mathlib.Omega.{arith}
use mathlib.Core.Path.{◌≡◌, ◌∙◌, subst}
use mathlib.Core.List.{List}
use lib.ListN.{get_or}
use denote.Param.Members.{Mut}
use Rattle.std.specs.Array.{IsFromFnResult, IsFromFnResultFrom}
use Rattle.std.specs.Iterator.{ActsAs}

module _ {F B : Type 0} {g : Mut F (ℕ × Unit {0}) B} {f : F} (h : ℕ → B) (acts : ActsAs g f h) (ys : List B) (z : B) where
  from : (n i : ℕ) → IsFromFnResultFrom g f ys i n → (k : ℕ) → i ≤ k → k < i + n → get_or ys k z ≡ h k
  from zero i w k l u = absurd (omega arith)
  from (suc n) i (q, y, at, called, rest) k l u =
      let a = acts i y q called in
      elim (ℕ_discrete k i) [
        | yes e ↦ rw e (at.1 z ∙ a.1)
        | no e ↦ from n (i + 1) (subst (λ (p : F). IsFromFnResultFrom g p ys (i + 1) n) a.0 rest) k (omega arith) (omega arith)
      ]

  pub made : {n : ℕ} → IsFromFnResult g f ys n → (k : ℕ) → k < n → get_or ys k z ≡ h k
  made {n} w k l = from n 0 w.each k (omega arith) (omega arith)
