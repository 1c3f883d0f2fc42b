-- Rows of items as vectors: one item changed, itself (`vector-here`) and the others (`vector-other`).
use mathlib.Core.Path.{◌≡◌}
use mathlib.Core.List.{List}
use Prim.Native.Nat.{ℕ, ◌-◌, ◌≤◌}
use native.Mathlib.Omega.{arith}
use lib.ListN.{length, set}
use lib.Seq.{get_or-set_same, get_or-set_other}
use Rattle.number.specs.Signed.{zero_signed}
use Rattle.number.specs.declared.signed.Signed.{Signed}
use Rattle.items.specs.Items.{vector_of}

module _ (v : List Signed) (e : length v ≡ 8) (a : ℕ) (low : 1 ≤ a) (high : a ≤ 8) (x : Signed) where
  pub vector-here : vector_of (set v (a - 1) x) a ≡ x
  vector-here = get_or-set_same v (a - 1) x zero_signed (omega arith)

  pub vector-other : (i : ℕ) → 1 ≤ i → (i ≡ a → ⊥) → vector_of (set v (a - 1) x) i ≡ vector_of v i
  vector-other i h g = get_or-set_other v (a - 1) (i - 1) x zero_signed (λ f. g (omega arith))
