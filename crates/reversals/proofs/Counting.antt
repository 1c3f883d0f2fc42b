-- What the loop that counts comes to: one item more (`count_next`), which adds at most one reversal (`turn-le`).
use mathlib.Core.Path.{◌≡◌, ap, ◌∙◌}
use mathlib.Core.Bool.{Bool, true, false, cond}
use mathlib.Core.List.{List, ◌∷◌}
use Prim.Native.Nat.{ℕ, suc, ◌+◌, ◌≤◌, ◌<◌}
use native.Mathlib.Omega.{arith}
use lib.ListN.{length, get_or, drop}
use lib.Seq.{drop-cons}
use Rattle.number.specs.declared.signed.Signed.{Signed}
use Rattle.reversals.specs.Reversals.{opposite, turn, latest, reversals_behind}

pub count_next : (L : List Signed) (k : ℕ) (d : Signed) → k < length L → (last : Signed)
    → reversals_behind last (drop k L) ≡ turn last (get_or L k d) + reversals_behind (latest last (get_or L k d)) (drop (k + 1) L)
unfolding reversals_behind
count_next L k d h last =
    let e : suc k ≡ k + 1 = omega arith in
    ap (reversals_behind last) (drop-cons L k d h ∙ ap (λ (i : ℕ). get_or L k d ∷ drop i L) e)

pub turn-le : (a b : Signed) → turn a b ≤ 1
turn-le a b = go (opposite a b)
  where
    go : (t : Bool) → cond t 1 0 ≤ 1
    go true = omega arith
    go false = omega arith
