-- The first n elements of a list, read one after the other: the next one (`front-next`), and none behind the last (`front-end`).
use Prim.Native.Nat.{ℕ, suc, ◌+◌, ◌<◌, ◌≤◌}
use native.Mathlib.Omega.{arith}
use mathlib.Core.Path.{◌≡◌, ap₂, ◌∙◌}
use mathlib.Core.List.{List, [], ◌∷◌}
use lib.ListN.{length, get_or, take, drop, length-take, drop_of_length-le}
use lib.Seq.{drop-cons, get_or-take}

module _ {A : Type 0} (v : List A) (n k : ℕ) where
  pub front-next : (d : A) → k < n → n ≤ length v → drop k (take n v) ≡ get_or v k d ∷ drop (k + 1) (take n v)
  front-next d h g =
      let e : suc k ≡ k + 1 = omega arith in
      drop-cons (take n v) k d (omega (arith, length-take n v)) ∙ ap₂ (λ (a : A) (i : ℕ). a ∷ drop i (take n v)) (get_or-take n v k d h) e

  pub front-end : n ≤ k → drop k (take n v) ≡ []
  front-end h = drop_of_length-le (take n v) {i = k} (omega (arith, length-take n v))
