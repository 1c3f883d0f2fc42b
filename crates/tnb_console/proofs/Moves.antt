-- The bytes of a buffer from one index to another, by what is taken and what is left (`take-drop`).
use Prim.Native.Nat.{ℕ, zero, suc, ◌-◌}
use native.Mathlib.Omega.{arith}
use mathlib.Core.Path.{◌≡◌}
use mathlib.Core.List.{List, [], ◌∷◌}
use lib.ListN.{take, drop}
use lib.Seq.{take-nil}

-- the bytes from `start` to n
pub take-drop : (start n : ℕ) (l : List ℕ) → take (n - start) (drop start l) ≡ drop start (take n l)
take-drop zero n l =
    let e : n - 0 ≡ n = omega arith in
    rw e
take-drop (suc start) zero l =
    let e : 0 - suc start ≡ 0 = omega arith in
    rw e
take-drop (suc start) (suc n) [] = take-nil (suc n - suc start)
take-drop (suc start) (suc n) (x ∷ l) =
    let e : suc n - suc start ≡ n - start = omega arith in
    rw e (take-drop start n l)
