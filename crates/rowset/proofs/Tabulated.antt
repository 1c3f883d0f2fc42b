-- A table by its rule: f i, f (i + 1), .., so many of them (tabulated), and what stands in it (tabulated-at, tabulated-first).
use mathlib.Core.Path.{◌≡◌, ap, ◌∙◌}
use mathlib.Core.List.{List, [], ◌∷◌}
use Prim.Native.Nat.{ℕ, zero, suc, ◌+◌, ◌<◌}
use native.Mathlib.Nat.{not-suc-le-zero, zero-add}
use native.Mathlib.Omega.{arith}
use lib.ListN.{get_or}

unfoldable pub tabulated : (ℕ → ℕ) → ℕ → ℕ → List ℕ
tabulated f i zero = []
tabulated f i (suc c) = f i ∷ tabulated f (suc i) c

pub tabulated-at : (f : ℕ → ℕ) (i c t : ℕ) → t < c → get_or (tabulated f i c) t 0 ≡ f (i + t)
unfolding tabulated
tabulated-at f i zero t h = absurd (not-suc-le-zero h)
tabulated-at f i (suc c) zero h = let e : i ≡ i + 0 = omega arith in ap f e
tabulated-at f i (suc c) (suc t) h = let e : suc i + t ≡ i + suc t = omega arith in tabulated-at f (suc i) c t (omega arith) ∙ ap f e

-- from 0 on
pub tabulated-first : (f : ℕ → ℕ) (c t : ℕ) → t < c → get_or (tabulated f 0 c) t 0 ≡ f t
tabulated-first f c t h = tabulated-at f 0 c t h ∙ ap f (zero-add t)
