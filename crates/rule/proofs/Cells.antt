-- THE STEPS OF A TABLE in rows of eight: cell by cell (cells_steps, cells-more), and in the end those of the k rows and columns (cells-all).
use mathlib.Core.Path.{◌≡◌, refl, ap, ◌∙◌}
use mathlib.Core.Bool.{Bool, true, false, cond, ◌&&◌}
use Prim.Native.Nat.{ℕ, zero, suc, ◌+◌, ◌-◌, ◌≤◌}
use native.Mathlib.Omega.{arith}
use lib.Dec.{leb}
use Rattle.words.specs.Effort.{sum_over, quotient_steps, result_steps}
use Rattle.words.proofs.Sums.{sum_more, sum_same, sum-padded, sum-cells}
use Rattle.rule.specs.Result.{cell_steps}

-- of the first t cells
unfoldable pub cells_steps : ℕ → (ℕ → ℕ) → ℕ → ℕ
cells_steps k w t = sum_over t (λ s. cell_steps k w (s - 1))

pub cells-more : (k : ℕ) (w : ℕ → ℕ) (t x y : ℕ) → x ≡ cells_steps k w t → y ≡ cell_steps k w t → x + y ≡ cells_steps k w (t + 1)
unfolding cells_steps
cells-more k w t x y p q = let e : t ≡ t + 1 - 1 = omega arith in sum_more (λ s. cell_steps k w (s - 1)) t x y p (q ∙ ap (cell_steps k w) e)

-- nothing past k, first by rows, then by columns
none : (k : ℕ) → sum_over k (λ j. 0) ≡ 0
unfolding sum_over
none zero = refl
none (suc k) = omega (arith, none k)

pub cells-all : (k : ℕ) (w : ℕ → ℕ) → k ≤ 8 → cells_steps k w 64 ≡ result_steps w k
unfolding cells_steps
cells-all k w l =
    sum-cells 8 64 (λ i j. cond (leb i k && leb j k) (quotient_steps w i j) 0) refl
    ∙ sum_same 8 _ _ (λ i p. by i (leb i k))
    ∙ sum-padded 8 k (λ i. sum_over k (quotient_steps w i)) l
  where
    by : (i : ℕ) (b : Bool) → sum_over 8 (λ j. cond (b && leb j k) (quotient_steps w i j) 0) ≡ cond b (sum_over k (quotient_steps w i)) 0
    by i true = sum-padded 8 k (quotient_steps w i) l
    by i false = none 8
