-- The rows 1 .. k joined to a mask: what a shift computes (shift-first), the list that it stands for (mask_first), that it stays a mask of k more rows
-- (first_below) and has k rows more (first-mask-count).
use mathlib.Core.Path.{◌≡◌, sym, ap, ap₂, ◌∙◌, subst}
use mathlib.Core.List.{[], ◌∷◌}
use Prim.Native.Nat.{ℕ, ◌+◌, ◌*◌, ◌%◌, ◌^◌, ◌≤◌, ◌<◌}
use native.Mathlib.Omega.{arith}
use lib.Bits.{bit_or, or_shifted_r}
use lib.ListN.{length}
use lib.Pow.{pow-add, shl_exact}
use Rattle.words.specs.RowSet.{RowSet, count, of_mask, with_first}
use Rattle.words.proofs.FirstRows.{length-first, long-first, count-first}
use Rattle.rowset.specs.Mask.{digit, mask_count, mask_run, mask_with_first, mask_of}
use Rattle.rowset.proofs.Masks.{of_mask-length, mask_of-below, set_back, mask-back}
use Rattle.rowset.proofs.Counts.{mask-count, mask-run, run-below}

pub shift-first : (s k : ℕ) → s < 256 → k ≤ 8 → bit_or (mask_run 1 k) (s * 2 ^ k % 2 ^ 64) ≡ mask_with_first k s
unfolding mask_with_first
shift-first s k b l = ap (bit_or (mask_run 1 k)) (shl_exact 8 k 64 b (omega arith)) ∙ or_shifted_r s k (mask_run 1 k) (run-below k 1 k (omega arith))

-- as a list
first_of : (k : ℕ) → k ≤ 8 → (S : RowSet) → mask_of (with_first k S) ≡ mask_with_first k (mask_of S)
unfolding mask_of mask_with_first
first_of k l [] = ap mask_of (sym (mask-run k 1 k l (omega arith) l)) ∙ mask-back k (mask_run 1 k) (run-below k 1 k (omega arith)) ∙ omega arith
first_of k l (x ∷ S) =
    let e : length (with_first k S) ≡ k + length S = length-first k S in
    let f : 2 ^ (k + length S) ≡ 2 ^ k * 2 ^ length S = pow-add 2 k (length S) in
    ap₂ (λ (a b : ℕ). digit x * 2 ^ a + b) e (first_of k l S) ∙ apart (digit x) (2 ^ (k + length S)) (2 ^ k) (2 ^ length S) (mask_of S) (mask_run 1 k) f
  where
    apart : (d w u v m r : ℕ) → w ≡ u * v → d * w + (m * u + r) ≡ (d * v + m) * u + r
    apart d w u v m r f = let g : d * w ≡ d * (u * v) = ap (λ (t : ℕ). d * t) f in omega (arith, g)

module _ (m k s : ℕ) (few : k ≤ 8) (b : s < 2 ^ m) where
  long : length (with_first k (of_mask m s)) ≡ k + m
  long = long-first k (of_mask m s) (of_mask-length m s)

  is : mask_of (with_first k (of_mask m s)) ≡ mask_with_first k s
  is = first_of k few (of_mask m s) ∙ ap (mask_with_first k) (mask-back m s b)

  pub mask_first : of_mask (k + m) (mask_with_first k s) ≡ with_first k (of_mask m s)
  mask_first = ap₂ of_mask (sym long) (sym is) ∙ set_back (with_first k (of_mask m s))

  pub first_below : mask_with_first k s < 2 ^ (k + m)
  first_below =
      subst (λ (x : ℕ). x < 2 ^ (k + m)) is (subst (λ (c : ℕ). mask_of (with_first k (of_mask m s)) < 2 ^ c) long (mask_of-below (with_first k (of_mask m s))))

  pub first-mask-count : k + m ≤ 8 → mask_count (mask_with_first k s) ≡ k + mask_count s
  first-mask-count l =
      sym (mask-count (k + m) (mask_with_first k s) l first_below) ∙ ap count mask_first ∙ count-first k (of_mask m s)
      ∙ ap (λ (c : ℕ). k + c) (mask-count m s (omega arith) b)
