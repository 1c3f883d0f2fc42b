-- How many rows a mask has (mask-count), consecutive rows (mask-run, run-count) and sets among chosen rows (mask-among, among-count), on masks as on lists.
use mathlib.Core.Path.{◌≡◌, refl, sym, ap, ◌∙◌}
use mathlib.Core.Bool.{Bool, true, false, ◌&&◌}
use mathlib.Core.List.{◌∷◌}
use Prim.Native.Nat.{ℕ, zero, suc, ◌+◌, ◌-◌, ◌^◌, ◌≤◌, ◌<◌}
use native.Mathlib.Decide.{le_ind}
use native.Mathlib.Omega.{arith}
use lib.Dec.{eqb, eqb→eq}
use lib.Pow.{pow_mono, pow_pos}
use Rattle.words.specs.RowSet.{RowSet, count, equal, rows, of_mask, among}
use Rattle.words.proofs.RowSets.{equal-true}
use Rattle.words.proofs.Chosen.{count-among}
use Rattle.rowset.specs.Mask.{digit, mask_has, count_to, mask_count, mask_run, among_to, mask_among}
use Rattle.rowset.proofs.Finite.{T_true, all₂-at, all₃-at}
use Rattle.rowset.proofs.Bit.{has-beyond}
use Rattle.rowset.proofs.Masks.{of_mask-length, of_mask-suc, of_mask-above, above-below}

count-cons : (x : Bool) (S : RowSet) → count (x ∷ S) ≡ digit x + count S
unfolding count
count-cons true S = omega arith
count-cons false S = omega arith

pub count-to : (n s : ℕ) → count (of_mask n s) ≡ count_to n s
unfolding of_mask count_to count
count-to zero s = refl
count-to (suc n) s = ap count (of_mask-suc n s) ∙ count-cons (mask_has (suc n) s) (of_mask n s) ∙ ap (λ k. digit (mask_has (suc n) s) + k) (count-to n s)

-- the rows beyond the first n add nothing
count_to-beyond : (n s m : ℕ) → s < 2 ^ n → n ≤ m → count_to m s ≡ count_to n s
unfolding count_to
count_to-beyond n s m b l = le_ind (λ k. count_to k s ≡ count_to n s) refl (λ k h i. rw (has-beyond n k s b h) (omega arith)) m l

pub mask-count : (n s : ℕ) → n ≤ 8 → s < 2 ^ n → count (of_mask n s) ≡ mask_count s
unfolding mask_count
mask-count n s l b = count-to n s ∙ sym (count_to-beyond n s 8 b l)

pub count_to-le : (n s : ℕ) → count_to n s ≤ n
unfolding count_to
count_to-le zero s = omega arith
count_to-le (suc n) s = go (mask_has (suc n) s) (count_to-le n s)
  where
    go : (x : Bool) → count_to n s ≤ n → digit x + count_to n s ≤ suc n
    go true h = omega arith
    go false h = omega arith

-- CONSECUTIVE ROWS
run-right : ℕ → ℕ → ℕ → Bool
run-right n a b = equal (of_mask n (mask_run a b)) (rows n a b)

pub mask-run : (n a b : ℕ) → n ≤ 8 → a ≤ 9 → b ≤ 8 → of_mask n (mask_run a b) ≡ rows n a b
unfolding run-right mask_run equal of_mask rows
mask-run n a b ln la lb = equal-true _ _ (T_true _ (all₃-at 9 10 9 run-right tt n a b (omega arith) (omega arith) (omega arith)))

run-count-right : ℕ → ℕ → Bool
run-count-right a b = eqb (mask_count (mask_run (suc a) b)) (b - a)

pub run-count : (a b : ℕ) → 1 ≤ a → a ≤ 9 → b ≤ 8 → mask_count (mask_run a b) ≡ suc b - a
unfolding run-count-right mask_run mask_count count_to mask_has
run-count (suc a) b h la lb = eqb→eq _ _ (all₂-at 9 9 run-count-right tt a b (omega arith) (omega arith)) ∙ omega arith
run-count zero b h la lb = elim h [ ]

pub run-below : (n a b : ℕ) → b ≤ n → mask_run a b < 2 ^ n
unfolding mask_run
run-below n a b l =
    let p : 2 ^ b ≤ 2 ^ n = pow_mono l in
    omega (arith, pow_pos b, pow_pos (a - 1))

-- SETS AMONG CHOSEN ROWS
pub among_to-below : (n p s : ℕ) → among_to n p s < 2 ^ n
unfolding among_to
among_to-below zero p s = omega arith
among_to-below (suc n) p s = above-below (mask_has (suc n) p && mask_has (suc (count_to n p)) s) n (among_to n p s) (among_to-below n p s)

among-cons : (x : Bool) (k s : ℕ) (P : RowSet) → among (x ∷ P) (of_mask (digit x + k) s) ≡ (x && mask_has (suc k) s) ∷ among P (of_mask k s)
unfolding among
among-cons true k s P = let e : 1 + k ≡ suc k = omega arith in rw (e, of_mask-suc k s)
among-cons false k s P = let e : 0 + k ≡ k = omega arith in rw e

pub among-to : (n p s : ℕ) → of_mask n (among_to n p s) ≡ among (of_mask n p) (of_mask (count_to n p) s)
unfolding among_to count_to of_mask among
among-to zero p s = refl
among-to (suc n) p s =
    let x : Bool = mask_has (suc n) p in
    of_mask-above (x && mask_has (suc (count_to n p)) s) n (among_to n p s) (among_to-below n p s)
    ∙ ap (λ S. (x && mask_has (suc (count_to n p)) s) ∷ S) (among-to n p s)
    ∙ sym (among-cons x (count_to n p) s (of_mask n p))
    ∙ ap (λ P. among P (of_mask (digit x + count_to n p) s)) (sym (of_mask-suc n p))

among_to-beyond : (n p s m : ℕ) → p < 2 ^ n → n ≤ m → among_to m p s ≡ among_to n p s
unfolding among_to
among_to-beyond n p s m b l = le_ind (λ k. among_to k p s ≡ among_to n p s) refl (λ k h i. rw (has-beyond n k p b h) (omega arith)) m l

pub mask-among : (n p s : ℕ) → n ≤ 8 → p < 2 ^ n → of_mask n (mask_among p s) ≡ among (of_mask n p) (of_mask (mask_count p) s)
unfolding mask_among mask_count
mask-among n p s l b = rw (among_to-beyond n p s 8 b l, count_to-beyond n p 8 b l) (among-to n p s)

pub among_below : (n p s : ℕ) → n ≤ 8 → p < 2 ^ n → mask_among p s < 2 ^ n
unfolding mask_among
among_below n p s l b = rw (among_to-beyond n p s 8 b l) (among_to-below n p s)

-- as many rows
pub among-count : (p s : ℕ) → p < 256 → s < 2 ^ mask_count p → mask_count (mask_among p s) ≡ mask_count s
unfolding mask_count
among-count p s b h =
    sym (mask-count 8 (mask_among p s) (omega arith) (among_below 8 p s (omega arith) b))
    ∙ ap count (mask-among 8 p s (omega arith) b)
    ∙ count-among (of_mask 8 p) (of_mask (mask_count p) s) (of_mask-length (mask_count p) s ∙ sym (mask-count 8 p (omega arith) b))
    ∙ mask-count (mask_count p) s (count_to-le 8 p) h
