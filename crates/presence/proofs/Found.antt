-- WHAT THE SEARCH FINDS IS R: where v tells which minors with the leading columns are zero, the latest set held is the formula's (found). And v tells of the
-- minor with all the chosen columns (told-whole).
use mathlib.Core.Path.{◌≡◌, refl, sym, ap, ap₂, ◌∙◌}
use mathlib.Core.Bool.{Bool, true, false, ◌&&◌}
use mathlib.Core.List.{List}
use Prim.Native.Nat.{ℕ, ◌+◌, ◌-◌, ◌^◌, ◌≤◌, ◌<◌}
use native.Mathlib.Omega.{arith}
use borrow.Author.Tests.{eqb-true}
use lib.Dec.{eqb}
use lib.ListN.{length}
use Rattle.number.specs.declared.Number.{Number}
use Rattle.number.specs.Number.{rounded}
use Rattle.rowset.specs.Mask.{mask_of, mask_count, mask_among, mask_with_first}
use Rattle.rowset.proofs.Masks.{of_mask-length, mask-back}
use Rattle.rowset.proofs.Counts.{mask-count, mask-among, among_below}
use Rattle.rowset.proofs.First.{mask_first}
use Rattle.walk.proofs.Held.{mask_lt, mask-set}
use Rattle.words.specs.RowSet.{RowSet, count, all_before, among, rows, of_mask, with_first}
use Rattle.words.specs.Formula.{latest_before}
use Rattle.words.proofs.Chosen.{length-among, count-among, among-whole}
use Rattle.words.proofs.FirstRows.{long-first, count-first, first_rows}
use Rattle.words.proofs.Latest.{latest-equal}
use Rattle.presence.specs.Presence.{nonzero}
use Rattle.presence.specs.Held.{held_at, leading, Tells, latest_held}
use Rattle.presence.proofs.Search.{count-few}

module _ (n p q k : ℕ) (ln : n ≤ 8) (lp : p < 2 ^ n) (lq : q < 2 ^ n) (equal : mask_count p ≡ mask_count q) (lk : k ≤ mask_count p)
    (M : RowSet → RowSet → Number) (v : List Bool) (t : Tells n M (of_mask n q) v) where
  -- the minors of the chosen rows p and columns q, the first k of these joined to both sets
  abbrev pub chosen_of : RowSet → RowSet → Number
  chosen_of I J = M (among (of_mask n p) (with_first k I)) (among (of_mask n q) (with_first k J))

  parted : k + (mask_count p - k) ≡ mask_count p
  parted = omega arith

  held : (c : ℕ) → c ≤ mask_count p - k → (S : RowSet) → length S ≡ mask_count p - k → count S ≡ c
      → held_at v (mask_among p (mask_with_first k (mask_of S))) ≡ nonzero (chosen_of S (rows (mask_count p - k) 1 c))
  held c l S e f =
      let P : RowSet = of_mask n p in
      let Q : RowSet = of_mask n q in
      let T : RowSet = with_first k S in
      let s : ℕ = mask_with_first k (mask_of S) in
      let kp : count P ≡ mask_count p = mask-count n p ln lp in
      let kq : count Q ≡ mask_count q = mask-count n q ln lq in
      let l_t : length T ≡ count P = long-first k S e ∙ parted ∙ sym kp in
      let u : of_mask (mask_count p) s ≡ T = ap (λ (a : ℕ). of_mask a s) (sym parted)
      ∙ mask_first (mask_count p - k) k (mask_of S) (omega (arith, count-few p)) (mask_lt (mask_count p - k) S e)
      ∙ ap (with_first k) (mask-set (mask_count p - k) S e) in
      let w : of_mask n (mask_among p s) ≡ among P T = mask-among n p s ln lp ∙ ap (among P) u in
      let m : mask_among p s ≡ mask_of (among P T) = sym (mask-back n (mask_among p s) (among_below n p s ln lp)) ∙ ap mask_of w in
      let g : count (among P T) ≡ k + c = count-among P T l_t ∙ count-first k S ∙ ap (λ (c : ℕ). k + c) f in
      ap (held_at v) m ∙ t.told (among P T) (length-among P T l_t ∙ of_mask-length n p) (omega arith)
      ∙ ap₂ (λ (x y : ℕ). nonzero (M (among P T) (among Q (rows x 1 y)))) (kq ∙ sym equal ∙ sym parted) g
      ∙ ap (λ J. nonzero (M (among P T) (among Q J))) (sym (first_rows k (mask_count p - k) c l))

  -- below the diagonal M is the minor, above it the minor with its sets exchanged
  pub found : (i j : ℕ) → j - 1 ≤ mask_count p - k → latest_held v p k i (j - 1) ≡ latest_before rounded (mask_count p - k) chosen_of i j
  unfolding latest_before
  found i j l = latest-equal (mask_count p - k) _ _ (λ S e. ap (λ (x : Bool). all_before i S && x) (by S e (eqb (count S) (j - 1)) refl))
    where
      by : (S : RowSet) → length S ≡ mask_count p - k → (b : Bool) → eqb (count S) (j - 1) ≡ b
          → b && held_at v (mask_among p (mask_with_first k (mask_of S))) ≡ b && nonzero (chosen_of S (rows (mask_count p - k) 1 (j - 1)))
      by S e true h = held (j - 1) l S e (eqb-true (count S) (j - 1) h)
      by S e false h = refl

-- THE MINOR OF ALL THE CHOSEN COLUMNS
pub told-whole : (n i q : ℕ) (M : RowSet → RowSet → Number) (v : List Bool) → n ≤ 8 → i < 2 ^ n → q < 2 ^ n → mask_count i ≡ mask_count q
    → Tells n M (of_mask n q) v → held_at v i ≡ nonzero (M (of_mask n i) (of_mask n q))
told-whole n i q M v ln li lq e t =
    let Q : RowSet = of_mask n q in
    let c : count (of_mask n i) ≡ count Q = mask-count n i ln li ∙ e ∙ sym (mask-count n q ln lq) in
    ap (held_at v) (sym (mask-back n i li)) ∙ t.told (of_mask n i) (of_mask-length n i) (omega arith)
    ∙ ap (λ (J : RowSet). nonzero (M (of_mask n i) J)) (ap (leading Q) c ∙ among-whole Q)
