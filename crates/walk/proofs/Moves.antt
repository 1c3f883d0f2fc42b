-- A letter E or Et on 70 numbers: what it makes of a set by masks (moved-changed, moved-still), how far it takes the exponents (move-ready), and its sets
-- one after the other (move-next, move_all).
use mathlib.Core.Path.{◌≡◌, sym, ap, ap₂, ◌∙◌, subst}
use mathlib.Core.Bool.{Bool, true, false, false≢true}
use mathlib.Core.List.{List}
use Prim.Native.Nat.{ℕ, ◌+◌, ◌-◌, ◌^◌, ◌≤◌, ◌<◌, min}
use native.Mathlib.Omega.{arith}
use lib.ListN.{get_or, set}
use Rattle.number.specs.Number.{rounded, sum_of, product_of, Ranged, reach}
use Rattle.number.specs.declared.Direction.TheVariants.{Nearest}
use Rattle.number.specs.declared.Number.{Number}
use Rattle.number.proofs.Reach.{ranged-more, ranged-product}
use Rattle.rowset.specs.Mask.{mask_moves, mask_replaced, mask_count, count_below, position_of}
use Rattle.rowset.proofs.Masks.{mask-moves, mask-replaced, replaced-below}
use Rattle.rowset.proofs.Moved.{replaced-count, replaced-stays}
use Rattle.rowset.proofs.Positions.{position-injective}
use Rattle.words.specs.RowSet.{replaced, of_mask}
use Rattle.words.specs.Walk.{moved, moved_if}
use Rattle.rowset.specs.Sets.{Neighbours, closed_of, changed_of, ChangedAt}
use Rattle.table.specs.Table.{absent}
use Rattle.walk.specs.Held.{held_at, state_of, Agree, Working, letter_reach}
use Rattle.rowset.proofs.Order.{position-lt, position-within}
use Rattle.rowset.proofs.Changed.{changed-below, closed-below, closed-count, closed-changed}
use Rattle.walk.proofs.Held.{held_back, held-working, agree-masks}
use Rattle.walk.proofs.Sweep.{Swept, below-256, swept-next, swept_all}

-- the operands of a letter, and the product in it
abbrev Ready : Number → Number → Number → Type 0
Ready x w y = Ranged reach x × Ranged reach w × Ranged reach y × Ranged reach (product_of w y)

move-reach : {x w y : Number} → Ranged letter_reach x → Ranged 1000 w → Ranged letter_reach y → Ready x w y
move-reach x w y = (
  ranged-more (omega arith) x,
  ranged-more (omega arith) w,
  ranged-more (omega arith) y,
  ranged-more (omega arith) (ranged-product Nearest w y (omega arith)),
)

module _ (n k a o : ℕ) (w : Number) (v : List Number) where
  -- what the letter makes of the set s, and where s stands among the sets that it changes
  unfoldable pub moved_at : ℕ → Number
  moved_at s = moved rounded a o w (state_of v) (of_mask n s)

  unfoldable pub rank_of : ℕ → ℕ
  rank_of s = position_of (closed_of (min a o) s)

  abbrev pub SweptMove : List Number → ℕ → Type 0
  SweptMove u p = Swept n k (mask_moves a o) rank_of moved_at (held_at v) u p

  module _ (N : Neighbours n a o) where
    moved_by : (s : ℕ) (b : Bool) → mask_moves a o s ≡ b → moved_at s ≡ moved_if rounded b a o w (state_of v) (of_mask n s)
    unfolding moved_at moved
    moved_by s b e =
        ap (λ (x : Bool). moved_if rounded x a o w (state_of v) (of_mask n s)) (mask-moves n a o s N.to_low N.to_high N.from_low N.from-high ∙ e)

    pub moved-still : (s : ℕ) → s < 2 ^ n → mask_moves a o s ≡ false → moved_at s ≡ held_at v s
    moved-still s h e = moved_by s false e ∙ held_back v n s h

    pub moved-changed : (s : ℕ) → s < 2 ^ n → mask_moves a o s ≡ true → moved_at s ≡ sum_of (held_at v s) (product_of w (held_at v (mask_replaced a o s)))
    moved-changed s h e =
        let r : mask_replaced a o s < 2 ^ n = replaced-below n s a o h N.to_low N.to_high N.from_low N.from-high in
        let q : state_of v (replaced a o (of_mask n s)) ≡ held_at v (mask_replaced a o s) =
        ap (state_of v) (sym (mask-replaced n s a o h N.to_low N.to_high N.from_low N.from-high)) ∙ held_back v n (mask_replaced a o s) r in
        moved_by s true e ∙ ap₂ (λ (x y : Number). sum_of x (product_of w y)) (held_back v n s h) q

    module _ (ln : n ≤ 8) (hk : 1 ≤ k) where
      la : a ≤ 8
      la = omega (arith, N.to_high)

      lo : o ≤ 8
      lo = omega (arith, N.from-high)

      -- a set that is changed is known by its other rows, k - 1 out of n - 2
      closed-rows : (s : ℕ) → s < 256 → mask_count s ≡ k → mask_moves a o s ≡ true → mask_count (closed_of (min a o) s) ≡ k - 1
      closed-rows s b c m = omega (arith, closed-count s a o b N.to_low la N.from_low lo N.beside m)

      pub rank_lt : (s : ℕ) → s < 2 ^ n → mask_count s ≡ k → mask_moves a o s ≡ true → rank_of s < count_below (k - 1) (2 ^ (n - 2))
      unfolding rank_of
      rank_lt s b c m =
          let b' = below-256 n s ln b in
          position-lt (k - 1) (closed_of (min a o) s) (2 ^ (n - 2)) (closed-rows s b' c m)
          (closed-below s a o b' N.to_low la N.from_low lo N.beside n ln N.to_high N.from-high b)

      rank-only : (s t : ℕ) → s < 256 → t < 256 → mask_count s ≡ k → mask_count t ≡ k → mask_moves a o s ≡ true → mask_moves a o t ≡ true
          → rank_of t ≡ rank_of s → t ≡ s
      unfolding rank_of
      rank-only s t bs bt cs ct ms mt e =
          sym (closed-changed t a o bt N.to_low la N.from_low lo N.beside mt)
          ∙ ap (changed_of a o) (position-injective (closed_of (min a o) t) (closed_of (min a o) s) (closed-rows t bt ct mt ∙ sym (closed-rows s bs cs ms)) e)
          ∙ closed-changed s a o bs N.to_low la N.from_low lo N.beside ms

      module _ {p s : ℕ} (C : ChangedAt k a o p s) (lp : p < count_below (k - 1) (2 ^ (n - 2))) where
        pub changed-lt : s < 2 ^ n
        changed-lt =
            let c = closed-rows s C.below C.rows C.moves in
            let m : closed_of (min a o) s < 2 ^ (n - 2) = position-within (k - 1) (closed_of (min a o) s) (2 ^ (n - 2)) c (omega (arith, C.others)) in
            let h : closed_of (min a o) s < 64 = closed-below s a o C.below N.to_low la N.from_low lo N.beside 8 (omega arith) la lo C.below in
            subst (λ (x : ℕ). x < 2 ^ n) (closed-changed s a o C.below N.to_low la N.from_low lo N.beside C.moves)
            (changed-below (closed_of (min a o) s) a o h N.to_low la N.from_low lo N.beside n ln N.to_high N.from-high m)

        pub read-lt : mask_replaced a o s < 2 ^ n
        read-lt = replaced-below n s a o changed-lt N.to_low N.to_high N.from_low N.from-high

        pub read-rows : mask_count (mask_replaced a o s) ≡ k
        read-rows = replaced-count s a o C.below la lo C.moves ∙ C.rows

        module _ {u : List Number} (S : SweptMove u p) where
          -- the set that is changed has its old number, and the set that is read too: no letter changes what it reads
          pub changed-old : held_at u s ≡ held_at v s
          unfolding rank_of
          changed-old = S.rest s changed-lt C.rows (λ m. omega (arith, C.others))

          pub read-old : held_at u (mask_replaced a o s) ≡ held_at v (mask_replaced a o s)
          read-old = S.rest (mask_replaced a o s) read-lt read-rows (λ m. absurd (false≢true (sym (replaced-stays s a o C.below la lo C.moves) ∙ m)))

          module _ (i l j : ℕ) (ei : i ≡ position_of s) (el : l ≡ mask_replaced a o s) (ej : j ≡ position_of l) where
            here : get_or u i absent ≡ held_at v s
            unfolding held_at
            here = ap (λ (x : ℕ). get_or u x absent) ei ∙ changed-old

            there : get_or u j absent ≡ held_at v (mask_replaced a o s)
            unfolding held_at
            there = ap (λ (x : ℕ). get_or u x absent) (ej ∙ ap position_of el) ∙ read-old

            pub move-ready : Working letter_reach n k (state_of v) → Ranged 1000 w → Ready (get_or u i absent) w (get_or u j absent)
            move-ready r t =
                move-reach (subst (Ranged letter_reach) (sym here) (held-working v ln r s changed-lt C.rows)) t
                (subst (Ranged letter_reach) (sym there) (held-working v ln r (mask_replaced a o s) read-lt read-rows))

            pub move-next : (z : Number) (u' : List Number) → z ≡ sum_of (get_or u i absent) (product_of w (get_or u j absent)) → u' ≡ set u i z
                → SweptMove u' (p + 1)
            unfolding rank_of
            move-next z u' ez eu =
                swept-next S s ln changed-lt C.rows C.moves C.others
                (λ t bt ct mt e. rank-only s t C.below (below-256 n t ln bt) C.rows ct C.moves mt (e ∙ sym C.others))
                u' z (eu ∙ ap (λ (x : ℕ). set u x z) ei)
                (ez ∙ ap₂ (λ (x y : Number). sum_of x (product_of w y)) here there ∙ sym (moved-changed s changed-lt C.moves))

      pub move_all : {u : List Number} {p : ℕ} → SweptMove u p → count_below (k - 1) (2 ^ (n - 2)) ≤ p → Agree n k (state_of u)
          (moved rounded a o w (state_of v))
      unfolding moved_at
      move_all {u} S h =
          agree-masks n k u (moved rounded a o w (state_of v)) ln
          (swept_all S (λ s b c m. omega (arith, rank_lt s b c m)) (λ s b c m. moved-still s b m))
