-- States that agree on the sets of k rows (agree_refl, agree_trans), the state that 70 numbers hold by masks (held_back, agree-masks), and letters on states
-- that agree (act-agree).
use mathlib.Core.Path.{◌≡◌, refl, sym, ap, ap₂, ◌∙◌, subst}
use mathlib.Core.Bool.{Bool, true, false, not, ◌&&◌}
use mathlib.Core.List.{List}
use Prim.Native.Nat.{ℕ, ◌-◌, ◌^◌, ◌≤◌, ◌<◌}
use native.Mathlib.Omega.{arith}
use lib.ListN.{length}
use lib.Pow.{pow_mono}
use Rattle.number.specs.Number.{rounded, sum_of, product_of, quotient_of, Ranged}
use Rattle.number.specs.declared.Number.{Number}
use Rattle.rowset.specs.Mask.{mask_of, mask_count, mask_moves, mask_replaced}
use Rattle.rowset.proofs.Masks.{mask_of-below, set_back, mask-back, of_mask-length, mask-moves, mask-replaced, replaced-below}
use Rattle.rowset.proofs.Moved.{replaced-count}
use Rattle.rowset.proofs.Counts.{mask-count}
use Rattle.words.specs.RowSet.{RowSet, has, replaced, count, of_mask}
use Rattle.words.specs.Word.{Letter, E, Et, D, Dinv}
use Rattle.words.specs.Walk.{State, moved, moved_if, scaled, act}
use Rattle.words.proofs.RowSets.{length-replaced}
use Rattle.words.proofs.Walks.{Rows}
use Rattle.walk.specs.Held.{held_at, state_of, Agree, Working}

module _ {n k : ℕ} where
  pub agree_refl : (ω : State rounded) → Agree n k ω ω
  agree_refl ω = record { same = λ S e f. refl }

  pub agree_trans : {ω η θ : State rounded} → Agree n k ω η → Agree n k η θ → Agree n k ω θ
  agree_trans p q = record { same = λ S e f. p.same S e f ∙ q.same S e f }

  pub working-agree : {r : ℕ} {ω η : State rounded} → Agree n k ω η → Working r n k η → Working r n k ω
  working-agree {r} p w = record { ranged = λ S e f. subst (Ranged r) (sym (p.same S e f)) (w.ranged S e f) }

-- BY MASKS
module _ (n : ℕ) (S : RowSet) (e : length S ≡ n) where
  pub mask_lt : mask_of S < 2 ^ n
  mask_lt = subst (λ (m : ℕ). mask_of S < 2 ^ m) e (mask_of-below S)

  pub mask-set : of_mask n (mask_of S) ≡ S
  mask-set = ap (λ (m : ℕ). of_mask m (mask_of S)) (sym e) ∙ set_back S

  pub mask-rows : n ≤ 8 → mask_count (mask_of S) ≡ count S
  mask-rows l = sym (mask-count n (mask_of S) l mask_lt) ∙ ap count mask-set

pub held_back : (v : List Number) (n s : ℕ) → s < 2 ^ n → state_of v (of_mask n s) ≡ held_at v s
held_back v n s h = ap (held_at v) (mask-back n s h)

pub agree-masks : (n k : ℕ) (v : List Number) (ω : State rounded) → n ≤ 8 → ((s : ℕ) → s < 2 ^ n → mask_count s ≡ k → held_at v s ≡ ω (of_mask n s))
    → Agree n k (state_of v) ω
agree-masks n k v ω l h = record { same = λ S e f. h (mask_of S) (mask_lt n S e) (mask-rows n S e l ∙ f) ∙ ap ω (mask-set n S e) }

pub held-working : {r n k : ℕ} (v : List Number) → n ≤ 8 → Working r n k (state_of v) → (s : ℕ) → s < 2 ^ n → mask_count s ≡ k → Ranged r (held_at v s)
held-working {r} {n} {k} v l w s h c = subst (Ranged r) (held_back v n s h) (w.ranged (of_mask n s) (of_mask-length n s) (mask-count n s l h ∙ c))

-- LETTERS ON STATES THAT AGREE
-- a move keeps the count of rows
replaced-rows : (n a o : ℕ) (S : RowSet) → length S ≡ n → n ≤ 8 → 1 ≤ a → a ≤ n → 1 ≤ o → o ≤ n → (has a S && not (has o S)) ≡ true
    → count (replaced a o S) ≡ count S
replaced-rows n a o S e ln ha la ho lo t =
    let s : ℕ = mask_of S in
    let b : s < 2 ^ n = mask_lt n S e in
    let q : of_mask n s ≡ S = mask-set n S e in
    let h : 2 ^ n ≤ 2 ^ 8 = pow_mono ln in
    let m : mask_moves a o s ≡ true = sym (mask-moves n a o s ha la ho lo) ∙ ap (λ (T : RowSet). has a T && not (has o T)) q ∙ t in
    ap (λ (T : RowSet). count (replaced a o T)) (sym q) ∙ ap count (sym (mask-replaced n s a o b ha la ho lo))
    ∙ mask-count n (mask_replaced a o s) ln (replaced-below n s a o b ha la ho lo)
    ∙ replaced-count s a o (omega arith) (omega arith) (omega arith) m ∙ mask-rows n S e ln

module _ {n k : ℕ} (ln : n ≤ 8) where
  moved-agree : (a o : ℕ) (w : Number) (ω η : State rounded) → 1 ≤ a → a ≤ n → 1 ≤ o → o ≤ n → Agree n k ω η
      → Agree n k (moved rounded a o w ω) (moved rounded a o w η)
  unfolding moved
  moved-agree a o w ω η ha la ho lo h = record { same = λ S e c. go S e c (has a S && not (has o S)) refl }
    where
      go : (S : RowSet) → length S ≡ n → count S ≡ k → (b : Bool) → (has a S && not (has o S)) ≡ b → moved_if rounded b a o w ω S ≡ moved_if rounded b a o w η S
      go S e c true t =
          ap₂ (λ (x y : Number). sum_of x (product_of w y)) (h.same S e c)
          (h.same (replaced a o S) (length-replaced a o S ∙ e) (replaced-rows n a o S e ln ha la ho lo t ∙ c))
      go S e c false t = h.same S e c

  pub act-agree : (l : Letter Number) → Rows n l → (ω η : State rounded) → Agree n k ω η → Agree n k (act rounded l ω) (act rounded l η)
  unfolding act
  act-agree (E j w) r ω η h = moved-agree j (j - 1) w ω η (omega (arith, r.0)) r.1 (omega (arith, r.0)) (omega (arith, r.1)) h
  act-agree (Et j w) r ω η h = moved-agree (j - 1) j w ω η (omega (arith, r.0)) (omega (arith, r.1)) (omega (arith, r.0)) r.1 h
  act-agree (D e) r ω η h = record { same = λ S z c. ap (scaled rounded product_of e S) (h.same S z c) }
  act-agree (Dinv e) r ω η h = record { same = λ S z c. ap (scaled rounded quotient_of e S) (h.same S z c) }
