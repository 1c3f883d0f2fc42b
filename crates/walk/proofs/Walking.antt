-- The walk of a step's word from its last letter on (walk_start, walk-next): states that agree stay so (walk-agree), and no number on the way leaves its
-- range (step-working).
use mathlib.Core.Path.{◌≡◌, refl, sym, ap, ◌∙◌, subst}
use mathlib.Core.Bool.{Bool, true, false, cond}
use mathlib.Core.List.{[], ◌∷◌, ◌++◌}
use Prim.Native.Nat.{ℕ, ◌+◌, ◌*◌, ◌≤◌, ◌<◌}
use native.Mathlib.Nat.{mul-le-mul}
use native.Mathlib.Numerals.{add-one}
use native.Mathlib.Omega.{arith}
use borrow.Author.Tests.{eq-eqb, eqb-true}
use lib.Dec.{eqb}
use lib.ListN.{get_or, length, take, drop, take-append-drop}
use lib.Seq.{drop-cons, drop-length}
use Rattle.number.specs.Number.{rounded, zero_number, Ranged, Stored}
use Rattle.number.specs.declared.Number.{Number}
use Rattle.number.proofs.Reach.{ranged-more, ranged-zero}
use Rattle.words.specs.RowSet.{RowSet, count}
use Rattle.words.specs.Word.{Letter, Word, total}
use Rattle.words.specs.Walk.{State, act, walk}
use Rattle.words.specs.Operation as words
use Rattle.words.specs.Operation.{step_word, joined_word}
use Rattle.words.proofs.Walks.{Rows, All, all-behind}
use Rattle.words.proofs.Related.{letter_cost}
use Rattle.words.proofs.Counts.{total-append, joined-square}
use Rattle.words.proofs.Steps.{Weights, step-rows, step-weights}
use Rattle.words.specs.Sources.{Walkable, Source}
use Rattle.words.proofs.Exponents.{state-ranged}
use Rattle.walk.specs.Held.{Agree, Working, step_reach, letter_reach}
use Rattle.walk.proofs.Held.{agree_refl, agree_trans, working-agree, act-agree}

module _ {n k : ℕ} (ln : n ≤ 8) where
  pub walk-agree : (W : Word Number) → All (Rows n) W → (ω η : State rounded) → Agree n k ω η → Agree n k (walk rounded W ω) (walk rounded W η)
  unfolding walk
  walk-agree [] r ω η h = h
  walk-agree (l ∷ W) r ω η h = act-agree ln l r.0 (walk rounded W ω) (walk rounded W η) (walk-agree W r.1 ω η h)

-- a state with zero at the sets of another count of rows
module _ (k : ℕ) (ω : State rounded) where
  only : State rounded
  only S = cond (eqb (count S) k) (ω S) zero_number

  only-agree : (n : ℕ) → Agree n k ω only
  unfolding only
  only-agree n = record { same = λ S e c. ap (λ (b : Bool). cond b (ω S) zero_number) (sym (eq-eqb (count S) k c)) }

  only-ranged : (r n : ℕ) → Working r n k ω → (S : RowSet) → length S ≡ n → Ranged r (only S)
  unfolding only
  only-ranged r n w S e = by (eqb (count S) k) refl
    where
      by : (b : Bool) → eqb (count S) k ≡ b → Ranged r (cond b (ω S) zero_number)
      by true t = w.ranged S e (eqb-true (count S) k t)
      by false t = ranged-zero r

-- THE LETTERS W OF A STEP'S WORD applied, U not yet: each of its n² letters and entries takes the exponents 1035 further at most
module _ (n k : ℕ) (s : words.Step Number) (walkable : Source (Walkable n) s) (some : 1 ≤ n) (ln : n ≤ 8) where
  part-cost : (U W : Word Number) → U ++ W ≡ step_word n s → total (letter_cost 1035 (n * 1035)) W ≤ 66240
  unfolding joined_word
  part-cost U W e =
      let h : n * n ≤ 8 * 8 = mul-le-mul ln ln in
      let d : total (letter_cost 1035 (n * 1035)) U + total (letter_cost 1035 (n * 1035)) W ≡ 1035 * (1 * (n * n)) =
      sym (total-append (letter_cost 1035 (n * 1035)) U W) ∙ ap (total (letter_cost 1035 (n * 1035))) e ∙ joined-square 1035 n (s ∷ []) some in
      omega arith

  pub part-rows : (U W : Word Number) → U ++ W ≡ step_word n s → All (Rows n) W
  part-rows U W e = all-behind (Rows n) U W (subst (All (Rows n)) (sym e) (step-rows n s))

  pub step-working : (U W : Word Number) → U ++ W ≡ step_word n s → (ω : State rounded) → Working step_reach n k ω → Working letter_reach n k (walk rounded W ω)
  step-working U W e ω w =
      working-agree (walk-agree ln W (part-rows U W e) ω (only k ω) (only-agree k ω n))
      (record {
        ranged = λ S z c. ranged-more (omega (arith, part-cost U W e))
            (state-ranged n W (all-behind (Weights (Ranged 1000) Stored n) U W
            (subst (All (Weights (Ranged 1000) Stored n)) (sym e) (step-weights (Ranged 1000) Stored n s walkable)))
            step_reach (only k ω) (only-ranged k ω step_reach n w) (omega (arith, part-cost U W e)) S z);
      })

-- FROM THE LAST LETTER ON
pub walk_start : {n k : ℕ} (X : Word Number) (t : ℕ) (ω : State rounded) → t ≡ length X → Agree n k ω (walk rounded (drop t X) ω)
unfolding walk
walk_start X t ω e = rw (e, drop-length X) (agree_refl ω)

module _ {n k : ℕ} (ln : n ≤ 8) (X : Word Number) (rows : All (Rows n) X) (ω : State rounded) where
  pub walk-next : (t : ℕ) → t < length X → (d : Letter Number) (η θ : State rounded) → Agree n k η (walk rounded (drop (t + 1) X) ω)
      → Agree n k θ (act rounded (get_or X t d) η)
      → Agree n k θ (walk rounded (drop t X) ω)
  unfolding walk
  walk-next t l d η θ p q =
      let e : drop t X ≡ get_or X t d ∷ drop (t + 1) X = drop-cons X t d l ∙ ap (λ (i : ℕ). get_or X t d ∷ drop i X) (sym (add-one t)) in
      let r : All (Rows n) (drop t X) = all-behind (Rows n) (take t X) (drop t X) (subst (All (Rows n)) (sym (take-append-drop t X)) rows) in
      subst (λ (W : Word Number). Agree n k θ (walk rounded W ω)) (sym e)
      (agree_trans q (act-agree ln (get_or X t d) (subst (All (Rows n)) e r).0 η (walk rounded (drop (t + 1) X) ω) p))
