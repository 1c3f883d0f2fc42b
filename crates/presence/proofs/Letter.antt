-- A letter on 256 Bools, mask after mask (Gone): the masks below s have their new Bool, the others their old one. None are gone through at first (gone-none),
-- each in turn (gone-skip, gone-move), and all in the end (gone-all).
use mathlib.Core.Path.{◌≡◌, refl, sym, ap, ap₂, ◌∙◌}
use mathlib.Core.Bool.{Bool, true, false, not, ◌&&◌, ◌||◌, false≢true}
use mathlib.Core.List.{List}
use Prim.Native.Nat.{ℕ, ◌+◌, ◌^◌, ◌≤◌, ◌<◌}
use native.Mathlib.Decide.{ℕ_discrete, dec_le}
use native.Mathlib.Omega.{arith}
use lib.ListN.{length, set, length-set}
use lib.Seq.{get_or-set_same, get_or-set_other}
use Rattle.rowset.specs.Mask.{mask_of, mask_moves, mask_replaced}
use Rattle.rowset.proofs.Moved.{replaced-stays}
use Rattle.rowset.proofs.Masks.{mask-back, mask-moves, mask-replaced, replaced-below}
use Rattle.walk.proofs.Held.{mask_lt, mask-set}
use Rattle.words.specs.RowSet.{RowSet, has, replaced, of_mask}
use Rattle.words.specs.Walk.{moved, moved_if}
use Rattle.presence.specs.Presence.{presence}
use Rattle.presence.specs.Held.{held_at, state_of, Agree}

abbrev pub new_if : Bool → List Bool → ℕ → ℕ → ℕ → Bool
new_if true v a o s = held_at v s || held_at v (mask_replaced a o s)
new_if false v a o s = held_at v s

abbrev pub new_at : List Bool → ℕ → ℕ → ℕ → Bool
new_at v a o s = new_if (mask_moves a o s) v a o s

pub record Gone (v : List Bool) (a o : ℕ) (u : List Bool) (s : ℕ) : Type 0 where
  pub size : length u ≡ 256
  pub done : (x : ℕ) → x < s → held_at u x ≡ new_at v a o x
  pub rest : (x : ℕ) → s ≤ x → held_at u x ≡ held_at v x

module _ {v : List Bool} {a o : ℕ} where
  pub gone-none : length v ≡ 256 → Gone v a o v 0
  gone-none e = record { size = e; done = λ x l. absurd (omega arith); rest = λ x l. refl }

  module _ {u : List Bool} {s : ℕ} (g : Gone v a o u s) where
    -- a mask that the letter does not change has its old Bool, gone through or not
    unchanged : (x : ℕ) → mask_moves a o x ≡ false → held_at u x ≡ held_at v x
    unchanged x m = elim (dec_le s x) [
      | yes l ↦ g.rest x l
      | no f ↦ g.done x (omega arith) ∙ ap (λ (b : Bool). new_if b v a o x) m
    ]

    pub gone-skip : mask_moves a o s ≡ false → Gone v a o u (s + 1)
    gone-skip m = record {
      size = g.size;
      done = λ x l. elim (ℕ_discrete x s) [
        | yes f ↦ ap (held_at u) f ∙ g.rest s (omega arith) ∙ sym (ap (λ (b : Bool). new_if b v a o s) m) ∙ ap (new_at v a o) (sym f)
        | no f ↦ g.done x (omega arith)
      ];
      rest = λ x l. g.rest x (omega arith);
    }

    gone-set : s < 256 → (y : Bool) → y ≡ new_at v a o s → Gone v a o (set u s y) (s + 1)
    unfolding held_at
    gone-set l y e = record {
      size = length-set u s y ∙ g.size;
      done = λ x k. elim (ℕ_discrete x s) [
        | yes f ↦ ap (held_at (set u s y)) f ∙ get_or-set_same u s y false (omega (arith, g.size)) ∙ e ∙ ap (new_at v a o) (sym f)
        | no f ↦ get_or-set_other u s x y false f ∙ g.done x (omega arith)
      ];
      rest = λ x k. get_or-set_other u s x y false (λ f. omega arith) ∙ g.rest x (omega arith);
    }

    -- the mask that is read is none that the letter changes
    pub gone-move : s < 256 → a ≤ 8 → o ≤ 8 → mask_moves a o s ≡ true → (t : ℕ) → t ≡ mask_replaced a o s → (y : Bool) → y ≡ held_at u s || held_at u t
        → Gone v a o (set u s y) (s + 1)
    gone-move l la lo m t e y f =
        gone-set l y (f ∙ ap₂ ◌||◌ (g.rest s (omega arith)) (ap (held_at u) e ∙ unchanged (mask_replaced a o s) (replaced-stays s a o l la lo m))
        ∙ sym (ap (λ (b : Bool). new_if b v a o s) m))

  pub gone-all : {u : List Bool} (n : ℕ) → n ≤ 8 → 1 ≤ a → a ≤ n → 1 ≤ o → o ≤ n → {s : ℕ} → 2 ^ n ≤ s → Gone v a o u s
      → Agree n (state_of u) (moved presence a o true (state_of v))
  unfolding moved
  gone-all {u} n ln la ha lo ho all g = record { same = λ S e. at S e }
    where
      at : (S : RowSet) → length S ≡ n → held_at u (mask_of S) ≡ moved_if presence (has a S && not (has o S)) a o true (state_of v) S
      at S e =
          let s : ℕ = mask_of S in
          let b : s < 2 ^ n = mask_lt n S e in
          let w : of_mask n s ≡ S = mask-set n S e in
          let m : mask_moves a o s ≡ has a S && not (has o S) = sym (mask-moves n a o s la ha lo ho) ∙ ap (λ (T : RowSet). has a T && not (has o T)) w in
          let r : mask_replaced a o s ≡ mask_of (replaced a o S) =
          sym (mask-back n (mask_replaced a o s) (replaced-below n s a o b la ha lo ho))
          ∙ ap mask_of (mask-replaced n s a o b la ha lo ho ∙ ap (replaced a o) w) in
          g.done s (omega (arith, all)) ∙ by (mask_moves a o s) (has a S && not (has o S)) m r
        where
          by : (x y : Bool) → x ≡ y → mask_replaced a o (mask_of S) ≡ mask_of (replaced a o S)
              → new_if x v a o (mask_of S) ≡ moved_if presence y a o true (state_of v) S
          by true true m r = ap (λ (z : ℕ). held_at v (mask_of S) || held_at v z) r
          by false false m r = refl
          by true false m r = absurd (false≢true (sym m))
          by false true m r = absurd (false≢true m)
