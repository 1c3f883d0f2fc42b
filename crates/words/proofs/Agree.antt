-- States that agree on the sets of n rows: a walk keeps that (act-agree, walk-agree). So a word whose letters leave the highest row alone
-- is walked on the rows under it (walk-under, with rows_under for its letters).
use mathlib.Core.Path.{◌≡◌, refl, sym, ap, ap₂, ◌∙◌, subst}
use mathlib.Core.Bool.{Bool, true, false, not, ◌&&◌}
use mathlib.Core.List.{[], ◌∷◌}
use Prim.Native.Nat.{ℕ, suc}
use lib.ListN.{length}
use Rattle.fraction.specs.Arithmetic.{Arithmetic}
use Rattle.words.specs.RowSet.{RowSet, has, replaced}
use Rattle.words.specs.Word.{Letter, E, Et, D, Dinv, Word}
use Rattle.words.specs.Walk.{State, moved, moved_if, scaled, act, walk}
use Rattle.words.proofs.RowSets.{length-replaced}
use Rattle.words.proofs.Walks.{Rows, All, Move, under, act-under}

-- the same numbers at the sets of n rows
abbrev pub Agree : {A : Type 0} → ℕ → (ω η : RowSet → A) → Type 0
Agree n ω η = (S : RowSet) → length S ≡ n → ω S ≡ η S

pub agree-under : {A : Type 0} {n : ℕ} {ω η : RowSet → A} (x : Bool) → Agree (suc n) ω η → Agree n (under x ω) (under x η)
agree-under x h S s = h (x ∷ S) (ap suc s)

module _ (K : Arithmetic) where
  open K use {Num, add, mul, div}

  pub moved-agree : (n a o : ℕ) (w : Num) (ω η : State K) → Agree n ω η → Agree n (moved K a o w ω) (moved K a o w η)
  unfolding moved
  moved-agree n a o w ω η h S s = by (has a S && not (has o S))
    where
      by : (t : Bool) → moved_if K t a o w ω S ≡ moved_if K t a o w η S
      by true = ap₂ (λ x y. add x (mul w y)) (h S s) (h (replaced a o S) (length-replaced a o S ∙ s))
      by false = h S s

  pub act-agree : (n : ℕ) (l : Letter Num) (ω η : State K) → Agree n ω η → Agree n (act K l ω) (act K l η)
  unfolding act
  act-agree n (E j w) ω η h = moved-agree n _ _ w ω η h
  act-agree n (Et j w) ω η h = moved-agree n _ _ w ω η h
  act-agree n (D e) ω η h = λ S s. ap (scaled K mul e S) (h S s)
  act-agree n (Dinv e) ω η h = λ S s. ap (scaled K div e S) (h S s)

  pub walk-agree : (n : ℕ) (W : Word Num) (ω η : State K) → Agree n ω η → Agree n (walk K W ω) (walk K W η)
  unfolding walk
  walk-agree n [] ω η h = h
  walk-agree n (l ∷ W) ω η h = act-agree n l (walk K W ω) (walk K W η) (walk-agree n W ω η h)

  -- where the highest row is in the set (true), or is not (false), the letter acts on the n rows under it
  abbrev pub Under : ℕ → Bool → Letter Num → Type 0
  Under n x l = (ω : State K) → Agree n (under x (act K l ω)) (act K l (under x ω))

  pub walk-under : (n : ℕ) (x : Bool) (W : Word Num) → All (Under n x) W → (ω : State K) → Agree n (under x (walk K W ω)) (walk K W (under x ω))
  unfolding walk
  walk-under n x [] h ω S s = refl
  walk-under n x (l ∷ W) h ω S s = h.0 (walk K W ω) S s ∙ act-agree n l (under x (walk K W ω)) (walk K W (under x ω)) (walk-under n x W h.1 ω) S s

  pub rows_under : (n : ℕ) (x : Bool) (l : Letter Num) → Move K l → Rows n l → Under n x l
  rows_under n x l m h ω S s = act-under K l m ω x S (subst (λ k. Rows k l) (sym s) h)
