-- Laws of the walk over any arithmetic: words joined (walk-append, carry-append), the start at its own set (one_at-same), letters under the highest row
-- (act-under, act-false),
-- and at the two highest rows (raise-top, lower-top). What holds of every letter of a word (All), as that its rows are among 1 .. n (Rows).
use mathlib.Core.Path.{◌≡◌, refl, ap, ap₂, ◌∙◌}
use mathlib.Core.Bool.{Bool, true, false, not, cond, ◌&&◌}
use mathlib.Core.List.{[], ◌∷◌, ◌++◌}
use Prim.Native.Nat.{ℕ, suc, ◌-◌, ◌≤◌}
use native.Mathlib.Omega.{arith}
use lib.ListN.{length}
use Rattle.fraction.specs.Arithmetic.{Arithmetic}
use Rattle.words.specs.RowSet.{RowSet, has}
use Rattle.words.specs.Word.{Letter, E, Et, D, Dinv, Word}
use Rattle.words.specs.Walk.{State, one_at, moved, moved_if, scaled, act, walk, carry_letter, carry}
use Rattle.words.proofs.RowSets.{equal-same, has-top, has-under, replaced-under, replaced-down, replaced-up}

-- A letter has its rows among 1 .. n, and so has a word's every letter.
abbrev pub Rows : {A : Type 0} → ℕ → Letter A → Type 0
Rows n (E j w) = (2 ≤ j) × (j ≤ n)
Rows n (Et j w) = (2 ≤ j) × (j ≤ n)
Rows n (D e) = Unit {0}
Rows n (Dinv e) = Unit {0}

abbrev pub All : {A : Type 0} → (Letter A → Type 0) → Word A → Type 0
All P [] = Unit {0}
All P (l ∷ W) = P l × All P W

pub all_append : {A : Type 0} (P : Letter A → Type 0) (U W : Word A) → All P U → All P W → All P (U ++ W)
all_append P [] W u w = w
all_append P (l ∷ U) W u w = (u.0, all_append P U W u.1 w)

pub all-behind : {A : Type 0} (P : Letter A → Type 0) (U W : Word A) → All P (U ++ W) → All P W
all-behind P [] W h = h
all-behind P (l ∷ U) W h = all-behind P U W h.1

-- the states on the sets whose highest row is in (true), or not in (false)
abbrev pub under : {A : Type 0} → Bool → (RowSet → A) → RowSet → A
under x ω S = ω (x ∷ S)

module _ (K : Arithmetic) where
  open K use {Num, add, mul}

  pub walk-append : (U W : Word Num) (ω : State K) → walk K (U ++ W) ω ≡ walk K U (walk K W ω)
  unfolding walk
  walk-append [] W ω = refl
  walk-append (l ∷ U) W ω = ap (act K l) (walk-append U W ω)

  pub carry-append : (U W : Word Num) (v : ℕ → Num) → carry K (U ++ W) v ≡ carry K U (carry K W v)
  unfolding carry
  carry-append [] W v = refl
  carry-append (l ∷ U) W v = ap (carry_letter K l) (carry-append U W v)

  -- the start, at its own set
  pub one_at-same : (S : RowSet) → one_at K S S ≡ K.one
  unfolding one_at
  one_at-same S = ap (λ t. cond t K.one K.zero) (equal-same S)

  -- what a move does where neither of its rows is the highest
  pub moved-under : (a o : ℕ) (w : Num) (ω : State K) (x : Bool) (S : RowSet) → a ≤ length S → o ≤ length S
      → moved K a o w ω (x ∷ S) ≡ moved K a o w (under x ω) S
  unfolding moved
  moved-under a o w ω x S h g =
      ap₂ (λ y z. moved_if K (y && not z) a o w ω (x ∷ S)) (has-under a x S h) (has-under o x S g)
      ∙ by (has a S && not (has o S))
    where
      by : (t : Bool) → moved_if K t a o w ω (x ∷ S) ≡ moved_if K t a o w (under x ω) S
      by true = ap (λ T. add (ω (x ∷ S)) (mul w (ω T))) (replaced-under a o x S h g)
      by false = refl

  -- E at the two highest rows, and Et
  abbrev pub raised : Num → State K → Bool → Bool → RowSet → Num
  raised w ω true true S = ω (true ∷ true ∷ S)
  raised w ω true false S = add (ω (true ∷ false ∷ S)) (mul w (ω (false ∷ true ∷ S)))
  raised w ω false y S = ω (false ∷ y ∷ S)

  abbrev pub lowered : Num → State K → Bool → Bool → RowSet → Num
  lowered w ω false true S = add (ω (false ∷ true ∷ S)) (mul w (ω (true ∷ false ∷ S)))
  lowered w ω false false S = ω (false ∷ false ∷ S)
  lowered w ω true y S = ω (true ∷ y ∷ S)

  pub moved-raised : (w : Num) (ω : State K) (x y : Bool) (S : RowSet) → moved K (suc (suc (length S))) (suc (length S)) w ω (x ∷ y ∷ S) ≡ raised w ω x y S
  unfolding moved
  moved-raised w ω x y S =
      ap₂ (λ p q. moved_if K (p && not q) (suc (suc (length S))) (suc (length S)) w ω (x ∷ y ∷ S))
      (has-top x (y ∷ S)) (has-under (suc (length S)) x (y ∷ S) (omega arith) ∙ has-top y S)
      ∙ by x y
    where
      by : (x y : Bool) → moved_if K (x && not y) (suc (suc (length S))) (suc (length S)) w ω (x ∷ y ∷ S) ≡ raised w ω x y S
      by true true = refl
      by true false = ap (λ T. add (ω (true ∷ false ∷ S)) (mul w (ω T))) (replaced-down true false S)
      by false y = refl

  pub moved-lowered : (w : Num) (ω : State K) (x y : Bool) (S : RowSet) → moved K (suc (length S)) (suc (suc (length S))) w ω (x ∷ y ∷ S) ≡ lowered w ω x y S
  unfolding moved
  moved-lowered w ω x y S =
      ap₂ (λ p q. moved_if K (p && not q) (suc (length S)) (suc (suc (length S))) w ω (x ∷ y ∷ S))
      (has-under (suc (length S)) x (y ∷ S) (omega arith) ∙ has-top y S) (has-top x (y ∷ S))
      ∙ by x y
    where
      by : (x y : Bool) → moved_if K (y && not x) (suc (length S)) (suc (suc (length S))) w ω (x ∷ y ∷ S) ≡ lowered w ω x y S
      by true true = refl
      by true false = refl
      by false true = ap (λ T. add (ω (false ∷ true ∷ S)) (mul w (ω T))) (replaced-up false true S)
      by false false = refl

  -- a letter E or Et under the highest row
  abbrev pub Move : Letter Num → Type 0
  Move (E j w) = Unit {0}
  Move (Et j w) = Unit {0}
  Move (D e) = ⊥
  Move (Dinv e) = ⊥

  pub act-under : (l : Letter Num) → Move l → (ω : State K) (x : Bool) (S : RowSet) → Rows (length S) l → act K l ω (x ∷ S) ≡ act K l (under x ω) S
  unfolding act
  act-under (E j w) m ω x S h = moved-under j (j - 1) w ω x S h.1 (omega (arith, h.1))
  act-under (Et j w) m ω x S h = moved-under (j - 1) j w ω x S (omega (arith, h.1)) h.1
  act-under (D _) m ω x S h = elim m [ ]
  act-under (Dinv _) m ω x S h = elim m [ ]

  -- and, where the highest row is not in the set, every letter
  pub act-false : (l : Letter Num) (ω : State K) (S : RowSet) → Rows (length S) l → act K l ω (false ∷ S) ≡ act K l (under false ω) S
  unfolding act scaled
  act-false (E j w) ω S h = act-under (E j w) tt ω false S h
  act-false (Et j w) ω S h = act-under (Et j w) tt ω false S h
  act-false (D e) ω S h = refl
  act-false (Dinv e) ω S h = refl

  -- at the two highest rows
  pub raise-top : (j : ℕ) (w : Num) (ω : State K) (x y : Bool) (S : RowSet) → j ≡ suc (suc (length S)) → act K (E j w) ω (x ∷ y ∷ S) ≡ raised w ω x y S
  unfolding act
  raise-top j w ω x y S e =
      let f : j - 1 ≡ suc (length S) = omega arith in
      ap₂ (λ a o. moved K a o w ω (x ∷ y ∷ S)) e f ∙ moved-raised w ω x y S

  pub lower-top : (j : ℕ) (w : Num) (ω : State K) (x y : Bool) (S : RowSet) → j ≡ suc (suc (length S)) → act K (Et j w) ω (x ∷ y ∷ S) ≡ lowered w ω x y S
  unfolding act
  lower-top j w ω x y S e =
      let f : j - 1 ≡ suc (length S) = omega arith in
      ap₂ (λ a o. moved K o a w ω (x ∷ y ∷ S)) e f ∙ moved-lowered w ω x y S
