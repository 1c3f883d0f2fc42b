-- THE WALK OF THE TRANSPOSED WORD IN BOOLS: two states meet where both have a set; a letter on one and its transpose on the other meet alike (letter-meets), so
-- do words (walk_meets). So the minor of the transposed word with its sets exchanged is that of the word (minor-turned).
use mathlib.Core.Path.{◌≡◌, refl, sym, ap, ap₂, ◌∙◌}
use mathlib.Core.Bool.{Bool, true, false, not, cond, ◌&&◌, ◌||◌}
use mathlib.Core.List.{[], ◌∷◌}
use Prim.Native.Nat.{ℕ, suc, ◌-◌, ◌^◌, ◌≤◌, ◌<◌}
use native.Mathlib.Omega.{arith}
use lib.Dec.{T, eqb, eqb→eq}
use lib.ListN.{length}
use lib.Pow.{pow_mono}
use Rattle.number.proofs.Tests.{both}
use Rattle.rowset.specs.Mask.{mask_of, mask_has, mask_put, mask_replaced, mask_moves}
use Rattle.rowset.proofs.Finite.{and_left, and_right, T_true, implies, implies-at, all₃, all₃-at}
use Rattle.rowset.proofs.Masks.{mask-moves, mask-replaced, replaced-below}
use Rattle.walk.proofs.Held.{mask_lt, mask-set}
use Rattle.words.specs.RowSet.{In, RowSet, has, replaced, equal, of_mask}
use Rattle.words.specs.Word.{Letter, E, Et, D, Dinv, Word, transposed_letter, transposed_word}
use Rattle.words.specs.Walk.{one_at, moved, moved_if, scaled, act, walk, minor}
use Rattle.words.specs.Latest.{some, latest}
use Rattle.words.proofs.RowSets.{length-replaced, equal-same, equal-true}
use Rattle.words.proofs.Walks.{Rows, All, walk-append}
use Rattle.words.proofs.Steps.{Weights}
use Rattle.words.proofs.Latest.{length-latest, latest-passes, some-passes}
use Rattle.presence.specs.Presence.{presence}

-- A MOVE AND BACK: one computed test
back-test : ℕ → ℕ → ℕ → Bool
back-test s a o = implies (mask_moves a o s) (mask_moves o a (mask_replaced a o s) && eqb (mask_replaced o a (mask_replaced a o s)) s)

back-all : T (all₃ 256 9 9 back-test)
unfolding back-test mask_moves mask_replaced mask_put mask_has
back-all = tt

module _ (n a o : ℕ) (ln : n ≤ 8) (ha : In n a) (ho : In n o) (S : RowSet) (e : length S ≡ n) (m : (has a S && not (has o S)) ≡ true) where
  abbrev s : ℕ
  s = mask_of S

  abbrev t : ℕ
  t = mask_replaced a o s

  s-lt : s < 2 ^ n
  s-lt = mask_lt n S e

  t-lt : t < 2 ^ n
  t-lt = replaced-below n s a o s-lt ha.0 ha.1 ho.0 ho.1

  t-set : of_mask n t ≡ replaced a o S
  t-set = mask-replaced n s a o s-lt ha.0 ha.1 ho.0 ho.1 ∙ ap (replaced a o) (mask-set n S e)

  tested : T (mask_moves o a t && eqb (mask_replaced o a t) s)
  unfolding back-test
  tested =
      let h : 2 ^ n ≤ 2 ^ 8 = pow_mono ln in
      implies-at (mask_moves a o s) _ (all₃-at 256 9 9 back-test back-all s a o (omega (arith, s-lt)) (omega (arith, ha.1)) (omega (arith, ho.1)))
      (sym (mask-moves n a o s ha.0 ha.1 ho.0 ho.1) ∙ ap (λ (X : RowSet). has a X && not (has o X)) (mask-set n S e) ∙ m)

  pub back-moves : (has o (replaced a o S) && not (has a (replaced a o S))) ≡ true
  back-moves =
      ap (λ (X : RowSet). has o X && not (has a X)) (sym t-set) ∙ mask-moves n o a t ho.0 ho.1 ha.0 ha.1
      ∙ T_true _ (and_left (mask_moves o a t) (eqb (mask_replaced o a t) s) tested)

  pub back-set : replaced o a (replaced a o S) ≡ S
  back-set =
      ap (replaced o a) (sym t-set) ∙ sym (mask-replaced n t o a t-lt ho.0 ho.1 ha.0 ha.1)
      ∙ ap (of_mask n) (eqb→eq _ _ (and_right (mask_moves o a t) (eqb (mask_replaced o a t) s) tested)) ∙ mask-set n S e

-- BOOLS
or_left : (a b : Bool) → a ≡ true → a || b ≡ true
or_left a b e = ap (λ x. x || b) e

or_right : (a b : Bool) → b ≡ true → a || b ≡ true
or_right true b e = refl
or_right false b e = e

same_truth : (a b : Bool) → (a ≡ true → b ≡ true) → (b ≡ true → a ≡ true) → a ≡ b
same_truth true b f g = sym (f refl)
same_truth false true f g = g refl
same_truth false false f g = refl

-- TWO STATES MEET
module _ (n : ℕ) where
  unfoldable pub meets : (RowSet → Bool) → (RowSet → Bool) → Bool
  meets ω η = some n (λ S. ω S && η S)

  meets_at : (ω η : RowSet → Bool) (S : RowSet) → length S ≡ n → ω S ≡ true → η S ≡ true → meets ω η ≡ true
  unfolding meets
  meets_at ω η S s p q = some-passes n (λ S. ω S && η S) S s (ap₂ ◌&&◌ p q)

  meets-by : (ω η : RowSet → Bool) (C : Type 0) → meets ω η ≡ true → ((S : RowSet) → length S ≡ n → ω S ≡ true → η S ≡ true → C) → C
  unfolding meets
  meets-by ω η C h f =
      let t : RowSet → Bool = λ S. ω S && η S in
      let p = both (ω (latest n t)) (η (latest n t)) (latest-passes n t h) in
      f (latest n t) (length-latest n t) p.0 p.1

  meets-swap : (ω η : RowSet → Bool) → meets ω η ≡ true → meets η ω ≡ true
  meets-swap ω η h = meets-by ω η _ h (λ S s p q. meets_at η ω S s q p)

  meets-same : (ω ω' η η' : RowSet → Bool) → ((S : RowSet) → length S ≡ n → ω S ≡ ω' S) → ((S : RowSet) → length S ≡ n → η S ≡ η' S) → meets ω η ≡ meets ω' η'
  meets-same ω ω' η η' f g = same_truth _ _
      (λ h. meets-by ω η _ h (λ S s p q. meets_at ω' η' S s (sym (f S s) ∙ p) (sym (g S s) ∙ q)))
      (λ h. meets-by ω' η' _ h (λ S s p q. meets_at ω η S s (f S s ∙ p) (g S s ∙ q)))

  -- A MOVE
  module _ (ln : n ≤ 8) (a o : ℕ) (ha : In n a) (ho : In n o) (w : Bool) where
    -- what is there stays
    stays : (η : RowSet → Bool) (S : RowSet) → η S ≡ true → moved presence o a w η S ≡ true
    unfolding moved
    stays η S e = by (has o S && not (has a S))
      where
        by : (b : Bool) → moved_if presence b o a w η S ≡ true
        by true = or_left (η S) _ e
        by false = e

    moved-meets : (ω η : RowSet → Bool) → meets (moved presence a o w ω) η ≡ true → meets ω (moved presence o a w η) ≡ true
    unfolding moved
    moved-meets ω η h = meets-by (moved presence a o w ω) η _ h (λ S s p q. by S s q (has a S && not (has o S)) refl p)
      where
        from : (S : RowSet) → length S ≡ n → η S ≡ true → (has a S && not (has o S)) ≡ true → (w && ω (replaced a o S)) ≡ true
            → meets ω (moved presence o a w η) ≡ true
        from S s q m e =
            let p = both w (ω (replaced a o S)) e in
            meets_at ω (moved presence o a w η) (replaced a o S) (length-replaced a o S ∙ s) p.1
            (ap (λ (b : Bool). moved_if presence b o a w η (replaced a o S)) (back-moves n a o ln ha ho S s m)
            ∙ or_right (η (replaced a o S)) _ (ap₂ ◌&&◌ p.0 (ap η (back-set n a o ln ha ho S s m) ∙ q)))

        or : (S : RowSet) → length S ≡ n → η S ≡ true → (has a S && not (has o S)) ≡ true → (x : Bool) → ω S ≡ x → x || (w && ω (replaced a o S)) ≡ true
            → meets ω (moved presence o a w η) ≡ true
        or S s q m true e p = meets_at ω (moved presence o a w η) S s e (stays η S q)
        or S s q m false e p = from S s q m p

        by : (S : RowSet) → length S ≡ n → η S ≡ true → (b : Bool) → (has a S && not (has o S)) ≡ b → moved_if presence b a o w ω S ≡ true
            → meets ω (moved presence o a w η) ≡ true
        by S s q true m p = or S s q m (ω S) refl p
        by S s q false m p = meets_at ω (moved presence o a w η) S s p (stays η S q)

  move-meets : n ≤ 8 → (a o : ℕ) → In n a → In n o → (w : Bool) (ω η : RowSet → Bool) → meets (moved presence a o w ω) η ≡ meets ω (moved presence o a w η)
  move-meets ln a o ha ho w ω η = same_truth _ _
      (moved-meets ln a o ha ho w ω η)
      (λ h. meets-swap η (moved presence a o w ω) (moved-meets ln o a ho ha w η ω (meets-swap ω (moved presence o a w η) h)))

  -- D: all entries are there
  pub scaled-true : (op : Bool → Bool → Bool) → ((x : Bool) → op x true ≡ x) → (e : ℕ → Bool) (S : RowSet) (x : Bool) → length S ≤ n
      → ((i : ℕ) → In n i → e i ≡ true) → scaled presence op e S x ≡ x
  unfolding scaled
  scaled-true op u e [] x l h = refl
  scaled-true op u e (true ∷ S) x l h = ap₂ op (scaled-true op u e S x (omega arith) h) (h (suc (length S)) (omega arith, omega arith)) ∙ u x
  scaled-true op u e (false ∷ S) x l h = scaled-true op u e S x (omega arith) h

  pub unit : (x : Bool) → x && true ≡ x
  unit true = refl
  unit false = refl

  -- any weights, entries that are there
  abbrev pub Told : Letter Bool → Type 0
  Told = Weights (λ x. Unit {0}) (λ x. x ≡ true) n

  letter-meets : n ≤ 8 → (l : Letter Bool) → Rows n l → Told l → (ω η : RowSet → Bool)
      → meets (act presence l ω) η ≡ meets ω (act presence (transposed_letter l) η)
  unfolding act
  letter-meets ln (E j w) r t ω η = move-meets ln j (j - 1) (omega (arith, r.0), r.1) (omega (arith, r.0), omega (arith, r.1)) w ω η
  letter-meets ln (Et j w) r t ω η = move-meets ln (j - 1) j (omega (arith, r.0), omega (arith, r.1)) (omega (arith, r.0), r.1) w ω η
  letter-meets ln (D e) r t ω η =
      meets-same _ ω _ η (λ S s. scaled-true ◌&&◌ unit e S (ω S) (omega (arith, s)) t) (λ S s. refl)
      ∙ meets-same ω ω η _ (λ S s. refl) (λ S s. sym (scaled-true ◌&&◌ unit e S (η S) (omega (arith, s)) t))
  letter-meets ln (Dinv e) r t ω η =
      meets-same _ ω _ η (λ S s. scaled-true ◌&&◌ unit e S (ω S) (omega (arith, s)) t) (λ S s. refl)
      ∙ meets-same ω ω η _ (λ S s. refl) (λ S s. sym (scaled-true ◌&&◌ unit e S (η S) (omega (arith, s)) t))

  -- WORDS
  walk_meets : n ≤ 8 → (W : Word Bool) → All (Rows n) W → All Told W → (ω η : RowSet → Bool)
      → meets (walk presence W ω) η ≡ meets ω (walk presence (transposed_word W) η)
  unfolding walk transposed_word
  walk_meets ln [] r t ω η = refl
  walk_meets ln (l ∷ W) r t ω η =
      letter-meets ln l r.0 t.0 (walk presence W ω) η ∙ walk_meets ln W r.1 t.1 ω (act presence (transposed_letter l) η)
      ∙ ap (meets ω) (sym (walk-append presence (transposed_word W) (transposed_letter l ∷ []) η))

  -- ONE SET
  one-meets : (J : RowSet) (η : RowSet → Bool) → length J ≡ n → meets (one_at presence J) η ≡ η J
  unfolding one_at
  one-meets J η s = same_truth _ _
      (λ h. meets-by (one_at presence J) η _ h (λ S e p q. ap η (equal-true J S (is (equal J S) p)) ∙ q))
      (λ h. meets_at (one_at presence J) η J s (ap (λ (b : Bool). cond b true false) (equal-same J)) h)
    where
      is : (b : Bool) → cond b true false ≡ true → b ≡ true
      is true e = refl
      is false e = e

  pub minor-turned : n ≤ 8 → (W : Word Bool) → All (Rows n) W → All Told W → (I J : RowSet) → length I ≡ n → length J ≡ n
      → minor presence (transposed_word W) J I ≡ minor presence W I J
  unfolding minor
  minor-turned ln W r t I J i j =
      sym (one-meets J (walk presence (transposed_word W) (one_at presence I)) j) ∙ sym (walk_meets ln W r t (one_at presence J) (one_at presence I))
      ∙ same_truth _ _ (meets-swap (walk presence W (one_at presence J)) (one_at presence I))
      (meets-swap (one_at presence I) (walk presence W (one_at presence J)))
      ∙ one-meets I (walk presence W (one_at presence J)) i
