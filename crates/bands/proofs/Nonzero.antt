-- WHICH NUMBERS OF A WALK ARE NOT ZERO, for any word whose weights are positive or zero: those of the sets whose heights are reached from the heights of the
-- start (positive-reached, reached-positive). A letter makes a number positive from one that is, by a step (step_from, step-to). Tests for zero of numbers that
-- are positive or zero (positive-present, present-positive, absent-zero).
use mathlib.Core.Path.{◌≡◌, refl, sym, ap, ap₂, ◌∙◌, subst, fun_ext}
use mathlib.Core.Bool.{Bool, true, false, not, cond, ◌&&◌}
use mathlib.Core.List.{[], ◌∷◌}
use Prim.Native.Nat.{ℕ, suc, ◌+◌, ◌-◌, ◌≤◌}
use native.Mathlib.Decide.{ℕ_discrete}
use native.Mathlib.Omega.{arith}
use lib.ListN.{length}
use Rattle.fraction.specs.Arithmetic.{Arithmetic}
use Rattle.fraction.specs.Ring.{CRing, Ordered, arithmetic, NonNegative, positive, zero as null}
use Rattle.fraction.proofs.Ring.{zero-+, zero-*, *-zero}
use Rattle.fraction.proofs.Ordered.{pos-nonzero, nonnegative-add-positive}
use Rattle.words.specs.RowSet.{RowSet, has, replaced, equal}
use Rattle.words.specs.Word.{Letter, E, Et, D, Dinv, Word}
use Rattle.words.specs.Walk.{State, one_at, moved, moved_if, act, walk, minor}
use Rattle.words.proofs.RowSets.{length-replaced, equal-true}
use Rattle.words.proofs.Walks.{Rows, All, one_at-same}
use Rattle.minors.proofs.Entries.{scaled-product}
use Rattle.minors.proofs.Nonnegative.{NonNegatives, KeepsSign, act-positive, walk-nonnegative, one_at-nonnegative}
use Rattle.bands.proofs.Heights.{stands, above, above-le, above-inj, above-replaced, above-heights, of_heights, length-of_heights, above-of_heights}
use Rattle.bands.proofs.Reach.{Step, Reach, differ-at, differ-here, upper-row, lower-row, lowered-set, raised-set}

stands-le : (j x : ℕ) → stands (j - 1) x ≤ stands j x
stands-le j x = omega arith

gained : (i t p q : ℕ) → q ≤ p → t + p ≡ i + q → (i ≤ t + (p - q)) × (t ≤ i + 0)
gained i t p q l e = (omega arith, omega arith)

lost : (i t p q : ℕ) → q ≤ p → t + q ≡ i + p → (i ≤ t + 0) × (t ≤ i + (p - q))
lost i t p q l e = (omega arith, omega arith)

module _ (K : CRing) (O : Ordered K) where
  open K use {R, 𝟘, 𝟙, add as ◌+ᴿ◌, mul as ◌*◌}
  open O use {Pos, pos-one, pos-mul, pos-zero, inv, inv-pos, is_zero, zero-yes, zero-no}

  infixl 65 ◌+ᴿ◌
  infixl 70 ◌*◌
  abbrev F : Arithmetic
  F = arithmetic K O

  -- WHICH WEIGHTS OF A WORD ARE NOT ZERO
  abbrev pub present_letter : Letter R → Letter Bool
  present_letter (E j w) = E j (not (is_zero w))
  present_letter (Et j w) = Et j (not (is_zero w))
  present_letter (D e) = D (λ i. true)
  present_letter (Dinv e) = Dinv (λ i. true)

  abbrev pub present : Word R → Word Bool
  present [] = []
  present (l ∷ W) = present_letter l ∷ present W

  pub positive-present : (x : R) → Pos x → is_zero x ≡ false
  positive-present x p = by (is_zero x) refl
    where
      by : (t : Bool) → is_zero x ≡ t → t ≡ false
      by true e = absurd (pos-nonzero K O x p (zero-yes x e))
      by false e = refl

  pub present-positive : (x : R) → NonNegative K O x → is_zero x ≡ false → Pos x
  present-positive x (positive p) e = p
  present-positive x (null z) e = absurd (zero-no x e z)

  pub absent-zero : (x : R) → x ≡ 𝟘 → is_zero x ≡ true
  absent-zero x z = by (is_zero x) refl
    where
      by : (t : Bool) → is_zero x ≡ t → t ≡ true
      by true e = refl
      by false e = absurd (zero-no x e z)

  -- where a product is positive, a part of it that is positive or zero is positive
  pub left-positive : (x y : R) → NonNegative K O x → Pos (x * y) → Pos x
  left-positive x y (positive p) h = p
  left-positive x y (null z) h = absurd (pos-zero (subst Pos (ap (λ u. u * y) z ∙ zero-* K y) h))

  pub right_positive : (x y : R) → NonNegative K O y → Pos (x * y) → Pos y
  right_positive x y (positive p) h = p
  right_positive x y (null z) h = absurd (pos-zero (subst Pos (ap (λ u. x * u) z ∙ *-zero K x) h))

  -- A MOVE to a set with a positive number comes from it, or from the set with o in place of a
  data Came (a o : ℕ) (w : R) (ω : State F) (I : RowSet) : Type 0 where
    stayed : Pos (ω I) → Came a o w ω I
    moved-from : has a I ≡ true → has o I ≡ false → Pos w → Pos (ω (replaced a o I)) → Came a o w ω I

  came : (n a o : ℕ) (w : R) (ω : State F) (I : RowSet) → NonNegative K O w → NonNegatives K O n ω → length I ≡ n → Pos (moved F a o w ω I) → Came a o w ω I
  unfolding moved
  came n a o w ω I p h i q = by (has a I) (has o I) refl refl q
    where
      which : has a I ≡ true → has o I ≡ false → NonNegative K O (ω I) → NonNegative K O (ω (replaced a o I)) → Pos (ω I +ᴿ w * ω (replaced a o I))
          → Came a o w ω I
      which f g (positive u) v r = stayed u
      which f g (null u) v r =
          let s : Pos (w * ω (replaced a o I)) = subst Pos (ap (λ y. y +ᴿ w * ω (replaced a o I)) u ∙ zero-+ K _) r in
          moved-from f g (left-positive _ _ p s) (right_positive _ _ v s)

      by : (s t : Bool) → has a I ≡ s → has o I ≡ t → Pos (moved_if F (s && not t) a o w ω I) → Came a o w ω I
      by true false f g r = which f g (h I i) (h (replaced a o I) (length-replaced a o I ∙ i)) r
      by true true f g r = stayed r
      by false t f g r = stayed r

  -- what a letter's step starts from
  abbrev From : ℕ → Letter R → State F → RowSet → Type 0
  From n l ω I = (T : RowSet) × (length T ≡ n) × Pos (ω T) × Step (present_letter l) (above T) (above I)

  here : (n : ℕ) (l : Letter R) (ω : State F) (I : RowSet) → length I ≡ n → Pos (ω I) → From n l ω I
  here n l ω I i p = (I, i, p, λ x. (omega arith, omega arith))

  step_from : (n : ℕ) (l : Letter R) (ω : State F) (I : RowSet) → Rows n l → KeepsSign K O n l → NonNegatives K O n ω → length I ≡ n → Pos (act F l ω I)
      → From n l ω I
  unfolding act
  step_from n (E j w) ω I r k h i p = go (came n j (j - 1) w ω I k h i p)
    where
      go : Came j (j - 1) w ω I → From n (E j w) ω I
      go (stayed q) = here n (E j w) ω I i q
      go (moved-from f g q s) = (
        replaced j (j - 1) I,
        length-replaced j (j - 1) I ∙ i,
        s,
        subst (λ b. Step (E j (not b)) (above (replaced j (j - 1) I)) (above I)) (sym (positive-present w q))
            (λ x. gained (above I x) _ (stands j x) (stands (j - 1) x) (stands-le j x)
            (above-replaced I j (j - 1) x (λ z. omega (arith, r.0)) (omega (arith, r.0), omega (arith, r.1))
            (omega (arith, r.0), omega (arith, r.1)) f g)),
      )
  step_from n (Et j w) ω I r k h i p = go (came n (j - 1) j w ω I k h i p)
    where
      go : Came (j - 1) j w ω I → From n (Et j w) ω I
      go (stayed q) = here n (Et j w) ω I i q
      go (moved-from f g q s) = (
        replaced (j - 1) j I,
        length-replaced (j - 1) j I ∙ i,
        s,
        subst (λ b. Step (Et j (not b)) (above (replaced (j - 1) j I)) (above I)) (sym (positive-present w q))
            (λ x. lost (above I x) _ (stands j x) (stands (j - 1) x) (stands-le j x)
            (above-replaced I (j - 1) j x (λ z. omega (arith, r.0)) (omega (arith, r.0), omega (arith, r.1))
            (omega (arith, r.0), omega (arith, r.1)) f g)),
      )
  step_from n (D e) ω I r k h i p = here n (D e) ω I i (left-positive _ _ (h I i) (subst Pos (scaled-product K O (λ x. x) e I (ω I)) p))
  step_from n (Dinv e) ω I r k h i p = here n (Dinv e) ω I i (left-positive _ _ (h I i) (subst Pos (scaled-product K O inv e I (ω I)) p))

  one_only : (J I : RowSet) → Pos (one_at F J I) → J ≡ I
  unfolding one_at
  one_only J I p = by (equal J I) refl p
    where
      by : (t : Bool) → equal J I ≡ t → Pos (cond t 𝟙 𝟘) → J ≡ I
      by true e p = equal-true J I e
      by false e p = absurd (pos-zero p)

  -- POSITIVE NUMBERS ARE REACHED
  pub positive-reached : (n : ℕ) (W : Word R) → All (Rows n) W → All (KeepsSign K O n) W → (J I : RowSet) → length I ≡ n
      → Pos (minor F W I J) → Reach n (present W) (above J) (above I)
  unfolding minor walk
  positive-reached n [] r k J I i p = λ x. ap (λ U. above U x) (one_only J I p)
  positive-reached n (l ∷ W) r k J I i p =
      let s : From n l (walk F W (one_at F J)) I =
      step_from n l (walk F W (one_at F J)) I r.0 k.0 (walk-nonnegative K O n W (one_at F J) k.1 (one_at-nonnegative K O n J)) i p in
      (above s.0, above-heights s.0 n s.1, positive-reached n W r.1 k.1 J s.0 s.1 s.2, s.3)

  -- AND REACHED ONES ARE POSITIVE: a step carries a positive number on
  same-heights : (T I : RowSet) → length T ≡ length I → ((x : ℕ) → (above I x ≤ above T x + 0) × (above T x ≤ above I x + 0)) → T ≡ I
  same-heights T I e h = above-inj T I e (λ x. omega (arith, h x))

  -- two sets that are equal, or of which U has one row more above row m
  data Differ (S U : RowSet) (m : ℕ) : Type 0 where
    equally : S ≡ U → Differ S U m
    by_one : above U m ≡ suc (above S m) → ((x : ℕ) → (x ≡ m → ⊥) → above U x ≡ above S x) → Differ S U m

  differ : (S U : RowSet) (m : ℕ) → length S ≡ length U → ((x : ℕ) → (above U x ≤ above S x + (stands (suc m) x - stands m x)) × (above S x ≤ above U x + 0))
      → Differ S U m
  differ S U m e h = elim (ℕ_discrete (above U m) (above S m)) [
    | yes z ↦ equally (above-inj S U e (λ x. at z x (ℕ_discrete x m)))
    | no z ↦ by_one (omega (arith, h m, differ-here m m)) (λ x f. omega (arith, h x, differ-at m x f))
  ]
    where
      at : above U m ≡ above S m → (x : ℕ) → Dec (x ≡ m) → above S x ≡ above U x
      at z x (yes f) = ap (above S) f ∙ sym z ∙ ap (above U) (sym f)
      at z x (no f) = omega (arith, h x, differ-at m x f)

  moves-positive : (n a o : ℕ) (w : R) (ω : State F) (I : RowSet) → NonNegatives K O n ω → length I ≡ n → has a I ≡ true → has o I ≡ false → Pos w
      → Pos (ω (replaced a o I)) → Pos (moved F a o w ω I)
  unfolding moved
  moves-positive n a o w ω I h i f g p q =
      subst (λ t. Pos (moved_if F t a o w ω I)) (sym (ap₂ (λ s t. s && not t) f g)) (nonnegative-add-positive K O _ _ (h I i) (pos-mul _ _ p q))

  step-to : (n : ℕ) (l : Letter R) (ω : State F) (T I : RowSet) → Rows n l → KeepsSign K O n l → NonNegatives K O n ω → length T ≡ n → length I ≡ n
      → Step (present_letter l) (above T) (above I) → Pos (ω T) → Pos (act F l ω I)
  unfolding act
  step-to n (E j w) ω T I r k h t i s p = by (is_zero w) refl
    where
      back : j ≡ suc (j - 1)
      back = omega (arith, r.0)

      go : Pos w → Differ T I (j - 1) → Pos (act F (E j w) ω I)
      go q (equally e) = act-positive K O n (E j w) ω k h I i (subst (λ U. Pos (ω U)) e p)
      go q (by_one e f) =
          let z : T ≡ replaced (suc (j - 1)) (j - 1) I = lowered-set T I (j - 1) (t ∙ sym i) (omega (arith, r.0)) (omega (arith, r.0, r.1)) e f in
          let u : (has (suc (j - 1)) I ≡ true) × (has (suc (j - 1)) T ≡ false) =
          upper-row T I (j - 1) (t ∙ sym i) (omega (arith, r.0)) (omega (arith, r.0, r.1)) e f in
          let v : (has (j - 1) I ≡ false) × (has (j - 1) T ≡ true) = lower-row T I (j - 1) (t ∙ sym i) (omega (arith, r.0)) (omega (arith, r.0, r.1)) e f in
          moves-positive n j (j - 1) w ω I h i (ap (λ m. has m I) back ∙ u.0) v.0 q
          (subst (λ m. Pos (ω (replaced m (j - 1) I))) (sym back) (subst (λ U. Pos (ω U)) z p))

      known : (b : Bool) → is_zero w ≡ b → Step (E j (not b)) (above T) (above I)
      known b e = subst (λ b. Step (E j (not b)) (above T) (above I)) e s

      by : (b : Bool) → is_zero w ≡ b → Pos (act F (E j w) ω I)
      by true e = act-positive K O n (E j w) ω k h I i (subst (λ U. Pos (ω U)) (same-heights T I (t ∙ sym i) (known true e)) p)
      by false e = go (present-positive w k e) (differ T I (j - 1) (t ∙ sym i)
          (λ x. subst (λ m. (above I x ≤ above T x + (stands m x - stands (j - 1) x)) × (above T x ≤ above I x + 0)) back (known false e x)))
  step-to n (Et j w) ω T I r k h t i s p = by (is_zero w) refl
    where
      back : j ≡ suc (j - 1)
      back = omega (arith, r.0)

      go : Pos w → Differ I T (j - 1) → Pos (act F (Et j w) ω I)
      go q (equally e) = act-positive K O n (Et j w) ω k h I i (subst (λ U. Pos (ω U)) (sym e) p)
      go q (by_one e f) =
          let z : T ≡ replaced (j - 1) (suc (j - 1)) I = raised-set I T (j - 1) (i ∙ sym t) (omega (arith, r.0)) (omega (arith, r.0, r.1)) e f in
          let u : (has (suc (j - 1)) T ≡ true) × (has (suc (j - 1)) I ≡ false) =
          upper-row I T (j - 1) (i ∙ sym t) (omega (arith, r.0)) (omega (arith, r.0, r.1)) e f in
          let v : (has (j - 1) T ≡ false) × (has (j - 1) I ≡ true) = lower-row I T (j - 1) (i ∙ sym t) (omega (arith, r.0)) (omega (arith, r.0, r.1)) e f in
          moves-positive n (j - 1) j w ω I h i v.1 (ap (λ m. has m I) back ∙ u.1) q
          (subst (λ m. Pos (ω (replaced (j - 1) m I))) (sym back) (subst (λ U. Pos (ω U)) z p))

      known : (b : Bool) → is_zero w ≡ b → Step (Et j (not b)) (above T) (above I)
      known b e = subst (λ b. Step (Et j (not b)) (above T) (above I)) e s

      by : (b : Bool) → is_zero w ≡ b → Pos (act F (Et j w) ω I)
      by true e = act-positive K O n (Et j w) ω k h I i (subst (λ U. Pos (ω U)) (same-heights T I (t ∙ sym i) (known true e)) p)
      by false e = go (present-positive w k e) (differ I T (j - 1) (i ∙ sym t)
          (λ x. subst (λ m. (above T x ≤ above I x + (stands m x - stands (j - 1) x)) × (above I x ≤ above T x + 0)) back
          (let y = known false e x in (y.1, y.0))))
  step-to n (D e) ω T I r k h t i s p = act-positive K O n (D e) ω k h I i (subst (λ U. Pos (ω U)) (same-heights T I (t ∙ sym i) s) p)
  step-to n (Dinv e) ω T I r k h t i s p = act-positive K O n (Dinv e) ω k h I i (subst (λ U. Pos (ω U)) (same-heights T I (t ∙ sym i) s) p)

  -- no letter acts above the highest row
  none_above : (n : ℕ) (l : Letter R) → Rows n l → (f g : ℕ → ℕ) → Step (present_letter l) f g → g n ≡ 0 → f n ≡ 0
  none_above n (E j w) r f g s z = omega (arith, s n)
  none_above n (Et j w) r f g s z = by (is_zero w) (s n).1
    where
      by : (b : Bool) → f n ≤ g n + cond (not b) (stands j n - stands (j - 1) n) 0 → f n ≡ 0
      by true h = omega arith
      by false h = let e : stands j n ≡ 0 = omega (arith, r.1) in omega (arith, e)
  none_above n (D e) r f g s z = omega (arith, s n)
  none_above n (Dinv e) r f g s z = omega (arith, s n)

  pub reached-positive : (n : ℕ) (W : Word R) → All (Rows n) W → All (KeepsSign K O n) W → (J I : RowSet) → length J ≡ n → length I ≡ n
      → Reach n (present W) (above J) (above I) → Pos (minor F W I J)
  unfolding minor walk
  reached-positive n [] r k J I j i h = subst Pos (sym (ap (one_at F J) (sym (above-inj J I (j ∙ sym i) h)) ∙ one_at-same F J)) pos-one
  reached-positive n (l ∷ W) r k J I j i h =
      let e : ℕ → ℕ = h.0 in
      let T : RowSet = of_heights n e in
      let z : e n ≡ 0 = none_above n l r.0 e (above I) h.3 (omega (arith, above-le I n)) in
      let q : above T ≡ e = fun_ext (above-of_heights n e h.1 z) in
      step-to n l (walk F W (one_at F J)) T I r.0 k.0 (walk-nonnegative K O n W (one_at F J) k.1 (one_at-nonnegative K O n J)) (length-of_heights n e) i
      (subst (λ f. Step (present_letter l) f (above I)) (sym q) h.3)
      (reached-positive n W r.1 k.1 J T j (length-of_heights n e) (subst (λ f. Reach n (present W) (above J) f) (sym q) h.2))
