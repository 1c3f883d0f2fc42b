-- ONE CHOICE: where factors that are positive or zero and keep the rule for zeros (Kept) reduce a matrix to a positive diagonal, no others that keep it reduce
-- the matrix, to whatever diagonal (kept-unique, diagonal-unique). The proof takes no minors: column after column the first pivot is the diagonal's factor,
-- so both have the positive one; the pivots below it are positive or zero, and under a pivot that is zero all factors are.
use mathlib.Core.Path.{◌≡◌, sym, ap, ap₂, ◌∙◌, subst}
use Prim.Native.Nat.{ℕ, zero, suc, ◌-◌, ◌≤◌, ◌<◌, ◌+◌ as ◌+ℕ◌}
use native.Mathlib.Decide.{ℕ_discrete}
use native.Mathlib.Omega.{arith}
use Rattle.fraction.specs.Ring.{CRing, Ordered, NonNegative, positive, zero as null}
use Rattle.fraction.proofs.Ring.{ring, zero-+, *-zero, difference-zero}
use Rattle.fraction.proofs.Ordered.{pos-nonzero, pos-cancel, nonnegative-mul}
use Rattle.words.specs.RowSet.{In}
use Rattle.minors.specs.Matrix.{Matrix}
use Rattle.minors.proofs.Sums.{sum-equal}
use Rattle.bands.proofs.Elimination.{eliminated-equal, left, left-next}
use Rattle.bands.proofs.Reduction.{Reduces}

module _ (K : CRing) (O : Ordered K) (n : ℕ) where
  open K use {R, 𝟘, 𝟙, add as ◌+◌, mul as ◌*◌, neg}
  open O use {Pos, pos-mul}

  infixl 65 ◌+◌
  infixl 70 ◌*◌
  -- below the diagonal positive or zero, and zero under a zero
  pub record Kept (g : ℕ → ℕ → R) : Type 0 where
    pub below : (i j : ℕ) → 1 ≤ j → j < i → i ≤ n → NonNegative K O (g i j)
    pub under : (i j : ℕ) → 1 ≤ j → j < i → i < n → g i j ≡ 𝟘 → g (suc i) j ≡ 𝟘

  module _ (g : ℕ → ℕ → R) (d : ℕ → R) (M : Matrix K) (red : Reduces K O n g d M) where
    -- what is killed once stays killed
    early : (f i c q : ℕ) → i ≡ f +ℕ suc c → 1 ≤ q → q ≤ c → i ≤ n → left K n g (λ r. M r q) i c ≡ 𝟘
    early zero i c q e o l p = let z : c ≡ i - 1 = omega arith in ap (left K n g (λ r. M r q) i) z ∙ red.below i q o (omega arith) p
    early (suc f) i c q e o l p =
        back (left-next K n g (λ r. M r q) i c) (early f i (suc c) q (omega arith) o (omega arith) p) (early f (i - 1) c q (omega arith) o l (omega arith))
      where
        undo : (y w : R) → (y + neg w) + w ≡ y
        undo y w = simp ring

        back : {x y z : R} → x ≡ y + neg (g i (suc c) * z) → x ≡ 𝟘 → z ≡ 𝟘 → y ≡ 𝟘
        back {x} {y} {z} h u v = sym (undo y (g i (suc c) * z)) ∙ ap₂ ◌+◌ (sym h ∙ u) (ap (λ t. g i (suc c) * t) v ∙ *-zero K _) ∙ zero-+ K _

    -- THE PIVOTS
    abbrev pub pivot : ℕ → ℕ → R
    pivot i j = left K n g (λ r. M r j) i (j - 1)

    pub pivot-last : (i : ℕ) → In n i → pivot i i ≡ d i
    pivot-last i p = red.on i p

    pub pivot-step : (i j : ℕ) → 1 ≤ j → j < i → i ≤ n → pivot i j ≡ g i j * pivot (i - 1) j
    pivot-step i zero o l p = absurd (omega arith)
    pivot-step i (suc j) o l p =
        let e : suc j - 1 ≡ j = omega arith in
        subst (λ c. left K n g (λ r. M r (suc j)) i c ≡ g i (suc j) * left K n g (λ r. M r (suc j)) (i - 1) c) (sym e)
        (difference-zero K _ _ (sym (left-next K n g (λ r. M r (suc j)) i j) ∙ early (i - suc (suc j)) i (suc j) (suc j) (omega arith) o (omega arith) p))

    -- IN A COLUMN whose factor on the diagonal is positive
    module _ (kept : Kept g) (j : ℕ) (o : 1 ≤ j) (on : Pos (d j)) where
      pub pivot-nonnegative : (f : ℕ) → f +ℕ j ≤ n → NonNegative K O (pivot (f +ℕ j) j)
      pivot-nonnegative zero p =
          let e : 0 +ℕ j ≡ j = omega arith in
          positive (subst Pos (sym (ap (λ i. pivot i j) e ∙ pivot-last j (o, omega arith))) on)
      pivot-nonnegative (suc f) p =
          let e : suc f +ℕ j - 1 ≡ f +ℕ j = omega arith in
          subst (NonNegative K O) (sym (pivot-step (suc f +ℕ j) j o (omega arith) p ∙ ap (λ i. g (suc f +ℕ j) j * pivot i j) e))
          (nonnegative-mul K O _ _ (kept.below (suc f +ℕ j) j o (omega arith) p) (pivot-nonnegative f (omega arith)))

      -- where a pivot is zero, the factors under it are
      pub pivot-zero : (f : ℕ) → suc f +ℕ j ≤ n → pivot (f +ℕ j) j ≡ 𝟘 → g (suc f +ℕ j) j ≡ 𝟘
      pivot-zero zero p z =
          let e : 0 +ℕ j ≡ j = omega arith in
          absurd (pos-nonzero K O (d j) on (sym (ap (λ i. pivot i j) e ∙ pivot-last j (o, omega arith)) ∙ z))
      pivot-zero (suc f) p z =
          let e : suc f +ℕ j - 1 ≡ f +ℕ j = omega arith in
          let w : suc (suc f +ℕ j) ≡ suc (suc f) +ℕ j = omega arith in
          ap (λ i. g i j) (sym w)
          ∙ kept.under (suc f +ℕ j) j o (omega arith) (omega arith)
          (by (pivot-nonnegative f (omega arith)) (kept.below (suc f +ℕ j) j o (omega arith) (omega arith)) (pivot-zero f (omega arith))
          (sym (pivot-step (suc f +ℕ j) j o (omega arith) (omega arith) ∙ ap (λ i. g (suc f +ℕ j) j * pivot i j) e) ∙ z))
        where
          by : NonNegative K O (pivot (f +ℕ j) j) → NonNegative K O (g (suc f +ℕ j) j) → (pivot (f +ℕ j) j ≡ 𝟘 → g (suc f +ℕ j) j ≡ 𝟘)
              → g (suc f +ℕ j) j * pivot (f +ℕ j) j ≡ 𝟘 → g (suc f +ℕ j) j ≡ 𝟘
          by (null u) v ih y = ih u
          by (positive u) (null v) ih y = v
          by (positive u) (positive v) ih y = absurd (pos-nonzero K O _ (pos-mul _ _ v u) y)

  -- TWO that keep the rule and reduce one matrix, the second to a positive diagonal
  module _ (g h : ℕ → ℕ → R) (d e : ℕ → R) (M : Matrix K) (rg : Reduces K O n g d M) (rh : Reduces K O n h e M) (kg : Kept g) (kh : Kept h)
      (on : (i : ℕ) → In n i → Pos (e i)) where
    -- the columns before j agree
    abbrev Agreed : ℕ → Type 0
    Agreed j = (k q : ℕ) → 1 ≤ q → q < j → q < k → k ≤ n → g k q ≡ h k q

    pivots-equal : (j : ℕ) → 1 ≤ j → Agreed j → (i : ℕ) → j ≤ i → i ≤ n → pivot g d M rg i j ≡ pivot h e M rh i j
    pivots-equal j o a i l p =
        sum-equal K n _ _ (λ r q. ap (λ x. x * M r j) (eliminated-equal K g h (j - 1) i (omega arith) (λ k c u v w y. a k c u (omega arith) w (omega arith)) r))

    -- so the first have its factor on the diagonal, which is positive
    first-equal : (j : ℕ) → In n j → Agreed j → d j ≡ e j
    first-equal j p a = sym (pivot-last g d M rg j p) ∙ pivots-equal j p.0 a j (omega arith) p.1 ∙ pivot-last h e M rh j p

    column-equal : (j : ℕ) → 1 ≤ j → Agreed j → (f : ℕ) → suc f +ℕ j ≤ n → g (suc f +ℕ j) j ≡ h (suc f +ℕ j) j
    column-equal j o a f p = by (pivot-nonnegative h e M rh kh j o (on j x) f (omega arith))
      where
        x : In n j
        x = (o, omega arith)

        same : pivot g d M rg (f +ℕ j) j ≡ pivot h e M rh (f +ℕ j) j
        same = pivots-equal j o a (f +ℕ j) (omega arith) (omega arith)

        z : suc f +ℕ j - 1 ≡ f +ℕ j
        z = omega arith

        by : NonNegative K O (pivot h e M rh (f +ℕ j) j) → g (suc f +ℕ j) j ≡ h (suc f +ℕ j) j
        by (null u) =
            pivot-zero g d M rg kg j o (subst Pos (sym (first-equal j x a)) (on j x)) f p (same ∙ u) ∙ sym (pivot-zero h e M rh kh j o (on j x) f p u)
        by (positive u) = pos-cancel K O (pivot h e M rh (f +ℕ j) j) _ _ u
            (ap (λ y. g (suc f +ℕ j) j * y) (sym same)
            ∙ sym (pivot-step g d M rg (suc f +ℕ j) j o (omega arith) p ∙ ap (λ i. g (suc f +ℕ j) j * pivot g d M rg i j) z)
            ∙ pivots-equal j o a (suc f +ℕ j) (omega arith) p
            ∙ pivot-step h e M rh (suc f +ℕ j) j o (omega arith) p ∙ ap (λ i. h (suc f +ℕ j) j * pivot h e M rh i j) z)

    agreed : (j : ℕ) → Agreed j
    agreed zero k q o l m p = absurd (omega arith)
    agreed (suc j) k q o l m p = elim (ℕ_discrete q j) [
      | yes z ↦
          let w : suc (k - suc j) +ℕ j ≡ k = omega arith in
          ap (g k) z ∙ ap (λ i. g i j) (sym w) ∙ column-equal j (omega arith) (agreed j) (k - suc j) (omega arith) ∙ ap (λ i. h i j) w ∙ ap (h k) (sym z)
      | no z ↦ agreed j k q o (omega arith) m p
    ]

    -- BELOW THE DIAGONAL
    pub kept-unique : (i j : ℕ) → 1 ≤ j → j < i → i ≤ n → g i j ≡ h i j
    kept-unique i j o l p = agreed (suc j) i j o (omega arith) l p

    -- AND ON IT
    pub diagonal-unique : (i : ℕ) → In n i → d i ≡ e i
    diagonal-unique i p = first-equal i p (agreed i)
