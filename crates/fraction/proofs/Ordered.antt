-- What an order and inverses give: positive elements are not zero, so they cancel (`pos-cancel`) and have inverses (`inv-mul-pos`), laws of quotients,
-- and sums and products of elements that are positive or zero (`nonnegative-add`, ..).
use mathlib.Core.Path.{◌≡◌, sym, ◌∙◌, ap, ap₂, subst}
use Rattle.fraction.specs.Ring.{CRing, Ordered, NonNegative, positive, zero}
use Rattle.fraction.proofs.Ring.{ring, +-zero, zero-+, *-assoc, *-comm, *-one, one-*, *-zero, zero-*}

module _ (K : CRing) (O : Ordered K) where
  open K use {R, 𝟘, 𝟙, add as ◌+◌, mul as ◌*◌}
  open O use {Pos, pos-one, pos-add, pos-mul, pos-zero, inv, inv-mul, inv-pos}

  infixl 65 ◌+◌
  infixl 70 ◌*◌
  abbrev pub Nonzero : R → Type 0
  Nonzero x = x ≡ 𝟘 → ⊥

  pub pos-nonzero : (x : R) → Pos x → Nonzero x
  pos-nonzero x p e = pos-zero (subst Pos e p)

  pub inv-mul-pos : (x : R) → Pos x → x * inv x ≡ 𝟙
  inv-mul-pos x p = inv-mul x (pos-nonzero x p)

  -- CANCELLING
  mul-inv-back : (m x : R) → Nonzero m → x * m * inv m ≡ x
  mul-inv-back m x n = *-assoc K _ _ _ ∙ ap (λ y. x * y) (inv-mul m n) ∙ *-one K x

  pub nonzero-cancel : (m x y : R) → Nonzero m → x * m ≡ y * m → x ≡ y
  nonzero-cancel m x y n e = sym (mul-inv-back m x n) ∙ ap (λ z. z * inv m) e ∙ mul-inv-back m y n

  pub nonzero-mul : (x y : R) → Nonzero x → Nonzero y → Nonzero (x * y)
  nonzero-mul x y n o e = n (nonzero-cancel y x 𝟘 o (e ∙ sym (zero-* K y)))

  pub pos-cancel : (m x y : R) → Pos m → x * m ≡ y * m → x ≡ y
  pos-cancel m x y p = nonzero-cancel m x y (pos-nonzero m p)

  -- INVERSES AND QUOTIENTS
  -- a quotient is known by its product with the divisor
  pub quotient-unique : (x y z : R) → Nonzero y → z * y ≡ x → z ≡ x * inv y
  quotient-unique x y z n e = sym (mul-inv-back y z n) ∙ ap (λ w. w * inv y) e

  pub quotient-mul : (x y : R) → Nonzero y → x * inv y * y ≡ x
  quotient-mul x y n = *-assoc K _ _ _ ∙ ap (λ z. x * z) (*-comm K _ _ ∙ inv-mul y n) ∙ *-one K x

  pub inv_unique : (x y : R) → Nonzero x → y * x ≡ 𝟙 → inv x ≡ y
  inv_unique x y n e = sym (quotient-unique 𝟙 x y n e ∙ one-* K (inv x))

  pub inv-one : inv 𝟙 ≡ 𝟙
  inv-one = inv_unique 𝟙 𝟙 (pos-nonzero 𝟙 pos-one) (*-one K 𝟙)

  pub inv-inv : (x : R) → Pos x → inv (inv x) ≡ x
  inv-inv x p = inv_unique (inv x) x (pos-nonzero (inv x) (inv-pos x p)) (inv-mul-pos x p)

  pub inv-product : (x y : R) → Nonzero x → Nonzero y → inv (x * y) ≡ inv x * inv y
  inv-product x y n o = inv_unique (x * y) (inv x * inv y) (nonzero-mul x y n o)
      (swap (inv x) (inv y) x y ∙ ap₂ ◌*◌ (inv-mul x n) (inv-mul y o) ∙ *-one K 𝟙)
    where
      swap : (a b c d : R) → a * b * (c * d) ≡ c * a * (d * b)
      swap a b c d = simp ring

  -- a factor that both parts of a quotient share
  pub quotient-cancel : (m x y : R) → Nonzero m → Nonzero y → x * m * inv (y * m) ≡ x * inv y
  quotient-cancel m x y n o =
      sym (quotient-unique (x * m) (y * m) (x * inv y) (nonzero-mul y m o n) (sym (*-assoc K _ _ _) ∙ ap (λ z. z * m) (quotient-mul x y o)))

  -- POSITIVE OR ZERO
  pub positive-add-nonnegative : (x y : R) → Pos x → NonNegative K O y → Pos (x + y)
  positive-add-nonnegative x y p (positive q) = pos-add x y p q
  positive-add-nonnegative x y p (zero e) = subst Pos (sym (ap (λ z. x + z) e ∙ +-zero K x)) p

  pub nonnegative-add-positive : (x y : R) → NonNegative K O x → Pos y → Pos (x + y)
  nonnegative-add-positive x y n p = subst Pos (K.add_comm y x) (positive-add-nonnegative y x p n)

  pub nonnegative-add : (x y : R) → NonNegative K O x → NonNegative K O y → NonNegative K O (x + y)
  nonnegative-add x y (positive p) o = positive (positive-add-nonnegative x y p o)
  nonnegative-add x y (zero e) o = subst (NonNegative K O) (sym (ap (λ z. z + y) e ∙ zero-+ K y)) o

  pub nonnegative-mul : (x y : R) → NonNegative K O x → NonNegative K O y → NonNegative K O (x * y)
  nonnegative-mul x y (positive p) (positive q) = positive (pos-mul x y p q)
  nonnegative-mul x y (positive p) (zero f) = zero (ap (λ z. x * z) f ∙ *-zero K x)
  nonnegative-mul x y (zero e) o = zero (ap (λ z. z * y) e ∙ zero-* K y)

  -- a sum of them is zero only where both are
  pub nonnegative-add-zero : (x y : R) → NonNegative K O x → NonNegative K O y → x + y ≡ 𝟘 → (x ≡ 𝟘) × (y ≡ 𝟘)
  nonnegative-add-zero x y (positive p) o h = absurd (pos-nonzero (x + y) (positive-add-nonnegative x y p o) h)
  nonnegative-add-zero x y (zero e) o h = (e, sym (ap (λ z. z + y) e ∙ zero-+ K y) ∙ h)
