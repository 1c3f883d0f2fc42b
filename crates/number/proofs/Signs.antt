-- Signed sums by the signs of their operands, where the code has its tests: `signed-sum-alike`, `signed-sum-left` and `signed-sum-right`;
-- the difference of two sizes by their order (`signed-difference-below`, `signed-difference-not-below`); products.
use mathlib.Core.Path.{◌≡◌, refl, sym, ap, ap₂, ◌∙◌}
use mathlib.Core.Bool.{Bool, true, false, xor, not, beq, ◌&&◌, true≢false, false≢true}
use Prim.Native.Nat.{ℕ, zero, suc, ◌+◌, ◌-◌, ◌≤◌, ◌<◌, min}
use native.Mathlib.Nat.{min_comm, mul-pos, sub-zero}
use native.Mathlib.Omega.{arith}
use borrow.Author.Tests.{lt-ltb, le-ltb, ltb-true, ltb-false}
use lib.Dec.{eqb, ltb}
use lib.Pow.{pow_pos}
use Rattle.number.proofs.Zero.{product-comm}
use Rattle.number.specs.Number.{round, sum_of, sum_by, product_of}
use Rattle.number.specs.Signed.{integer_at, below, difference_of, plain, signed_round, signed_difference, signed_sum, signed_product, with_sign, SignedRanged}
use Rattle.number.specs.declared.Direction.TheVariants.{Nearest}
use Rattle.number.specs.declared.Number.{Number}
use Rattle.number.specs.declared.signed.Signed.{Signed}

abbrev minus : Number → Signed
minus a = record { negative = true; size = a }

-- ---- one rounding
signed-round-less : (p q x : ℕ) → p < q → signed_round p q x ≡ minus (round (q - p) 1 x)
unfolding signed_round
signed-round-less p q x h = simp (lt-ltb p q h)

signed-round-more : (p q x : ℕ) → q ≤ p → signed_round p q x ≡ plain (round (p - q) 1 x)
unfolding signed_round
signed-round-more p q x h = simp (le-ltb p q h)

-- ---- the difference of two sizes
pub signed-difference-below : (a b : Number) → below a b ≡ true → signed_difference a b ≡ minus (difference_of b a)
unfolding signed_difference below difference_of
signed-difference-below a b h =
    let l : ℕ = min a.x b.x in
    signed-round-less (integer_at l a) (integer_at l b) l (ltb-true (integer_at l a) (integer_at l b) h)
    ∙ ap (λ (k : ℕ). minus (round (integer_at k b - integer_at k a) 1 k)) (min_comm a.x b.x)

pub signed-difference-not-below : (a b : Number) → below a b ≡ false → signed_difference a b ≡ plain (difference_of a b)
unfolding signed_difference below difference_of
signed-difference-not-below a b h =
    let l : ℕ = min a.x b.x in
    signed-round-more (integer_at l a) (integer_at l b) l (ltb-false (integer_at l a) (integer_at l b) h)

-- a is not below b if it is above it
pub below-not-below : (a b : Number) → below a b ≡ true → below b a ≡ false
unfolding below
below-not-below a b h =
    let l : ℕ = min a.x b.x in
    ap (λ (k : ℕ). ltb (integer_at k b) (integer_at k a)) (min_comm b.x a.x)
    ∙ le-ltb (integer_at l b) (integer_at l a) (omega (arith, ltb-true (integer_at l a) (integer_at l b) h))

-- ---- a negative number is no zero
pub negative-positive : {r : ℕ} (a : Signed) → SignedRanged r a → a.negative ≡ true → 0 < a.size.m
negative-positive a u e = go a.size.m refl
  where
    go : (k : ℕ) → a.size.m ≡ k → 0 < a.size.m
    go zero z = absurd (true≢false (sym e ∙ u.zero z))
    go (suc k) z = omega arith

-- ---- sums
module _ (a b : Number) where
  abbrev l : ℕ
  l = min a.x b.x

  both-plain : signed_sum (plain a) (plain b) ≡ plain (sum_of a b)
  unfolding signed_sum sum_by
  both-plain =
      signed-round-more (integer_at l a + integer_at l b) 0 l (omega arith)
      ∙ ap (λ (n : ℕ). plain (round n 1 l)) (sub-zero (integer_at l a + integer_at l b))

  both-minus : 0 < a.m → signed_sum (minus a) (minus b) ≡ minus (sum_of a b)
  unfolding signed_sum sum_by
  both-minus p =
      let n : 0 < integer_at l a = mul-pos p (pow_pos (a.x - l)) in
      signed-round-less 0 (integer_at l a + integer_at l b) l (omega arith)
      ∙ ap (λ (n : ℕ). minus (round n 1 l)) (sub-zero (integer_at l a + integer_at l b))

  first-minus : signed_sum (minus a) (plain b) ≡ signed_difference b a
  unfolding signed_sum signed_difference
  first-minus =
      let e : 0 + integer_at l b ≡ integer_at l b = omega arith in
      let f : integer_at l a + 0 ≡ integer_at l a = omega arith in
      ap₂ (λ (p q : ℕ). signed_round p q l) e f
      ∙ ap (λ (k : ℕ). signed_round (integer_at k b) (integer_at k a) k) (min_comm a.x b.x)

  second-minus : signed_sum (plain a) (minus b) ≡ signed_difference a b
  unfolding signed_sum signed_difference
  second-minus =
      let e : integer_at l a + 0 ≡ integer_at l a = omega arith in
      let f : 0 + integer_at l b ≡ integer_at l b = omega arith in
      ap₂ (λ (p q : ℕ). signed_round p q l) e f

module _ (a b : Signed) where
  by-signs : (s t : Bool) → a.negative ≡ s → b.negative ≡ t
      → signed_sum a b ≡ signed_sum (record { negative = s; size = a.size }) (record { negative = t; size = b.size })
  by-signs s t e f = ap₂ (λ (s t : Bool). signed_sum (record { negative = s; size = a.size }) (record { negative = t; size = b.size })) e f

  pub signed-sum-plain : a.negative ≡ false → b.negative ≡ false → signed_sum a b ≡ plain (sum_of a.size b.size)
  signed-sum-plain e f = by-signs false false e f ∙ both-plain a.size b.size

  pub signed-sum-negative : a.negative ≡ true → b.negative ≡ true → 0 < a.size.m
      → signed_sum a b ≡ record { negative = true; size = sum_of a.size b.size }
  signed-sum-negative e f p = by-signs true true e f ∙ both-minus a.size b.size p

  pub signed-sum-left : a.negative ≡ true → b.negative ≡ false → signed_sum a b ≡ signed_difference b.size a.size
  signed-sum-left e f = by-signs true false e f ∙ first-minus a.size b.size

  pub signed-sum-right : a.negative ≡ false → b.negative ≡ true → signed_sum a b ≡ signed_difference a.size b.size
  signed-sum-right e f = by-signs false true e f ∙ second-minus a.size b.size

-- by one test of the signs: where they agree the sizes are added, else the first is negative, or the second
module _ {r : ℕ} (a b : Signed) (A : SignedRanged r a) where
  pub signed-sum-alike : beq a.negative b.negative ≡ true → signed_sum a b ≡ record { negative = a.negative; size = sum_of a.size b.size }
  signed-sum-alike e = go a.negative b.negative refl refl e
    where
      go : (s t : Bool) → a.negative ≡ s → b.negative ≡ t → beq s t ≡ true
          → signed_sum a b ≡ record { negative = a.negative; size = sum_of a.size b.size }
      go true true f g e = signed-sum-negative a b f g (negative-positive a A f) ∙ ap (λ (s : Bool). record { negative = s; size = sum_of a.size b.size }) (sym f)
      go false false f g e = signed-sum-plain a b f g ∙ ap (λ (s : Bool). record { negative = s; size = sum_of a.size b.size }) (sym f)
      go true false f g e = absurd (false≢true e)
      go false true f g e = absurd (false≢true e)

pub other-sign : (s t : Bool) → beq s t ≡ false → t ≡ not s
other-sign true true e = absurd (true≢false e)
other-sign true false e = refl
other-sign false true e = refl
other-sign false false e = absurd (true≢false e)

-- ---- products
pub signed-product-comm : (a b : Signed) → signed_product a b ≡ signed_product b a
unfolding signed_product xor
signed-product-comm a b = ap₂ with_sign (go a.negative b.negative) (product-comm Nearest a.size b.size)
  where
    go : (s t : Bool) → xor s t ≡ xor t s
    go true true = refl
    go true false = refl
    go false true = refl
    go false false = refl

-- by a number with the sign plus
pub signed-product-plain : (a : Signed) (w : Number)
    → signed_product a (plain w) ≡ record { negative = a.negative && not (eqb (product_of a.size w).m 0); size = product_of a.size w }
unfolding signed_product with_sign xor
signed-product-plain a w =
    ap (λ (s : Bool). record { negative = s && not (eqb (product_of a.size w).m 0); size = product_of a.size w }) (go a.negative)
  where
    go : (s : Bool) → xor s false ≡ s
    go true = refl
    go false = refl
