-- What the rounded arithmetic does to signs, all that carrying needs of it: a sum has the sign of one of its operands or none (`sum-between`), a product with a
-- number that is not negative, or a quotient by one, keeps the sign or has none (`product-own`, `quotient-own`). Nothing is asked of exponents. Rounding enters
-- by one law alone: zero rounds to zero.
use mathlib.Core.Path.{◌≡◌, refl, sym, ap, ap₂, ◌∙◌, subst}
use mathlib.Core.Bool.{Bool, true, false, not, cond, xor, ◌&&◌, and-true}
use Prim.Native.Nat.{ℕ, zero, suc, ◌+◌, ◌-◌, ◌*◌, ◌^◌, ◌<◌, min}
use native.Mathlib.Omega.{arith}
use borrow.Author.Tests.{eq-eqb, ne_eqb, eqb-false, ltb-true}
use lib.Dec.{eqb, ltb}
use Rattle.number.specs.declared.Direction.TheVariants.{Nearest}
use Rattle.number.specs.declared.Number.{Number}
use Rattle.number.specs.declared.signed.Signed.{Signed}
use Rattle.number.specs.Number.{round}
use Rattle.number.specs.Signed.{plain, integer_at, positive_part, negative_part, signed_round, signed_sum, with_sign, signed_product, signed_quotient}
use Rattle.number.proofs.Rounding.{round-zero}
use Rattle.number.proofs.Signs.{signed-product-comm}
use Rattle.number.proofs.Zero.{product-zero-left, quotient-zero-left}
use Rattle.items.specs.Items.{is_zero_item}
use Rattle.reversals.proofs.Signs.{Sign, minus, none, plus, sign_by, sign, Between, own, other, neither, by-none}

between-own : {p q x : Sign} → q ≡ x → Between p q x
between-own {p} {q} e = subst (Between p q) e own

between-other : {p q x : Sign} → p ≡ x → Between p q x
between-other {p} {q} e = subst (Between p q) e other

-- ---- sums
-- a number that is not zero at some exponent is no zero
sized : (l : ℕ) (a : Signed) → 0 < integer_at l a.size → is_zero_item a ≡ false
sized l a h = by a.size.m refl
  where
    by : (m : ℕ) → a.size.m ≡ m → is_zero_item a ≡ false
    by zero e = absurd (omega (arith, ap (λ (m : ℕ). m * 2 ^ (a.size.x - l)) e))
    by (suc m) e = ne_eqb a.size.m 0 (λ f. omega arith)

-- what a number adds to the negative part of a sum (t is true), or to the positive part
abbrev part : Bool → ℕ → Signed → ℕ
part t l a = cond a.negative (cond t (integer_at l a.size) 0) (cond t 0 (integer_at l a.size))

-- where that is not zero, it has that sign
in-part : (t : Bool) (l : ℕ) (a : Signed) → 0 < part t l a → sign a ≡ sign_by false t
unfolding sign
in-part t l a = by a.negative t refl
  where
    by : (s t : Bool) → a.negative ≡ s → 0 < cond s (cond t (integer_at l a.size) 0) (cond t 0 (integer_at l a.size))
        → sign_by (is_zero_item a) a.negative ≡ sign_by false t
    by true true e h = ap₂ sign_by (sized l a h) e
    by true false e h = absurd (omega arith)
    by false true e h = absurd (omega arith)
    by false false e h = ap₂ sign_by (sized l a h) e

-- a rounded p - q has no sign, or is negative and q is not zero, or positive and p is not
rounded-sign : (p q x : ℕ) (S : Sign → Type 0) → S none → (0 < q → S minus) → (0 < p → S plus) → S (sign (signed_round p q x))
unfolding signed_round sign
rounded-sign p q x S n m u = by (ltb p q) refl
  where
    size-by : (t : Bool) (a : Number) → (0 < a.m → S (sign_by false t)) → S (sign_by (eqb a.m 0) t)
    size-by t a h = go (eqb a.m 0) refl
      where
        go : (z : Bool) → eqb a.m 0 ≡ z → S (sign_by z t)
        go true e = n
        go false e = h (let f = eqb-false a.m 0 e in omega arith)

    by : (t : Bool) → ltb p q ≡ t → S (sign (cond t (record { negative = true; size = round (q - p) 1 x }) (plain (round (p - q) 1 x))))
    by true e = size-by true (round (q - p) 1 x) (λ h. m (omega (arith, ltb-true p q e)))
    by false e = size-by false (round (p - q) 1 x) (λ h. u (some (p - q) refl h))
      where
        some : (k : ℕ) → p - q ≡ k → 0 < (round k 1 x).m → 0 < p
        some zero f g = absurd (omega (arith, ap (λ (r : Number). r.m) (round-zero Nearest 1 x)))
        some (suc k) f g = omega arith

pub sum-between : (a b : Signed) → Between (sign b) (sign a) (sign (signed_sum a b))
unfolding signed_sum
sum-between a b =
    rounded-sign (positive_part l a + positive_part l b) (negative_part l a + negative_part l b) l (Between (sign b) (sign a)) neither (shown true) (shown false)
  where
    l : ℕ
    l = min a.size.x b.size.x

    shown : (t : Bool) → 0 < part t l a + part t l b → Between (sign b) (sign a) (sign_by false t)
    shown t = either (part t l a) (part t l b) (λ h. between-own (in-part t l a h)) (λ h. between-other (in-part t l b h))
      where
        either : {A : Type 0} (i j : ℕ) → (0 < i → A) → (0 < j → A) → 0 < i + j → A
        either zero j f g h = g (omega arith)
        either (suc i) j f g h = f (omega arith)

-- ---- products and quotients
-- the sign of a, on a number that is zero where a is
own_sign : (a : Signed) (s : Bool) (p : Number) → s ≡ a.negative → (a.size.m ≡ 0 → p.m ≡ 0) → Between none (sign a) (sign (with_sign s p))
unfolding sign with_sign
own_sign a s p e h = by p.m refl
  where
    marked : Bool → Sign
    marked z = sign_by z (s && not z)

    by : (m : ℕ) → p.m ≡ m → Between none (sign_by (is_zero_item a) a.negative) (marked (eqb p.m 0))
    by zero f = between-other (sym (ap marked (eq-eqb p.m 0 f)))
    by (suc m) f =
        let z : is_zero_item a ≡ false = ne_eqb a.size.m 0 (λ g. omega (arith, h g)) in
        between-own (ap₂ sign_by z (sym e) ∙ ap (sign_by false) (sym (and-true s)) ∙ sym (ap marked (ne_eqb p.m 0 (λ g. omega arith))))

-- w is not negative
module _ (a w : Signed) (plus-w : w.negative ≡ false) where
  same_sign : xor a.negative w.negative ≡ a.negative
  unfolding xor
  same_sign = ap (xor a.negative) plus-w ∙ go a.negative
    where
      go : (t : Bool) → xor t false ≡ t
      go true = refl
      go false = refl

  pub product-own : Between none (sign a) (sign (signed_product a w))
  unfolding signed_product
  product-own = own_sign a _ _ same_sign (λ z. ap (λ (p : Number). p.m) (product-zero-left Nearest a.size w.size z))

  pub quotient-own : Between none (sign a) (sign (signed_quotient a w))
  unfolding signed_quotient
  quotient-own = own_sign a _ _ same_sign (λ z. ap (λ (p : Number). p.m) (quotient-zero-left Nearest a.size w.size z))

-- an item plus a number that is not negative times its neighbour
pub added-between : (a b w : Signed) → w.negative ≡ false → Between (sign b) (sign a) (sign (signed_sum a (signed_product w b)))
added-between a b w e = rw (signed-product-comm w b) (beside (product-own b w e) (sum-between a (signed_product b w)))
  where
    beside : {p q c x : Sign} → Between none p c → Between c q x → Between p q x
    beside {p} own h = h
    beside {p} other h = by-none p h
    beside {p} neither h = by-none p h
