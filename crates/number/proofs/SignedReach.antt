-- How far signed operations take the exponents: `signed-ranged-sum`, `signed-ranged-product`; `signed-ranged-more` widens a range;
-- `signed-ranged-zero` and `signed-ranged-plain` start one.
use mathlib.Core.Path.{◌≡◌, refl, sym, ap, ◌∙◌, subst}
use mathlib.Core.Bool.{Bool, true, false, xor, not, ◌&&◌}
use Prim.Native.Nat.{ℕ, ◌+◌, ◌≤◌, ◌<◌}
use native.Mathlib.Omega.{arith}
use borrow.Author.Tests.{eq-eqb}
use Rattle.number.proofs.Reach.{ranged-more, ranged-zero, ranged-sum, ranged-product, ranged-difference, difference-positive}
use Rattle.number.proofs.Signs.{signed-difference-below, signed-difference-not-below, below-not-below, signed-sum-plain, signed-sum-negative}
use Rattle.number.proofs.Signs.{signed-sum-left, signed-sum-right, negative-positive}
use Rattle.number.proofs.Zero.{sum-positive-left}
use Rattle.number.specs.Number.{bias, Ranged, sum_of}
use Rattle.number.specs.Signed.{below, plain, zero_signed, signed_difference, signed_sum, signed_product, with_sign, SignedRanged}
use Rattle.number.specs.declared.Direction.TheVariants.{Nearest}
use Rattle.number.specs.declared.Number.{Number}
use Rattle.number.specs.declared.signed.Signed.{Signed}

pub signed-ranged-more : {r s : ℕ} {a : Signed} → r ≤ s → SignedRanged r a → SignedRanged s a
signed-ranged-more h u = record { size = ranged-more h u.size; zero = u.zero }

pub signed-ranged-plain : {r : ℕ} {a : Number} → Ranged r a → SignedRanged r (plain a)
signed-ranged-plain u = record { size = u; zero = λ e. refl }

pub signed-ranged-zero : (r : ℕ) → SignedRanged r zero_signed
signed-ranged-zero r = signed-ranged-plain (ranged-zero r)

-- a size that is no zero may have either sign
signed-ranged-nonzero : {r : ℕ} {a : Number} → Ranged r a → 0 < a.m → SignedRanged r (record { negative = true; size = a })
signed-ranged-nonzero u p = record { size = u; zero = λ e. absurd (omega arith) }

signed-ranged-difference : {r : ℕ} {a b : Number} → Ranged r a → Ranged r b → r + 64 ≤ bias → SignedRanged (r + 31) (signed_difference a b)
signed-ranged-difference {r} {a} {b} u v small = go (below a b) refl
  where
    go : (t : Bool) → below a b ≡ t → SignedRanged (r + 31) (signed_difference a b)
    go true e =
        subst (SignedRanged (r + 31)) (sym (signed-difference-below a b e))
        (signed-ranged-nonzero (ranged-difference v u small (below-not-below a b e)) (difference-positive b a e))
    go false e = subst (SignedRanged (r + 31)) (sym (signed-difference-not-below a b e)) (signed-ranged-plain (ranged-difference u v small e))

-- the exponent rises by at most 2, and cancellation may lower it by 31
pub signed-ranged-sum : {r : ℕ} {a b : Signed} → SignedRanged r a → SignedRanged r b → r + 64 ≤ bias → SignedRanged (r + 31) (signed_sum a b)
signed-ranged-sum {r} {a} {b} u v small = go a.negative b.negative refl refl
  where
    total : Ranged (r + 31) (sum_of a.size b.size)
    total = ranged-more (omega arith) (ranged-sum Nearest u.size v.size small)

    go : (s t : Bool) → a.negative ≡ s → b.negative ≡ t → SignedRanged (r + 31) (signed_sum a b)
    go true true e f =
        let p = negative-positive a u e in
        subst (SignedRanged (r + 31)) (sym (signed-sum-negative a b e f p)) (signed-ranged-nonzero total (sum-positive-left Nearest a.size b.size p))
    go true false e f = subst (SignedRanged (r + 31)) (sym (signed-sum-left a b e f)) (signed-ranged-difference v.size u.size small)
    go false true e f = subst (SignedRanged (r + 31)) (sym (signed-sum-right a b e f)) (signed-ranged-difference u.size v.size small)
    go false false e f = subst (SignedRanged (r + 31)) (sym (signed-sum-plain a b e f)) (signed-ranged-plain total)

pub signed-ranged-product : {r s : ℕ} {a b : Signed} → SignedRanged r a → SignedRanged s b → r + s + 64 ≤ bias → SignedRanged (r + s + 33) (signed_product a b)
unfolding signed_product with_sign
signed-ranged-product {r} {s} {a} {b} u v small =
    record {
      size = ranged-product Nearest u.size v.size small;
      zero = λ e. ap (λ (t : Bool). xor a.negative b.negative && not t) (eq-eqb _ 0 e)
          ∙ go (xor a.negative b.negative);
    }
  where
    go : (t : Bool) → (t && false) ≡ false
    go true = refl
    go false = refl
