-- The order of numbers and their differences, from the lower exponent: what `below` says by exponents and mantissas, and `difference_of`
-- where the code has its tests.
use mathlib.Core.Path.{◌≡◌, refl, sym, ap, ◌∙◌}
use mathlib.Core.Bool.{true, false, false≢true}
use Prim.Native.Nat.{ℕ, zero, suc, ◌-◌, ◌*◌, ◌^◌, ◌≤◌, ◌<◌, min}
use native.Mathlib.Nat.{pow-succ', min-eq_left, min-eq_right, min-le_left, sub_self, mul-one, mul-le-mul, mul-pos}
use native.Mathlib.Decide.{dec_lt}
use native.Mathlib.Omega.{arith}
use borrow.Author.Tests.{lt-ltb, le-ltb, ltb-false}
use lib.Dec.{ltb}
use lib.Pow.{pow_pos}
use Rattle.number.proofs.Rounding.{round-zero}
use Rattle.number.proofs.Zero.{round-back}
use Rattle.number.specs.Number.{zero_number, round, Ranged}
use Rattle.number.specs.Signed.{below, difference_of}
use Rattle.number.specs.declared.Direction.TheVariants.{Nearest}
use Rattle.number.specs.declared.Number.{Number}

-- ---- which of two numbers is less
-- a normalised mantissa at a higher exponent is the larger
pub higher : (a b i j : ℕ) → 2 ^ 31 ≤ a → b < 2 ^ 32 → j ≤ i → (j ≡ i → b < a) → b < a * 2 ^ (i - j)
higher a b i j p q l h = go (i - j) refl
  where
    go : (k : ℕ) → i - j ≡ k → b < a * 2 ^ k
    go zero e = omega (arith, h (omega arith))
    go (suc k) e = rw (pow-succ' 2 k) (omega (arith, mul-le-mul p (pow_pos k)))

below-is : (a b : Number) → b.x ≤ a.x → below a b ≡ ltb (a.m * 2 ^ (a.x - b.x)) b.m
unfolding below
below-is a b h = rw (min-eq_right h, sub_self b.x, mul-one b.m) refl

pub below-zero-right : (a b : Number) → b.m ≡ 0 → below a b ≡ false
unfolding below
below-zero-right a b e =
    let l : ℕ = min a.x b.x in
    le-ltb (a.m * 2 ^ (a.x - l)) (b.m * 2 ^ (b.x - l)) (omega (arith, ap (λ (z : ℕ). z * 2 ^ (b.x - l)) e))

pub below-zero-left : (a b : Number) → a.m ≡ 0 → 0 < b.m → below a b ≡ true
unfolding below
below-zero-left a b e p =
    let l : ℕ = min a.x b.x in
    lt-ltb (a.m * 2 ^ (a.x - l)) (b.m * 2 ^ (b.x - l)) (omega (arith, ap (λ (z : ℕ). z * 2 ^ (a.x - l)) e, mul-pos p (pow_pos (b.x - l))))

pub below-lower : (a b : Number) → a.m < 2 ^ 32 → 2 ^ 31 ≤ b.m → a.x < b.x → below a b ≡ true
unfolding below
below-lower a b p q h =
    rw (min-eq_left (le h), sub_self a.x, mul-one a.m)
    (lt-ltb a.m (b.m * 2 ^ (b.x - a.x)) (higher b.m a.m b.x a.x q p (le h) (λ e. absurd (omega arith))))
  where
    le : a.x < b.x → a.x ≤ b.x
    le g = omega arith

pub below-higher : (a b : Number) → 2 ^ 31 ≤ a.m → b.m < 2 ^ 32 → b.x < a.x → below a b ≡ false
below-higher a b p q h =
    let l : b.x ≤ a.x = omega arith in
    let g = higher a.m b.m a.x b.x p q l (λ e. absurd (omega arith)) in
    below-is a b l ∙ le-ltb (a.m * 2 ^ (a.x - b.x)) b.m (omega arith)

pub below-level : (a b : Number) → a.x ≡ b.x → below a b ≡ ltb a.m b.m
below-level a b e =
    let l : b.x ≤ a.x = omega arith in
    let z : a.x - b.x ≡ 0 = omega arith in
    below-is a b l ∙ ap (λ (k : ℕ). ltb (a.m * 2 ^ k) b.m) z ∙ ap (λ (k : ℕ). ltb k b.m) (mul-one a.m)

-- a number that is not below a nonzero one: it is no zero, and has the higher exponent, or the same and no smaller mantissa
pub record NotBelow (a b : Number) : Type 0 where
  pub normal : 2 ^ 31 ≤ a.m
  pub exponent : b.x ≤ a.x
  pub mantissa : b.x ≡ a.x → b.m ≤ a.m

pub not-below : {r s : ℕ} (a b : Number) → Ranged r a → Ranged s b → 0 < b.m → below a b ≡ false → NotBelow a b
not-below a b u v p h =
    record {
      normal = u.low (some a.m refl);
      exponent = upper (dec_lt a.x b.x);
      mantissa = λ e. ltb-false a.m b.m (sym (below-level a b (sym e)) ∙ h);
    }
  where
    some : (k : ℕ) → a.m ≡ k → 0 < a.m
    some zero e = absurd (false≢true (sym h ∙ below-zero-left a b e p))
    some (suc k) e = omega arith

    upper : Dec (a.x < b.x) → b.x ≤ a.x
    upper (yes l) = absurd (false≢true (sym h ∙ below-lower a b u.high (v.low p) l))
    upper (no l) = omega arith

-- ---- differences
pub difference-is : (a b : Number) → b.x ≤ a.x → difference_of a b ≡ round (a.m * 2 ^ (a.x - b.x) - b.m) 1 b.x
unfolding difference_of
difference-is a b h = rw (min-eq_right h, sub_self b.x, mul-one b.m) refl

pub difference-equal : (a b : Number) → a.x ≡ b.x → a.m ≡ b.m → difference_of a b ≡ zero_number
difference-equal a b e f =
    let h : b.x ≤ a.x = omega arith in
    let g : a.x - b.x ≡ 0 = omega arith in
    let n : a.m * 2 ^ (a.x - b.x) - b.m ≡ 0 = rw g (omega arith) in
    difference-is a b h ∙ ap (λ (z : ℕ). round z 1 b.x) n ∙ round-zero Nearest 1 b.x

pub difference-zero-right : {r : ℕ} (a b : Number) → Ranged r a → b.m ≡ 0 → difference_of a b ≡ a
unfolding difference_of
difference-zero-right a b f h =
    let l : ℕ = min a.x b.x in
    let s : a.m * 2 ^ (a.x - l) - b.m * 2 ^ (b.x - l) ≡ a.m * 2 ^ (a.x - l) = omega (arith, ap (λ (z : ℕ). z * 2 ^ (b.x - l)) h) in
    ap (λ (n : ℕ). round n 1 l) s ∙ round-back Nearest a l f (min-le_left a.x b.x)
