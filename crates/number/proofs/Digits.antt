-- Digits, in any direction: one comparison takes the whole number (`compared`), so does a lift before digits are cut off (`lift-takes`), and what `kept` makes
-- of 63 or 64 digits is the rounded number (`kept-is`). Products have so many (`product-low`, `product_high`).
use mathlib.Core.Path.{◌≡◌, refl, sym, ap, ap₂, ◌∙◌}
use mathlib.Core.Bool.{Bool, true, false, cond}
use Prim.Native.Nat.{ℕ, zero, suc, ◌+◌, ◌-◌, ◌*◌, ◌/◌, ◌%◌, ◌^◌, ◌≤◌, ◌<◌}
use native.Mathlib.Nat.{mod-lt, mul-pos, mul-le-mul_right, div-add-mod'}
use native.Mathlib.Decide.{dec_lt}
use native.Mathlib.Omega.{arith}
use borrow.Author.Tests.{eq-eqb, eqb-true, eqb-false, ltb-true, ltb-false}
use lib.Dec.{eqb, ltb}
use lib.Pow.{pow_pos}
use Rattle.number.proofs.Closest.{stays, rises, nearest-by}
use Rattle.number.proofs.Rounding.{round-normal, renormalised-small}
use Rattle.number.proofs.Exact.{integer-long}
use Rattle.number.proofs.Tests.{none, quotient-of}
use Rattle.number.specs.Digits.{lift_of, lifted_of, multiplier_of, whole_of}
use Rattle.number.specs.Direction.{taken, whole_by}
use Rattle.number.specs.Number.{round_by, renormalised}
use Rattle.number.specs.declared.Direction.{Direction}
use Rattle.number.specs.declared.Direction.TheVariants.{Nearest, Down, Up}
use Rattle.number.specs.declared.Number.{Number}

-- ---- rounded results
abbrev made : ℕ → ℕ → Number
made m y = record { m = m; x = y }

renormalised-top : (m y : ℕ) → m ≡ 2 ^ 32 → renormalised m y ≡ made (2 ^ 31) (y + 1)
unfolding renormalised
renormalised-top m y e = rw (eq-eqb m (2 ^ 32) e) refl

-- what the code makes of the digits r, rounded already
abbrev pub last_of : ℕ → ℕ → Number
last_of r x = record { m = r / 2 ^ 31 / 2 ^ (r / 2 ^ 63); x = x + 31 + r / 2 ^ 63 }

last-low : (r x : ℕ) → r < 2 ^ 63 → last_of r x ≡ made (r / 2 ^ 31) (x + 31)
last-low r x h =
    let e : r / 2 ^ 63 ≡ 0 = omega arith in
    let f : r / 2 ^ 31 / 2 ^ 0 ≡ r / 2 ^ 31 = omega arith in
    let g : x + 31 + 0 ≡ x + 31 = omega arith in
    ap (λ (u : ℕ). made (r / 2 ^ 31 / 2 ^ u) (x + 31 + u)) e ∙ ap₂ made f g

last-high : (r x : ℕ) → 2 ^ 63 ≤ r → r < 2 ^ 64 → last_of r x ≡ made (r / 2 ^ 32) (x + 32)
last-high r x l h =
    let e : r / 2 ^ 63 ≡ 1 = omega arith in
    let f : r / 2 ^ 31 / 2 ^ 1 ≡ r / 2 ^ 32 = omega arith in
    let g : x + 31 + 1 ≡ x + 32 = omega arith in
    ap (λ (u : ℕ). made (r / 2 ^ 31 / 2 ^ u) (x + 31 + u)) e ∙ ap₂ made f g

-- ---- the whole number that is taken, by one comparison
pub compared : (w : Direction) (q r d : ℕ) → r < d → whole_of q r d (multiplier_of w d) ≡ taken w q r d
compared Nearest q r d h = nearest-by q r d
compared Down q r d h = stays q d (r * 1 + q % 2) (omega arith)
compared Up q r d h = go (eqb r 0) refl
  where
    go : (t : Bool) → eqb r 0 ≡ t → whole_of q r d (d + 1) ≡ cond t q (q + 1)
    go true e = let z = eqb-true r 0 e in stays q d (r * (d + 1) + q % 2) (omega (arith, ap (λ (k : ℕ). k * (d + 1)) z))
    go false e =
        let z = eqb-false r 0 e in
        let i : 1 ≤ r = omega arith in
        rises q d (r * (d + 1) + q % 2) (omega (arith, mul-le-mul_right (d + 1) i))

-- what is compared fits a word
pub multiplier-fits : (w : Direction) (r d : ℕ) → r < d → d < 2 ^ 32 → r * multiplier_of w d < 2 ^ 64 - 1
multiplier-fits Nearest r d h g = omega arith
multiplier-fits Down r d h g = omega arith
multiplier-fits Up r d h g =
    let i : r ≤ 2 ^ 32 - 2 = omega arith in
    omega (arith, mul-le-mul_right (d + 1) i)

-- ---- the same by lifting before digits are cut off; half a unit is h
-- what is added fills a unit where the comparison takes one more, and is less than a unit
lift-fills : (w : Direction) (h q r : ℕ) → 0 < h → 2 * h < r * multiplier_of w (2 * h) + q % 2 → 2 * h ≤ r + lift_of w h q
lift-fills Nearest h q r p g = omega arith
lift-fills Down h q r p g = omega arith
lift-fills Up h q r p g = let i : 0 < r = filled r g in omega arith
  where
    filled : (k : ℕ) → 2 * h < k * (2 * h + 1) + q % 2 → 0 < k
    filled zero l = absurd (omega arith)
    filled (suc k) l = omega arith

lift-lacks : (w : Direction) (h q r : ℕ) → 0 < h → r < 2 * h → r * multiplier_of w (2 * h) + q % 2 ≤ 2 * h → r + lift_of w h q < 2 * h
lift-lacks Nearest h q r p l g = omega arith
lift-lacks Down h q r p l g = omega arith
lift-lacks Up h q r p l g = let i : r ≡ 0 = none (λ j. omega (arith, mul-le-mul_right (2 * h + 1) j)) in omega arith

lift-less : (w : Direction) (h q : ℕ) → 0 < h → lift_of w h q < 2 * h
lift-less Nearest h q p = omega arith
lift-less Down h q p = omega arith
lift-less Up h q p = omega arith

lift-takes : (w : Direction) (h p : ℕ) → 0 < h → (p + lift_of w h (p / (2 * h))) / (2 * h) ≡ whole_by w p (2 * h)
lift-takes w h p pos = parts (p / u) (p % u) (div-add-mod' p u) (mod-lt p {m = u} (omega arith))
  where
    u : ℕ
    u = 2 * h

    parts : (q r : ℕ) → q * u + r ≡ p → r < u → (p + lift_of w h q) / u ≡ taken w q r u
    parts q r e l = go (ltb u (r * multiplier_of w u + q % 2)) refl ∙ compared w q r u l
      where
        go : (t : Bool) → ltb u (r * multiplier_of w u + q % 2) ≡ t → (p + lift_of w h q) / u ≡ cond t (q + 1) q
        go true f =
            let g = lift-fills w h q r pos (ltb-true u _ f) in
            let c : p + lift_of w h q ≡ (q + 1) * u + (r + lift_of w h q - u) = omega arith in
            ap (λ (z : ℕ). z / u) c ∙ quotient-of u (q + 1) (r + lift_of w h q - u) (omega (arith, lift-less w h q pos))
        go false f =
            let c : p + lift_of w h q ≡ q * u + (r + lift_of w h q) = omega arith in
            ap (λ (z : ℕ). z / u) c ∙ quotient-of u q (r + lift_of w h q) (lift-lacks w h q r pos l (ltb-false u _ f))

lifted-31 : (w : Direction) (p : ℕ) → lifted_of w p 0 / 2 ^ 31 ≡ whole_by w p (2 ^ 31)
lifted-31 w p =
    let e : p / 2 ^ 31 / 2 ^ 0 ≡ p / 2 ^ 31 = omega arith in
    ap (λ (q : ℕ). (p + lift_of w (2 ^ 30) q) / 2 ^ 31) e ∙ lift-takes w (2 ^ 30) p (omega arith)

lifted-32 : (w : Direction) (p : ℕ) → lifted_of w p 1 / 2 ^ 32 ≡ whole_by w p (2 ^ 32)
lifted-32 w p =
    let e : p / 2 ^ 31 / 2 ^ 1 ≡ p / 2 ^ 32 = omega arith in
    ap (λ (q : ℕ). (p + lift_of w (2 ^ 31) q) / 2 ^ 32) e ∙ lift-takes w (2 ^ 31) p (omega arith)

-- p at exponent x, k digits behind the point
parted : (w : Direction) (p x k : ℕ) → 2 ^ 31 * 2 ^ k ≤ p → p < 2 ^ 32 * 2 ^ k → round_by w p 1 x ≡ renormalised (whole_by w p (2 ^ k)) (x + k)
parted w p x k lo hi =
    integer-long w p x k (omega (arith, mul-pos {m = 2 ^ 31} {n = 2 ^ k} (omega arith) (pow_pos k))) lo hi ∙ round-normal w p (2 ^ k) (x + k) (pow_pos k) lo hi

-- ---- 63 digits, and 64
module _ (w : Direction) (p x : ℕ) where
  kept-63 : 2 ^ 62 ≤ p → p < 2 ^ 63 → last_of (lifted_of w p 0) x ≡ round_by w p 1 x
  kept-63 lo hi =
      let r : ℕ = lifted_of w p 0 in
      let f : r < 2 ^ 63 + 2 ^ 31 = omega (arith, lift-less w (2 ^ 30) (p / 2 ^ 31 / 2 ^ 0) (omega arith)) in
      let e : round_by w p 1 x ≡ renormalised (r / 2 ^ 31) (x + 31) = parted w p x 31 lo hi ∙ ap (λ (m : ℕ). renormalised m (x + 31)) (sym (lifted-31 w p)) in
      let l : last_of r x ≡ renormalised (r / 2 ^ 31) (x + 31) = elim (dec_lt r (2 ^ 63)) [
        | yes h ↦ last-low r x h ∙ sym (renormalised-small (r / 2 ^ 31) (x + 31) (omega arith))
        | no h ↦
            let g : r / 2 ^ 32 ≡ 2 ^ 31 = omega arith in
            let i : x + 32 ≡ x + 31 + 1 = omega arith in
            last-high r x (omega arith) (omega arith) ∙ ap₂ made g i ∙ sym (renormalised-top (r / 2 ^ 31) (x + 31) (omega arith))
      ] in
      l ∙ sym e

  kept-64 : 2 ^ 63 ≤ p → p ≤ 2 ^ 64 - 2 ^ 32 → last_of (lifted_of w p 1) x ≡ round_by w p 1 x
  kept-64 lo hi =
      let r : ℕ = lifted_of w p 1 in
      let l = lift-less w (2 ^ 31) (p / 2 ^ 31 / 2 ^ 1) (omega arith) in
      let f : r < 2 ^ 64 = omega arith in
      let e : round_by w p 1 x ≡ renormalised (r / 2 ^ 32) (x + 32) =
      parted w p x 32 lo (omega arith) ∙ ap (λ (m : ℕ). renormalised m (x + 32)) (sym (lifted-32 w p)) in
      last-high r x (omega arith) f ∙ sym (renormalised-small (r / 2 ^ 32) (x + 32) (omega arith)) ∙ sym e

  pub kept-is : 2 ^ 62 ≤ p → p ≤ 2 ^ 64 - 2 ^ 32 → last_of (lifted_of w p (p / 2 ^ 63)) x ≡ round_by w p 1 x
  kept-is lo hi = elim (dec_lt p (2 ^ 63)) [
    | yes h ↦ let e : p / 2 ^ 63 ≡ 0 = omega arith in ap (λ (t : ℕ). last_of (lifted_of w p t) x) e ∙ kept-63 lo h
    | no h ↦ let e : p / 2 ^ 63 ≡ 1 = omega arith in ap (λ (t : ℕ). last_of (lifted_of w p t) x) e ∙ kept-64 (omega arith) hi
  ]

-- the mantissas' product fits, and has 63 or 64 digits
pub product-low : (a b : ℕ) → 2 ^ 31 ≤ a → 2 ^ 31 ≤ b → 2 ^ 62 ≤ a * b
product-low a b h g = omega (arith, mul-le-mul_right b h)

pub product_high : (a b : ℕ) → a < 2 ^ 32 → b < 2 ^ 32 → a * b ≤ 2 ^ 64 - 2 ^ 32
product_high a b h g =
    let a' : a ≤ 2 ^ 32 - 1 = omega arith in
    omega (arith, mul-le-mul_right b a')
