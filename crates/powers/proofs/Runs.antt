-- THE FACTORS OF STAMPS AS RUNS: `run j m` is x j less each of the m variables before it, multiplied. On the diagonal a factor is such a run (on-it), below it
-- a quotient of two (below), above it a variable (above).
use mathlib.Core.Path.{◌≡◌, ap, ap₂, ◌∙◌}
use Prim.Native.Nat.{ℕ, zero, suc, ◌≤◌, ◌<◌, ◌-◌, ◌+◌ as ◌+ℕ◌}
use native.Mathlib.Omega.{arith}
use Rattle.fraction.specs.Arithmetic.{Arithmetic}
use Rattle.fraction.specs.Ring.{CRing, Ordered, arithmetic}
use Rattle.fraction.proofs.Ring.{*-assoc, *-comm}
use Rattle.words.specs.Word.{Factors}
use Rattle.powers.specs.Stamps.{product_from, stamp_factor}
use Rattle.powers.proofs.Factors.{factor-above, factor-on, factor-below}
use Rattle.powers.proofs.Related.{product-related}

module _ (K : CRing) (O : Ordered K) where
  open K use {R, 𝟙, add as ◌+◌, mul as ◌*◌, neg}
  open O use {Pos, pos-one, pos-mul, inv}

  infixl 65 ◌+◌
  infixl 70 ◌*◌
  abbrev F : Arithmetic
  F = arithmetic K O

  -- by its first number
  product-first : (a m : ℕ) (g : ℕ → R) → product_from F a (suc m) g ≡ g a * product_from F (suc a) m g
  unfolding product_from
  product-first a zero g = let e : a +ℕ 0 ≡ a = omega arith in ap (λ i. 𝟙 * g i) e ∙ *-comm K _ _
  product-first a (suc m) g = let e : a +ℕ suc m ≡ suc a +ℕ m = omega arith in ap₂ (λ p i. p * g i) (product-first a m g) e ∙ *-assoc K _ _ _

  module _ (x : ℕ → R) where
    abbrev pub difference : ℕ → ℕ → R
    difference i k = x i + neg (x k)

    abbrev pub factors : Factors R
    factors = stamp_factor F x difference

    -- x j less each of the m before it
    unfoldable pub run : ℕ → ℕ → R
    run j m = product_from F (j - m) m (difference j)

    pub run_more : (j m : ℕ) → m < j → run j (suc m) ≡ difference j (j - suc m) * run j m
    unfolding run
    run_more j m h =
        let e : suc (j - suc m) ≡ j - m = omega arith in
        product-first (j - suc m) m (difference j) ∙ ap (λ a. difference j (j - suc m) * product_from F a m (difference j)) e

    pub run-positive : (n j m : ℕ) → ((i k : ℕ) → 1 ≤ k → k < i → i ≤ n → Pos (difference i k)) → m < j → j ≤ n → Pos (run j m)
    unfolding run
    run-positive n j m rising h l =
        product-related F F (λ c x y. Pos x) (λ x y. Pos x) pos-one (λ c x x' y y' p q. pos-mul x x' p q) (j - m) m (difference j) (difference j)
        (λ k p q. rising j k (omega arith) (omega arith) l)

    -- THE FACTORS
    pub above : (i j : ℕ) → i < j → factors i j ≡ x i
    above = factor-above F x difference

    pub on-it : (j : ℕ) → 1 ≤ j → factors j j ≡ run j (j - 1)
    unfolding run
    on-it j h = let a : 1 ≡ j - (j - 1) = omega arith in factor-on F x difference j h ∙ ap (λ a. product_from F a (j - 1) (difference j)) a

    pub below : (i j : ℕ) → 1 ≤ j → j < i → factors i j ≡ run i (j - 1) * inv (run (i - 1) (j - 1))
    unfolding run
    below i j l h =
        let a : i - j +ℕ 1 ≡ i - (j - 1) = omega arith in
        let b : i - j ≡ i - 1 - (j - 1) = omega arith in
        factor-below F x difference i j l h
        ∙ ap₂ (λ p q. product_from F p (j - 1) (difference i) * inv (product_from F q (j - 1) (difference (i - 1)))) a b
