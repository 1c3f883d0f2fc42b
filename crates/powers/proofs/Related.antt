-- THE FACTORS OF STAMPS IN TWO ARITHMETICS. Differences in Q, products of c of them in P c, quotients of two such products in T: then the factors are in T
-- (stamps-related). The rounded run beside the exact one, and the exact one beside the rational numbers, are two uses.
use mathlib.Core.Path.{◌≡◌, refl}
use mathlib.Core.Bool.{Bool, true, false}
use Prim.Native.Nat.{ℕ, zero, suc, ◌+◌, ◌-◌, ◌≤◌, ◌<◌}
use native.Mathlib.Omega.{arith}
use lib.Dec.{eqb, ltb}
use borrow.Author.Tests.{ltb-true}
use Rattle.fraction.specs.Arithmetic.{Arithmetic}
use Rattle.words.specs.RowSet.{In}
use Rattle.powers.specs.Stamps.{product_from, stamp_factor_by, stamp_factor}
use Rattle.powers.proofs.Factors.{run-count}

module _ (A B : Arithmetic) (P : ℕ → A.Num → B.Num → Type 0) (Q : A.Num → B.Num → Type 0)
    (empty : P 0 A.one B.one)
    (more : (c : ℕ) (x x' : A.Num) (y y' : B.Num) → P c x y → Q x' y' → P (suc c) (A.mul x x') (B.mul y y')) where
  pub product-related : (a c : ℕ) (f : ℕ → A.Num) (g : ℕ → B.Num) → ((k : ℕ) → a ≤ k → k < a + c → Q (f k) (g k))
      → P c (product_from A a c f) (product_from B a c g)
  unfolding product_from
  product-related a zero f g h = empty
  product-related a (suc c) f g h =
      more c _ _ _ _ (product-related a c f g (λ k l u. h k l (omega arith))) (h (a + c) (omega arith) (omega arith))

  module _ (n : ℕ) (T : A.Num → B.Num → Type 0) (products : (c : ℕ) (x : A.Num) (y : B.Num) → c < n → P c x y → T x y)
      (quotients : (c : ℕ) (x x' : A.Num) (y y' : B.Num) → suc c < n → P c x y → P c x' y' → T (A.div x x') (B.div y y'))
      (s : ℕ → A.Num) (d : ℕ → ℕ → A.Num) (t : ℕ → B.Num) (e : ℕ → ℕ → B.Num) (stamps : (i : ℕ) → In n i → T (s i) (t i))
      (differences : (i k : ℕ) → 1 ≤ k → k < i → i ≤ n → Q (d i k) (e i k)) where
    pub stamps-related : (i j : ℕ) → In n i → In n j → T (stamp_factor A s d i j) (stamp_factor B t e i j)
    unfolding stamp_factor
    stamps-related i j u v = by (eqb i j) (ltb j i) refl
      where
        by : (on_it below : Bool) → ltb j i ≡ below → T (stamp_factor_by A s d on_it below i j) (stamp_factor_by B t e on_it below i j)
        by true below q =
            products (suc (i - 1) - 1) _ _ (omega (arith, u.0, u.1))
            (product-related 1 (suc (i - 1) - 1) _ _ (λ k l h. differences i k l (omega (arith, u.0)) u.1))
        by false true q =
            let o : j < i = ltb-true j i q in
            let m = run-count i j v.0 o in
            quotients (suc (i - 2) - (i - j)) _ _ _ _ (omega (arith, u.1, v.0))
            (product-related (i - j) (suc (i - 2) - (i - j)) _ _ (λ k l h. differences i (k + 1) (omega arith) (omega arith) u.1))
            (product-related (i - j) (suc (i - 2) - (i - j)) _ _ (λ k l h. differences (i - 1) k (omega arith) (omega arith) (omega (arith, u.1))))
        by false false q = stamps i u
