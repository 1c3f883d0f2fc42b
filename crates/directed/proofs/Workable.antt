-- The operands that pass the test are those that the operations take (`workable-ranged`); what is worked and answered, case by case.
use mathlib.Core.Path.{◌≡◌, refl}
use mathlib.Core.Bool.{Bool, true, false, cond, ◌&&◌}
use Prim.Native.Nat.{ℕ, ◌+◌, ◌^◌, ◌≤◌, ◌<◌}
use native.Mathlib.Omega.{arith}
use borrow.Author.Tests.{eqb-true, eqb-false, leb-true, ltb-true, eq-eqb, ne_eqb, lt-ltb, le-ltb}
use lib.Dec.{eqb, leb, ltb}
use Rattle.number.specs.Number.{bias, reach, sum_by, product_by, quotient_by, Ranged}
use Rattle.number.specs.declared.Direction.{Direction}
use Rattle.number.specs.declared.Number.{Number}
use Rattle.number.proofs.Tests.{both}
use Rattle.directed.specs.Directed.{nothing, is_workable, direction_of, worked_of, directed_of}

pub workable-ranged : (a : Number) → is_workable a ≡ true → Ranged reach a
unfolding is_workable
workable-ranged a h = go (eqb a.m 0) refl h
  where
    go : (t : Bool) → eqb a.m 0 ≡ t
        → cond t (eqb a.x bias) (leb (2 ^ 31) a.m && (ltb a.m (2 ^ 32) && (leb bias (a.x + reach) && leb a.x (bias + reach)))) ≡ true
        → Ranged reach a
    go true e f =
        let z = eqb-true a.m 0 e in
        let x = eqb-true a.x bias f in
        record { zero = λ i. x; low = λ p. absurd (omega arith); high = omega arith; start = omega arith; stop = omega arith }
    go false e f =
        let ne = eqb-false a.m 0 e in
        let p = both _ _ f in
        let q = both _ _ p.1 in
        let r = both _ _ q.1 in
        record {
          zero = λ i. absurd (ne i);
          low = λ i. leb-true (2 ^ 31) a.m p.0;
          high = ltb-true a.m (2 ^ 32) q.0;
          start = leb-true bias (a.x + reach) r.0;
          stop = leb-true a.x (bias + reach) r.1;
        }

-- ---- what is worked
module _ (o : ℕ) (w : Direction) (a b : Number) where
  pub added : o ≡ 0 → worked_of o w a b ≡ sum_by w a b
  unfolding worked_of
  added e = simp (eq-eqb o 0 e)

  pub multiplied : o ≡ 1 → worked_of o w a b ≡ product_by w a b
  unfolding worked_of
  multiplied e = simp (ne_eqb o 0 (omega arith), eq-eqb o 1 e)

  pub divided : o ≡ 2 → 0 < b.m → worked_of o w a b ≡ quotient_by w a b
  unfolding worked_of
  divided e p = simp (ne_eqb o 0 (omega arith), ne_eqb o 1 (omega arith), eq-eqb o 2 e, ne_eqb b.m 0 (omega arith))

  pub not-divided : o ≡ 2 → b.m ≡ 0 → worked_of o w a b ≡ nothing
  unfolding worked_of
  not-divided e z = simp (ne_eqb o 0 (omega arith), ne_eqb o 1 (omega arith), eq-eqb o 2 e, eq-eqb b.m 0 z)

  pub unknown : 3 ≤ o → worked_of o w a b ≡ nothing
  unfolding worked_of
  unknown h = simp (ne_eqb o 0 (omega arith), ne_eqb o 1 (omega arith), ne_eqb o 2 (omega arith))

-- ---- what is answered
module _ (o w : ℕ) (a b : Number) where
  pub no-operation : 3 ≤ o → directed_of o w a b ≡ nothing
  unfolding directed_of
  no-operation h = go (ltb w 3 && (is_workable a && is_workable b))
    where
      go : (t : Bool) → cond t (worked_of o (direction_of w) a b) nothing ≡ nothing
      go true = unknown o (direction_of w) a b h
      go false = refl

  pub no-direction : 3 ≤ w → directed_of o w a b ≡ nothing
  unfolding directed_of
  no-direction h = simp (le-ltb w 3 h)

  pub first-refused : w < 3 → is_workable a ≡ false → directed_of o w a b ≡ nothing
  unfolding directed_of
  first-refused h e = simp (lt-ltb w 3 h, e)

  pub second-refused : w < 3 → is_workable a ≡ true → is_workable b ≡ false → directed_of o w a b ≡ nothing
  unfolding directed_of
  second-refused h e f = simp (lt-ltb w 3 h, e, f)

  pub both-worked : w < 3 → is_workable a ≡ true → is_workable b ≡ true → directed_of o w a b ≡ worked_of o (direction_of w) a b
  unfolding directed_of
  both-worked h e f = simp (lt-ltb w 3 h, e, f)
