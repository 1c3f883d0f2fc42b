-- What document 01's rule is worked in: numbers with zero, one, sum, product and quotient, and a test for zero.
-- The rounded rule, the exact run and the mathematics are one rule at three of these.
use Rattle.std.specs.Prelude.{Bool}

pub record Arithmetic : Type 1 where
  pub Num : Type 0
  pub zero : Num
  pub one : Num
  pub add : Num → Num → Num
  pub mul : Num → Num → Num
  pub div : Num → Num → Num
  pub is_zero : Num → Bool
