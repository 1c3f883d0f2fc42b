-- THE FACTOR THEOREM as it is said of minors M of k rows and a matrix A over an ordered ring: A is factored by the new factors of M (`MatrixFactored`).
use Rattle.std.specs.Prelude.{◌≡◌, ℕ}
use Rattle.fraction.specs.Ring.{CRing, Ordered, arithmetic}
use Rattle.words.specs.RowSet.{RowSet}
use Rattle.words.specs.Word.{Factors}
use Rattle.words.specs.Formula.{new_factor, Divisible}
use Rattle.words.specs.Sources.{KeepsRule, Banded}
use Rattle.minors.specs.Matrix.{In, Matrix, Equal, multiplied}

-- factors of a ring, positive or zero, that keep the rule for zeros; and accepted ones, which are positive on the diagonal too
abbrev pub KeepsRuleOver : (K : CRing) → Ordered K → ℕ → Factors K.R → Type 0
KeepsRuleOver K O = KeepsRule O.Pos (λ x. x ≡ K.𝟘)

abbrev pub BandedOver : (K : CRing) → Ordered K → ℕ → Factors K.R → Type 0
BandedOver K O = Banded O.Pos (λ x. x ≡ K.𝟘)

-- No divisor of the formulas is zero, below the diagonal and above it. The new factors are accepted ones and multiply out to A, and no others do that keep the
-- rule for zeros, whatever their diagonal.
pub record MatrixFactored (K : CRing) (O : Ordered K) (k : ℕ) (M : RowSet → RowSet → K.R) (A : Matrix K) : Type 0 where
  pub divisible : Divisible (arithmetic K O) k M
  pub divisible-exchanged : Divisible (arithmetic K O) k (λ I J. M J I)
  pub banded : BandedOver K O k (new_factor (arithmetic K O) k M)
  pub multiplied-out : Equal K k (multiplied K O k (new_factor (arithmetic K O) k M)) A
  pub only : (c : Factors K.R) → KeepsRuleOver K O k c → Equal K k (multiplied K O k c) A
      → (i j : ℕ) → In k i → In k j → c i j ≡ new_factor (arithmetic K O) k M i j
