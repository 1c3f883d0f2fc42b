-- DEMAND 3: the module's run by the rounded rule beside the exact run of the same operation in fractions, source numbers taken as exact. Factors are positive
-- or zero, in document 02's pattern.
use Rattle.std.specs.Prelude.{◌≡◌, ◌↔◌, ℕ, ◌<◌, length}
use Rattle.fraction.specs.Fraction.{Fraction, Same, exact}
use Rattle.fraction.specs.Within.{Within}
use Rattle.fraction.specs.Rational.{rationals, rationals-ordered, rational}
use Rattle.number.specs.declared.Number.{Number}
use Rattle.number.specs.Number.{zero_number, rounded, value, Ranged, reach}
use Rattle.words.specs.RowSet.{rows}
use Rattle.words.specs.Word.{Factors}
use Rattle.words.specs.Formula.{Divisible}
use Rattle.words.specs.Sources.{Each, KeepsRule, Banded, Sources}
use Rattle.words.specs.Operation.{Operation, steps, size, Fit, bound, row_by_row, asked_minor, result, each_factor, each_source}
use Rattle.minors.specs.Matrix.{In, Matrix, multiplied}
use Rattle.factors.specs.Requested.{Requested}

-- sources whose factors have a property, and an operation that fits them
pub record Proper {A : Type 0} (T : Factors A → Type 0) (n : ℕ) (o : Operation A) : Type 0 where
  pub sources : Sources T (steps o)
  pub fit : Fit n o

-- a positive fraction, and zero
abbrev pub AboveZero : Fraction → Type 0
AboveZero x = 0 < x.top

abbrev pub IsZero : Fraction → Type 0
IsZero x = x.top ≡ 0

-- a choice of fractions, each positive or zero, that keeps the rule for zeros
abbrev pub FractionsKeepRule : ℕ → Factors Fraction → Type 0
FractionsKeepRule = KeepsRule AboveZero IsZero

-- fractions that are accepted as factors: such a choice, and positive on the diagonal
abbrev pub BandedFractions : ℕ → Factors Fraction → Type 0
BandedFractions = Banded AboveZero IsZero

-- what fractions multiply out to, as matrices of rational numbers
abbrev pub multiplied_out : ℕ → Factors Fraction → Matrix rationals
multiplied_out k c = multiplied rationals rationals-ordered k (each_factor rational c)

-- fractions multiply out to the requested matrix of an operation
abbrev pub GivesRequested : ℕ → Operation Fraction → Factors Fraction → Type 0
GivesRequested n o c = Requested rationals rationals-ordered n (each_source rational o) (multiplied_out (size n o) c)

-- the exact minor with all rows and columns of the result: the requested matrix's determinant, and that times M(1..k) of a Schur complement
-- (`determinant-requested`)
abbrev pub determinant_of : ℕ → Operation Fraction → Fraction
determinant_of n o = asked_minor exact n o (rows (size n o) 1 (size n o)) (rows (size n o) 1 (size n o))

-- it is not singular
abbrev pub Regular : ℕ → Operation Fraction → Type 0
Regular n o = AboveZero (determinant_of n o)

-- THE EXACT RUN of an operation on fractions: no divisor is zero; its factors are accepted ones and multiply out to the requested matrix, and no other choice
-- of fractions, positive or zero, that keeps the rule for zeros does, whatever its diagonal.
pub record Factored (n : ℕ) (o : Operation Fraction) : Type 0 where
  pub divisors-below : Divisible exact (size n o) (asked_minor exact n o)
  pub divisors-above : Divisible exact (size n o) (λ I J. asked_minor exact n o J I)
  pub banded : BandedFractions (size n o) (result exact n o)
  pub requested : GivesRequested n o (result exact n o)
  pub only : (c : Factors Fraction) → FractionsKeepRule (size n o) c → GivesRequested n o c
      → (i j : ℕ) → In (size n o) i → In (size n o) j → Same (c i j) (result exact n o i j)

-- the operation with each source number taken for the fraction that it stands for
abbrev pub exactly : Operation Number → Operation Fraction
exactly o = each_source value o

-- BOTH RUNS meet no divisor that is zero and give equally many factors, positive or zero in the pattern; a factor is zero exactly when the exact one is; at
-- each row and column the two have a ratio within the bound returned, or are both zero.
pub record Demand (n : ℕ) (o : Operation Number) : Type 0 where
  pub divisors-below : Divisible rounded (size n o) (asked_minor rounded n o)
  pub divisors-above : Divisible rounded (size n o) (λ I J. asked_minor rounded n o J I)
  pub counts : length (row_by_row (size n o) (result rounded n o)) ≡ length (row_by_row (size n (exactly o)) (result exact n (exactly o)))
  pub banded : Banded (λ a. 0 < a.m) (λ a. a ≡ zero_number) (size n o) (result rounded n o)
  pub zeros : (i j : ℕ) → In (size n o) i → In (size n o) j → (result rounded n o i j ≡ zero_number) ↔ IsZero (result exact n (exactly o) i j)
  pub ranged : Each (Ranged reach) (size n o) (result rounded n o)
  pub within : (i j : ℕ) → In (size n o) i → In (size n o) j → Within (bound n o) (value (result rounded n o i j)) (result exact n (exactly o) i j)
  pub factored : Factored n (exactly o)
