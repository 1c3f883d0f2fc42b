-- What an accepted product, re-signed inverse, converse, recipe, submatrix or Schur complement promises (`Promised`): demand 3 of the operation on the sources
-- as the call found them, with the bound that is returned and the factors that are stored, the same in plain words, and that the steps returned are those made
-- and those foretold. What an accepted build promises of its stamps (`BuildPromised`).
use Rattle.std.specs.Prelude.{◌≡◌, List, ℕ, ◌*◌, length, Result, Ok, Err}
use Rattle.number.specs.declared.Number.{Number}
use Rattle.number.specs.Number.{rounded, value}
use Rattle.fraction.specs.Fraction.{exact}
use Rattle.fraction.specs.Within.{Close}
use Rattle.words.specs.RowSet.{In}
use Rattle.words.specs.Word.{Factors}
use Rattle.words.specs.Operation.{Operation, steps, size, bound, result}
use Rattle.words.specs.Effort.{steps_made, steps_foretold}
use Rattle.factors.specs.Demand.{exactly, Demand}
use Rattle.stamps.specs.Stamps.{built_factors, stamp_bound, Stamped}
use Rattle.places.specs.declared.Shelf.{Shelf}
use Rattle.places.specs.Shelf.{rows_at, factors_at}
use Rattle.verdict.specs.declared.Refusal.{Refusal}
use Rattle.operations.specs.declared.Performed.{Performed}

-- place t of the shelf holds n rows with the factors b
pub record Holds (s : Shelf) (t n : ℕ) (b : Factors Number) : Type 0 where
  pub rows : rows_at s t ≡ n
  pub factors : (i j : ℕ) → In n i → In n j → factors_at s t i j ≡ b i j

-- each factor differs from the exact one by at most 7 parts in 60 million of it for each source: seven tenths of a millionth for six
abbrev pub CloseFactors : ℕ → Operation Number → Type 0
CloseFactors n o =
    (i j : ℕ) → In (size n o) i → In (size n o) j
    → Close (7 * length (steps o)) 60000000 (value (result rounded n o i j)) (result exact n (exactly o) i j)

-- place t of the shelf holds the result of the operation o on sources of n rows, k is the bound, and e the steps that were made, which are those foretold
pub record Met (s : Shelf) (t n : ℕ) (o : Operation Number) (k e : ℕ) : Type 0 where
  pub bound-is : k ≡ bound n o
  pub steps-are : e ≡ steps_made rounded n o
  pub foretold : e ≡ steps_foretold n o
  pub held : Holds s t (size n o) (result rounded n o)
  pub demand : Demand n o
  pub close : CloseFactors n o

-- what an answer promises: of a bound and steps, P of the shelf and of them; of a refusal nothing
abbrev pub PromisedBy : (Shelf → ℕ → ℕ → Type 0) → Shelf → Result Performed Refusal → Type 0
PromisedBy P s (Ok x) = P s x.bound x.steps
PromisedBy P s (Err w) = Unit {0}

abbrev pub Promised : Shelf → ℕ → ℕ → Operation Number → Result Performed Refusal → Type 0
Promised s t n o = PromisedBy (λ s k e. Met s t n o k e) s

-- place t of the shelf holds the factors of the stamps, as many rows as there are stamps, and k is the bound
pub record Built (s : Shelf) (t : ℕ) (stamps : List ℕ) (k : ℕ) : Type 0 where
  pub bound-is : k ≡ stamp_bound
  pub held : Holds s t (length stamps) (built_factors stamps)
  pub stamped : Stamped stamps

abbrev pub BuildPromised : Shelf → ℕ → List ℕ → Result ℕ Refusal → Type 0
BuildPromised s t stamps (Ok k) = Built s t stamps k
BuildPromised s t stamps (Err w) = Unit {0}
