-- EVERYTHING ACCEPTED BEFORE zeros were GIVES ITS OLD RESULT (document 02, (e)), as calls: document 01's operations by its own tests and formulas
-- (`old_product`, ..), and that on places without zeros the calls leave and return exactly what these do, refused ones included, but for the steps that they
-- return now beside the bound (`CallsBefore`). The other calls have no test and no formula that zeros brought in.
use Rattle.std.specs.Prelude.{ℕ, ◌≡◌, List, [], ◌∷◌, ◌++◌, pos, take}
use Rattle.number.specs.declared.Number.{Number}
use Rattle.number.specs.Number.{rounded, Stored}
use Rattle.words.specs.Word.{Factors}
use Rattle.words.specs.Formula.{old_factor}
use Rattle.words.specs.Operation.{Operation, size, bound, row_by_row, asked_minor}
use Rattle.words.specs.Sources.{Each}
use Rattle.table.specs.Table.{outside}
use Rattle.verdict.specs.declared.Reason.TheVariants.{ExponentOutOfRange}
use Rattle.verdict.specs.Verdict.{Verdict, first_of, when}
use Rattle.verdict.specs.Report.{Report, accepted, refused}
use Rattle.places.specs.declared.Shelf.{Shelf}
use Rattle.places.specs.Shelf.{rows_at, factors_at}
use Rattle.places.specs.Outcome.{Outcome, outcome}
use Rattle.places.specs.Tests.{one_source, two_sources}
use Rattle.operations.specs.Operations.{resulting, product_at, inverse_at, converse_at, submatrix_at, chosen_tests}
use Rattle.operations.specs.Operations.{product_call, inverse_call, converse_call, submatrix_call}

-- no factor of place p is zero: each is a stored number. A place that is empty or above 7 has none; one that document 01's load filled is such a place (crate
-- shelf, `old-load-without-zeros`)
abbrev pub WithoutZeros : Shelf → ℕ → Type 0
WithoutZeros s p = Each Stored (rows_at s p) (factors_at s p)

-- document 01's new factors: its formulas on the minors that are asked for
abbrev pub old_factors : ℕ → Operation Number → Factors Number
old_factors n o = old_factor rounded (size n o) (asked_minor rounded n o)

-- document 01's call, behind the tests L: 14 where such a factor has an exponent outside -1000 to 1000, else the factors to place t, and their bound
abbrev pub old_call : Shelf → List Verdict → ℕ → ℕ → Operation Number → Outcome
old_call s L t n o =
    resulting s t (first_of (L ++ (when (outside (row_by_row (size n o) (old_factors n o))) ExponentOutOfRange ∷ []))) (size n o) (pos (bound n o) ∷ [])
    (old_factors n o)

-- DOCUMENT 01'S OPERATIONS: product with the tests 1, 11, 12, 13; re-signed inverse and converse with 1, 11, 12; submatrix with 1, 11, 12, 8; then 14
abbrev pub old_product : Shelf → ℕ → ℕ → ℕ → Outcome
old_product s l r t = old_call s (two_sources s l r t) t (rows_at s l) (product_at s l r)

abbrev pub old_inverse : Shelf → ℕ → ℕ → Outcome
old_inverse s p t = old_call s (one_source s p t) t (rows_at s p) (inverse_at s p)

abbrev pub old_converse : Shelf → ℕ → ℕ → Outcome
old_converse s p t = old_call s (one_source s p t) t (rows_at s p) (converse_at s p)

abbrev pub old_submatrix : Shelf → ℕ → ℕ → ℕ → ℕ → Outcome
old_submatrix s p I J t = old_call s (chosen_tests s p I J t) t (rows_at s p) (submatrix_at s p I J)

-- what a call does, with its bound alone
abbrev pub bound_alone : Report → Report
bound_alone (accepted values) = accepted (take 1 values)
bound_alone (refused k o) = refused k o

abbrev pub without_steps : Outcome → Outcome
without_steps x = outcome x.shelf (bound_alone x.report)

-- THE OLD RESULT of each, accepted or refused
pub record CallsBefore (s : Shelf) : Type 0 where
  pub product-before : (l r t : ℕ) → WithoutZeros s l → WithoutZeros s r → without_steps (product_call s l r t) ≡ old_product s l r t
  pub inverse-before : (p t : ℕ) → WithoutZeros s p → without_steps (inverse_call s p t) ≡ old_inverse s p t
  pub converse-before : (p t : ℕ) → WithoutZeros s p → without_steps (converse_call s p t) ≡ old_converse s p t
  pub submatrix-before : (p I J t : ℕ) → WithoutZeros s p → without_steps (submatrix_call s p I J t) ≡ old_submatrix s p I J t
