-- DETERMINANTS over a ring, by expansion along the highest column: each entry in the chosen rows, the highest row first and with alternating signs, times the
-- determinant that is left without its row and column.
use Rattle.std.specs.Prelude.{true, false, List, [], ◌∷◌, ℕ, suc, length}
use Rattle.fraction.specs.Ring.{CRing}
use Rattle.words.specs.RowSet.{RowSet}
use Rattle.minors.specs.Matrix.{Matrix}

module _ (K : CRing) where
  open K use {R, 𝟘, 𝟙, add, mul, neg}

  -- a column v 1, v 2, .. put to a form on row sets: over the rows of the set, the highest first, its entry times the form at the set without that row
  unfoldable pub wedge : (ℕ → R) → (RowSet → R) → RowSet → R
  wedge v ω [] = 𝟘
  wedge v ω (true ∷ S) = add (mul (v (suc (length S))) (ω (false ∷ S))) (neg (wedge v (λ T. ω (true ∷ T)) S))
  wedge v ω (false ∷ S) = wedge v (λ T. ω (false ∷ T)) S

  -- 1 at the empty set
  unfoldable pub empty : RowSet → R
  empty [] = 𝟙
  empty (true ∷ S) = 𝟘
  empty (false ∷ S) = empty S

  -- the determinant of the columns, the highest first, at the rows S
  unfoldable pub wedges : List (ℕ → R) → RowSet → R
  wedges [] = empty
  wedges (v ∷ vs) = wedge v (wedges vs)

  -- the columns of M at J, the highest first
  unfoldable pub columns : Matrix K → RowSet → List (ℕ → R)
  columns M [] = []
  columns M (true ∷ J) = (λ i. M i (suc (length J))) ∷ columns M J
  columns M (false ∷ J) = columns M J

  -- the minor of a matrix with the rows I and the columns J; with all of them it is the matrix's determinant
  unfoldable pub determinant : Matrix K → RowSet → RowSet → R
  determinant M I J = wedges (columns M J) I
