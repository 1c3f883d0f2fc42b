-- The tests of the calls on a shelf (document 01, "Turned down for the input", "Turned down for the state"; document 02): the conditions on places, by the
-- rows that each holds, and on row and column sets.
use Rattle.std.specs.Prelude.{ℕ, Bool, not, ◌||◌, List, [], ◌∷◌, eqb}
use Rattle.rowset.specs.Mask.{mask_count, mask_beyond}
use Rattle.verdict.specs.Verdict.{Verdict}
use Rattle.conditions.specs.Conditions.{target_alone, sources_alone, sources_to}
use Rattle.places.specs.declared.Shelf.{Shelf}
use Rattle.places.specs.Shelf.{rows_at}

-- a source alone
abbrev pub source_tests : Shelf → ℕ → List Verdict
source_tests s p = sources_alone (rows_at s) (p ∷ [])

-- a target alone
abbrev pub target_tests : Shelf → ℕ → List Verdict
target_tests s t = target_alone (rows_at s) t

-- one source and a target
abbrev pub one_source : Shelf → ℕ → ℕ → List Verdict
one_source s p t = sources_to (rows_at s) (p ∷ []) t

-- two sources alone
abbrev pub both_sources : Shelf → ℕ → ℕ → List Verdict
both_sources s l r = sources_alone (rows_at s) (l ∷ r ∷ [])

-- two sources and a target
abbrev pub two_sources : Shelf → ℕ → ℕ → ℕ → List Verdict
two_sources s l r t = sources_to (rows_at s) (l ∷ r ∷ []) t

-- 8: sets of unequal count, empty, or beyond n
abbrev pub unfit : ℕ → ℕ → ℕ → Bool
unfit n I J = not (eqb (mask_count I) (mask_count J)) || ((eqb I 0 || eqb J 0) || (mask_beyond n I || mask_beyond n J))
