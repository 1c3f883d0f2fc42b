-- THE CONDITIONS ON PLACES that turn a call down, with their numbers, and the order of their tests (document 01, "Turned down for the state"; document 02,
-- (f), (l)). Of a shelf they ask only for the rows at each place, 0 where it is empty.
use Rattle.std.specs.Prelude.{ℕ, Bool, false, not, ◌||◌, List, [], ◌∷◌, ◌++◌, ltb, leb, eqb}
use Rattle.verdict.specs.declared.Reason.{Reason}
use Rattle.verdict.specs.declared.Reason.TheVariants.{NoSuchPlace, WrongChoice, SourceEmpty, TargetFull, SizesDiffer, WrongStepCount}
use Rattle.verdict.specs.Verdict.{Verdict, when}

-- 18: the count of steps is not 2 to 6
abbrev pub miscounted : ℕ → Bool
miscounted m = ltb m 2 || ltb 6 m

-- 8: of n rows none is clamped, or none is left
abbrev pub misclamped : ℕ → ℕ → Bool
misclamped n k = eqb k 0 || leb n k

-- 1: place above 7
abbrev pub above : ℕ → Bool
above p = ltb 7 p

-- the same test of each of some places, in their order
abbrev pub each_tested : (ℕ → Bool) → Reason → List ℕ → List Verdict
each_tested f k [] = []
each_tested f k (p ∷ L) = when (f p) k ∷ each_tested f k L

-- whether any of them has it
abbrev pub any_of : (ℕ → Bool) → List ℕ → Bool
any_of f [] = false
any_of f (p ∷ L) = f p || any_of f L

module _ (rows : ℕ → ℕ) where
  -- 11: source place empty
  abbrev pub empty : ℕ → Bool
  empty p = eqb (rows p) 0

  -- 12: target place holds a matrix
  abbrev pub full : ℕ → Bool
  full p = not (empty p)

  -- 13: sizes differ
  abbrev pub differ : ℕ → ℕ → Bool
  differ l r = not (eqb (rows l) (rows r))

  -- 13 of some sources: each that follows the first is compared with it
  abbrev pub alike_tests : List ℕ → List Verdict
  alike_tests [] = []
  alike_tests (p ∷ L) = each_tested (differ p) SizesDiffer L

  -- A TARGET alone
  abbrev pub target_alone : ℕ → List Verdict
  target_alone t = when (above t) NoSuchPlace ∷ when (full t) TargetFull ∷ []

  -- SOURCES alone, in the order given, a place once for each time it is used
  abbrev pub sources_alone : List ℕ → List Verdict
  sources_alone L = each_tested above NoSuchPlace L ++ (each_tested empty SourceEmpty L ++ alike_tests L)

  -- SOURCES AND A TARGET: 1 of the sources, then of the target, and 12 behind 11
  abbrev pub sources_to : List ℕ → ℕ → List Verdict
  sources_to L t = each_tested above NoSuchPlace L ++ (when (above t) NoSuchPlace ∷ (each_tested empty SourceEmpty L ++ (when (full t) TargetFull ∷ alike_tests L)))

  -- A CHOICE among the rows of one source, wrong or not, and a target; and without one: 8 behind the places
  abbrev pub choice_to : ℕ → Bool → ℕ → List Verdict
  choice_to p wrong t = sources_to (p ∷ []) t ++ (when wrong WrongChoice ∷ [])

  abbrev pub choice_alone : ℕ → Bool → List Verdict
  choice_alone p wrong = sources_alone (p ∷ []) ++ (when wrong WrongChoice ∷ [])

  -- A RECIPE of m steps, and without its target: the count is tested first of all
  abbrev pub recipe_to : ℕ → List ℕ → ℕ → List Verdict
  recipe_to m L t = when (miscounted m) WrongStepCount ∷ sources_to L t

  abbrev pub recipe_alone : ℕ → List ℕ → List Verdict
  recipe_alone m L = when (miscounted m) WrongStepCount ∷ sources_alone L
