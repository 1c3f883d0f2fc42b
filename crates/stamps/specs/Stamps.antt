-- Weights from time stamps (document 02, request (a)) as they are stored: which stamps are turned down (`mistimed`), the factors by the rounded rule
-- (`built_factors`) and their bound, and what is promised of them (`Stamped`).
use Rattle.std.specs.Prelude.{Bool, false, ◌||◌, List, [], ◌∷◌, ℕ, ◌-◌, ◌^◌, ◌≤◌, ◌<◌, eqb, leb, ltb, length}
use Rattle.fraction.specs.Within.{Within}
use Rattle.number.specs.declared.Number.{Number}
use Rattle.number.specs.Number.{rounded, natural_number, value, Stored}
use Rattle.words.specs.RowSet.{In}
use Rattle.words.specs.Word.{Factors}
use Rattle.words.specs.Sources.{Each}
use Rattle.powers.specs.Stamps.{stamp_at, Rising, factors_of_stamps, exact_factors, StampsFactored}

-- some stamp has the property f
unfoldable pub some_stamp : (ℕ → Bool) → List ℕ → Bool
some_stamp f [] = false
some_stamp f (t ∷ L) = f t || some_stamp f L

-- a stamp does not exceed the one before it
unfoldable pub not_increasing : List ℕ → Bool
not_increasing [] = false
not_increasing (t ∷ []) = false
not_increasing (t ∷ u ∷ L) = leb u t || not_increasing (u ∷ L)

-- 15: A STAMP is zero, is 2 ^ 32 or more, or does not exceed the one before it, or their count is not 1 to 8
unfoldable pub mistimed : List ℕ → Bool
mistimed L = some_stamp (λ t. eqb t 0) L || (some_stamp (λ t. leb (2 ^ 32) t) L || (not_increasing L || (ltb (length L) 1 || ltb 8 (length L))))

-- what stamps are that are not turned down
pub record Timed (L : List ℕ) : Type 0 where
  pub some : 1 ≤ length L
  pub few : length L ≤ 8
  pub below : (i : ℕ) → In (length L) i → stamp_at L i < 2 ^ 32
  pub rising : Rising L

-- THE FACTORS by the rounded rule: stamps and their differences are exact, each product is rounded, and then the quotient
abbrev pub built_factors : List ℕ → Factors Number
built_factors L = factors_of_stamps rounded natural_number L

-- s(i) - s(k) as a number
abbrev pub less_number : List ℕ → ℕ → ℕ → Number
less_number L i k = natural_number (stamp_at L i - stamp_at L k)

-- the bound that is returned
abbrev pub stamp_bound : ℕ
stamp_bound = 11

-- EACH FACTOR can be stored, its exponent being in range and none being zero, and is within the bound of the exact one; the exact ones are the only accepted
-- ones that multiply out to the matrix of powers.
pub record Stamped (L : List ℕ) : Type 0 where
  pub stored : Each Stored (length L) (built_factors L)
  pub within : (i j : ℕ) → In (length L) i → In (length L) j → Within stamp_bound (value (built_factors L i j)) (exact_factors L i j)
  pub factored : StampsFactored L
