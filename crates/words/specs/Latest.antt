-- The latest of the row sets that pass a test, comparing largest rows first (document 02, (e)).
use Rattle.std.specs.Prelude.{Bool, true, false, cond, ◌||◌, [], ◌∷◌, ℕ, zero, suc}
use Rattle.words.specs.RowSet.{RowSet}

-- one of the sets of n rows passes
unfoldable pub some : ℕ → (RowSet → Bool) → Bool
some zero t = t []
some (suc n) t = some n (λ S. t (true ∷ S)) || some n (λ S. t (false ∷ S))

-- the latest that does: its highest row is in where one that passes has that row, and so on downwards
unfoldable pub latest : ℕ → (RowSet → Bool) → RowSet
latest zero t = []
latest (suc n) t = cond (some n (λ S. t (true ∷ S))) (true ∷ latest n (λ S. t (true ∷ S))) (false ∷ latest n (λ S. t (false ∷ S)))
