-- The shelf (document 01, "Shelf calls"): places 0 to 7, each empty or holding a matrix. What a place holds (`rows_at`, `factors_at`), a matrix put at a place
-- (`holding`), a place emptied (`without`), and what holds of every shelf that a call hands back (`Good`, by `Fits` of each place). An empty place holds no
-- rows.
use Rattle.std.specs.Prelude.{ℕ, ◌*◌, ◌≤◌, ◌<◌, ◌≡◌, List, length, get_or, take, drop, set, replicate}
use Rattle.std.proofs.lemmas.List.Edits.{sets}
use Rattle.number.specs.declared.Number.{Number}
use Rattle.number.specs.Number.{zero_number}
use Rattle.words.specs.Word.{Factors}
use Rattle.words.specs.Sources.{BandedNumbers}
use Rattle.places.specs.declared.Shelf.{Shelf}
use Rattle.table.specs.Table.{factors_of, table_of}

unfoldable pub rows_at : Shelf → ℕ → ℕ
rows_at s p = get_or s.sizes p 0

unfoldable pub table_at : Shelf → ℕ → List Number
table_at s p = take 64 (drop (p * 64) s.numbers)

abbrev pub factors_at : Shelf → ℕ → Factors Number
factors_at s p = factors_of (table_at s p)

-- the table of a matrix of n rows put at place p
unfoldable pub with_table : Shelf → ℕ → ℕ → List Number → Shelf
with_table s p n t = record { numbers = sets s.numbers (p * 64) t; sizes = set s.sizes p n }

-- the matrix of n rows with factors b put at place p
abbrev pub holding : Shelf → ℕ → ℕ → Factors Number → Shelf
holding s p n b = with_table s p n (table_of n b)

-- place p emptied
abbrev pub without : Shelf → ℕ → Shelf
without s p = holding s p 0 (λ i j. zero_number)

-- all places empty
unfoldable pub empty_shelf : Shelf
empty_shelf = record { numbers = replicate 512 zero_number; sizes = replicate 8 0 }

-- what a place can hold: at most eight rows, their factors accepted (stored, or zero in the pattern), every other number zero
pub record Fits (n : ℕ) (t : List Number) : Type 0 where
  pub few : n ≤ 8
  pub banded : BandedNumbers n (factors_of t)
  pub rest : t ≡ table_of n (factors_of t)

-- eight places, and each holds what fits
pub record Good (s : Shelf) : Type 0 where
  pub places : length s.sizes ≡ 8
  pub numbers : length s.numbers ≡ 512
  pub held : (p : ℕ) → p < 8 → Fits (rows_at s p) (table_at s p)
