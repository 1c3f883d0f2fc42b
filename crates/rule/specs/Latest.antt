-- R as the code finds it: which sets have minors that are not zero (Sides), the mask of R (LatestMask), and the two minors of a factor that have R in them
-- (alone_of, with_row).
use Rattle.std.specs.Prelude.{◌≡◌, Bool, true, false, List, ℕ, ◌-◌, ◌^◌, ◌<◌}
use Rattle.number.specs.Number.{rounded}
use Rattle.number.specs.declared.Number.{Number}
use Rattle.rowset.specs.Mask.{mask_count}
use Rattle.words.specs.RowSet.{RowSet, put, rows, of_mask}
use Rattle.words.specs.Walk.{minor}
use Rattle.words.specs.Formula.{latest_before}
use Rattle.words.specs.Operation.{joined_word}
use Rattle.walk.specs.Lent.{steps_of}
use Rattle.presence.specs.Held.{Tells}
use Rattle.rule.specs.declared.Chosen.{Chosen}
use Rattle.rule.specs.Chosen.{chosen_rows, chosen_columns}

-- v has the sets of rows whose minors with the leading columns are not zero; turned, the sets of columns whose minors with the leading rows are not
abbrev pub Sides : Chosen → List ℕ → Bool → List Bool → Type 0
Sides c f true v = Tells c.word.n (λ I J. minor rounded (joined_word c.word.n (steps_of c.word f)) J I) (chosen_rows c) v
Sides c f false v = Tells c.word.n (minor rounded (joined_word c.word.n (steps_of c.word f))) (chosen_columns c) v

module _ (k : ℕ) (M : RowSet → RowSet → Number) (i j : ℕ) where
  -- s is the mask of R
  pub record LatestMask (s : ℕ) : Type 0 where
    pub set : of_mask k s ≡ latest_before rounded k M i j
    pub below : s < 2 ^ (i - 1)
    pub rows : mask_count s ≡ j - 1

  -- M(R | 1..j-1), and M(R and i | 1..j)
  abbrev pub alone_of : Number
  alone_of = M (latest_before rounded k M i j) (rows k 1 (j - 1))

  abbrev pub with_row : Number
  with_row = M (put i true (latest_before rounded k M i j)) (rows k 1 j)
