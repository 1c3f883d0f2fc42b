-- Presence as the code holds it: 256 Bools, each at the mask of its set (state_of). What the walks start from (Starts) and tell in the end (Tells), and what
-- the search finds in that (latest_held).
use Rattle.std.specs.Prelude.{◌≡◌, Bool, true, false, ◌&&◌, List, ℕ, ◌-◌, ◌≤◌, ◌<◌, eqb, get_or, length}
use Rattle.number.specs.declared.Number.{Number}
use Rattle.rowset.specs.Mask.{mask_of, mask_count, mask_run, mask_among, mask_with_first}
use Rattle.words.specs.RowSet.{RowSet, count, all_before, among, rows}
use Rattle.words.specs.Latest.{latest}
use Rattle.words.specs.Word.{Letter, D, Word}
use Rattle.words.specs.Operation as words
use Rattle.words.specs.Operation.{step_word}
use Rattle.walk.specs.Steps.{step_of}
use Rattle.walk.specs.declared.Way.{Way}
use Rattle.presence.specs.Presence.{nonzero}

unfoldable pub held_at : List Bool → ℕ → Bool
held_at v s = get_or v s false

abbrev pub state_of : List Bool → RowSet → Bool
state_of v S = held_at v (mask_of S)

-- states that agree on the sets of n rows
pub record Agree (n : ℕ) (ω η : RowSet → Bool) : Type 0 where
  pub same : (S : RowSet) → length S ≡ n → ω S ≡ η S

-- the word of a step in Bools, and its letter number t, counted from 0
abbrev pub present_word : ℕ → Way → List Number → Word Bool
present_word n way b = step_word n (words.each_step nonzero (step_of way b))

unfoldable pub present_letter : ℕ → Way → List Number → ℕ → Letter Bool
present_letter n way b t = get_or (present_word n way b) t (D (λ i. true))

-- v has the leading ones of the chosen rows p, a set for each count
pub record Starts (p : ℕ) (v : List Bool) : Type 0 where
  pub size : length v ≡ 256
  pub start : (s : ℕ) → s < 256 → mask_count s ≤ mask_count p → held_at v s ≡ eqb (mask_among p (mask_run 1 (mask_count s))) s

-- of the chosen rows P the first c
abbrev pub leading : RowSet → ℕ → RowSet
leading P c = among P (rows (count P) 1 c)

-- v tells of each set of n rows, at most as many as are chosen, whether its minor with the leading ones of the chosen is other than zero
pub record Tells (n : ℕ) (M : RowSet → RowSet → Number) (P : RowSet) (v : List Bool) : Type 0 where
  pub told : (S : RowSet) → length S ≡ n → count S ≤ count P → held_at v (mask_of S) ≡ nonzero (M S (leading P (count S)))

-- of the sets that count among the chosen rows p but the first k of these, the latest of c rows, all before row i, that v has with these k joined
abbrev pub latest_held : List Bool → ℕ → ℕ → ℕ → ℕ → RowSet
latest_held v p k i c = latest (mask_count p - k) (λ S. all_before i S && (eqb (count S) c && held_at v (mask_among p (mask_with_first k (mask_of S)))))
