-- A joined word with chosen rows and columns, the first of them clamped, as the code holds it: the minors that the formulas ask for (chosen_minor), their steps
-- (chosen_steps), and the new factors (chosen_factors). When the rule can be run (Workable): no divisor of the formulas is zero. What a run of it is lent
-- (Lent).
use Rattle.std.specs.Prelude.{◌≡◌, Bool, List, ℕ, ◌+◌, ◌-◌, ◌^◌, ◌≤◌, ◌<◌}
use Rattle.number.specs.Number.{rounded}
use Rattle.number.specs.declared.Number.{Number}
use Rattle.rowset.specs.Mask.{mask_count}
use Rattle.words.specs.RowSet.{RowSet, among, of_mask, with_first}
use Rattle.words.specs.Word.{Factors}
use Rattle.words.specs.Walk.{minor}
use Rattle.words.specs.Formula.{new_factor, Divisible}
use Rattle.words.specs.Operation.{joined_word}
use Rattle.words.specs.Sources.{Walkable, Sources}
use Rattle.words.specs.Effort.{walk_steps}
use Rattle.rowset.specs.Sets.{Tables}
use Rattle.walk.specs.declared.Joined.{Joined}
use Rattle.walk.specs.Lent.{steps_of, AllSpelled}
pub use Rattle.presence.specs.Presence.{turned_by}
use Rattle.rule.specs.declared.Chosen.{Chosen}

abbrev pub chosen_of : Joined → ℕ → ℕ → ℕ → Chosen
chosen_of w p q k = record { word = w; rows = p; columns = q; clamped = k }

-- how many rows are chosen and not clamped
abbrev pub size_of : Chosen → ℕ
size_of c = mask_count c.rows - c.clamped

abbrev pub chosen_rows : Chosen → RowSet
chosen_rows c = of_mask c.word.n c.rows

abbrev pub chosen_columns : Chosen → RowSet
chosen_columns c = of_mask c.word.n c.columns

-- the minor at sets that count among the chosen rows and columns behind the clamped ones, these joined to both sets, the word's factors being f
unfoldable pub chosen_minor : Chosen → List ℕ → RowSet → RowSet → Number
chosen_minor c f I J = minor rounded (joined_word c.word.n (steps_of c.word f)) (among (chosen_rows c) (with_first c.clamped I))
    (among (chosen_columns c) (with_first c.clamped J))

-- the steps of a minor of p rows behind the clamped ones: the walk is over the whole joined word
unfoldable pub chosen_steps : Chosen → List ℕ → ℕ → ℕ
chosen_steps c f p = walk_steps c.word.n (c.clamped + p) (joined_word c.word.n (steps_of c.word f))

-- the new factors
abbrev pub chosen_factors : Chosen → List ℕ → Factors Number
chosen_factors c f = new_factor rounded (size_of c) (chosen_minor c f)

pub record Workable (c : Chosen) (f : List ℕ) : Type 0 where
  pub some : 1 ≤ c.word.n
  pub few : c.word.n ≤ 8
  pub six : c.word.count ≤ 6
  pub rows : c.rows < 2 ^ c.word.n
  pub columns : c.columns < 2 ^ c.word.n
  pub equal : mask_count c.rows ≡ mask_count c.columns
  pub held : c.clamped ≤ mask_count c.rows
  pub walkable : Sources (Walkable c.word.n) (steps_of c.word f)
  pub divisible : (turned : Bool) → Divisible rounded (size_of c) (turned_by turned (chosen_minor c f))

-- the tables and the letters that a run of the rule is lent
pub record Lent (c : Chosen) (t l : List ℕ) : Type 0 where
  pub tables : Tables c.word.n t
  pub letters : AllSpelled c.word l
