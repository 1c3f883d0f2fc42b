-- What a run of the rule hands back (work_of); the steps of one cell of its table (cell_steps).
use Rattle.std.specs.Prelude.{cond, ◌&&◌, List, ℕ, ◌+◌, ◌/◌, ◌%◌, leb}
use Rattle.words.specs.Operation.{bound_of}
use Rattle.words.specs.Effort.{quotient_steps, result_steps}
use Rattle.table.specs.Table.{table_of}
use Rattle.rule.specs.declared.Chosen.{Chosen}
use Rattle.rule.specs.declared.Refactored.{Refactored}
use Rattle.rule.specs.Chosen.{size_of, chosen_factors, chosen_steps}

-- the steps at t of the new factors in rows of eight, a minor of p rows taking w p: none past their k rows and columns
abbrev pub cell_steps : ℕ → (ℕ → ℕ) → ℕ → ℕ
cell_steps k w t = cond (leb (t / 8 + 1) k && leb (t % 8 + 1) k) (quotient_steps w (t / 8 + 1) (t % 8 + 1)) 0

-- THE RULE RUN on a joined word with the factors f: the new factors of its chosen rows and columns, how many rows they have, their bound, and the steps of
-- their minors
abbrev pub work_of : Chosen → List ℕ → Refactored
work_of c f = record {
  factors = table_of (size_of c) (chosen_factors c f);
  rows = size_of c;
  bound = bound_of c.word.count c.word.n;
  steps = result_steps (chosen_steps c f) (size_of c);
}
