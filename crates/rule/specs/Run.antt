-- What a run of the rule asks for: how many rows there are (run_size), minors, turned or not (run_minors), their steps (run_steps), the new factors
-- (run_factors).
use Rattle.std.specs.Prelude.{Bool, ℕ}
use Rattle.number.specs.declared.Number.{Number}
use Rattle.words.specs.RowSet.{RowSet}
use Rattle.words.specs.Word.{Factors}
use Rattle.rule.specs.Chosen.{size_of, chosen_minor, chosen_steps, chosen_factors, turned_by}
use Rattle.rule.specs.declared.formulas.Run.{Run}

-- how many rows are chosen and not clamped
abbrev pub run_size : Run → ℕ
run_size r = size_of r.chosen

-- the minors at sets that count among the chosen ones behind the clamped; turned, with row sets and column sets exchanged
abbrev pub run_minors : Run → Bool → RowSet → RowSet → Number
run_minors r turned = turned_by turned (chosen_minor r.chosen r.sources.now)

-- the steps of a minor of so many rows
abbrev pub run_steps : Run → ℕ → ℕ
run_steps r = chosen_steps r.chosen r.sources.now

-- the new factors
abbrev pub run_factors : Run → Factors Number
run_factors r = chosen_factors r.chosen r.sources.now
