-- The invariant of `Run::refactored`: the first t numbers of the table, and their steps.
use mathlib.Core.Path.{◌≡◌}
use Prim.Native.Nat.{◌*◌, ◌≤◌}
use Rattle.arrays.proofs.Filled.{Filled}
use Rattle.number.specs.Number.{zero_number}
use Rattle.table.specs.Table.{cell_at}
use Rattle.rule.specs.Run.{run_size, run_factors, run_steps}
use Rattle.rule.proofs.Cells.{cells_steps}
use Rattle.rule.proofs.formulas.Run.refactored.Given as goal

abbrev pub invariant-loop-t : goal.invariant-loop-t
invariant-loop-t l = record {
  filled : Filled zero_number (cell_at (run_size l.self) (run_factors l.self)) 64 l.t l.number-items;
  made : l.steps ≡ cells_steps (run_size l.self) (run_steps l.self) l.t;
  few : l.steps ≤ 96000 * l.t;
}
