-- `Run::refactored` meets its contract. The invariant: the first t numbers of the table, and their steps.
use borrow.Author.Rules.{rules}
use mathlib.Core.Path.{◌≡◌, refl, ◌∙◌}
use native.Mathlib.Omega.{arith}
use Rattle.arrays.proofs.Filled.{filled_none, filled_more}
use Rattle.number.specs.Number.{zero_number}
use Rattle.table.specs.Table.{table_of}
use Rattle.table.proofs.Table.{table_filled}
use Rattle.words.specs.Effort.{sum_over, result_steps}
use Rattle.rule.specs.Run.{run_size, run_factors, run_steps}
use Rattle.rule.proofs.Asked.{size_few}
use Rattle.rule.proofs.Cells.{cells_steps, cells-more, cells-all}
use Rattle.rule.proofs.formulas.Run.refactored.Goals as goal

pub loop-t-init : goal.loop-t-init
unfolding cells_steps sum_over
loop-t-init c = record { filled = filled_none zero_number _ 64 _ (search rules); made = refl; few = omega arith }

pub loop-t-preserved : goal.loop-t-preserved
loop-t-preserved c =
    let i = c.loop-t.invariant in
    let x = c.cell-x.ensures in
    record {
      filled = filled_more zero_number _ 64 i.filled (search rules) _ x.number_value;
      made = cells-more _ _ c.loop-t.t _ _ i.made x.steps_value.0;
      few = omega (arith, i.few, x.steps_value.1);
    }

pub returns : goal.returns
returns c =
    let r = c.args.self.now in
    let i = c.loop-t.invariant in
    let all : c.loop-t.t ≡ 64 = omega (arith, i.filled.few) in
    let factors : c.loop-t.number-items ≡ table_of (run_size r) (run_factors r) = table_filled _ _ i.filled (omega arith) in
    let steps : c.loop-t.steps ≡ result_steps (run_steps r) (run_size r) = rw all at i.made ∙ cells-all _ _ (size_few r.chosen r.workable) in
    cc (factors, steps, r.size_value, c.of_steps.ensures)
