-- `run` meets its contract: the rows up to b without those below a.
use borrow.Author.Rules.{rules}
use Rattle.rowset.proofs.Counts.{run-below}
use Rattle.rowset.proofs.Shifts.{shift_le, shift-run, run_none}
use Rattle.rowset.proofs.run.Goals as goal

pub overflow_sub-result-else-b-a : goal.overflow_sub-result-else-b-a
overflow_sub-result-else-b-a c = shift_le c.args.a c.args.b (search rules) (search rules)

pub returns-then-b-a : goal.returns-then-b-a
returns-then-b-a c = record { value = run_none c.args.a c.args.b (search rules); upper_bound = search rules }

pub returns-else-b-a : goal.returns-else-b-a
returns-else-b-a c =
    let a = c.args in
    let e = shift-run a.a a.b (search rules) (search rules) in
    record { value = e; upper_bound = rw e (run-below 8 a.a a.b (search rules)) }
