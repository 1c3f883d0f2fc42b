-- `Run::minor` meets its contract: at the two sets in the order asked for, the clamped rows joined to both.
use borrow.Author.Rules.{rules}
use mathlib.Core.Path.{◌≡◌, ap, ◌∙◌}
use Prim.Native.Nat.{ℕ, ◌+◌, ◌^◌, ◌≤◌}
use native.Mathlib.Omega.{arith}
use lib.Pow.{pow_mono}
use Rattle.rowset.specs.Mask.{mask_among, mask_with_first}
use Rattle.words.specs.Effort.{walk_steps}
use Rattle.words.specs.Operation.{joined_word}
use Rattle.walk.specs.Lent.{steps_of}
use Rattle.rule.specs.Chosen.{size_of, chosen_minor, chosen_steps}
use Rattle.rule.proofs.Asked.{InOrder, in-order, size_few, clamped-few, asked-ready, asked-answer, asked-rows}
use Rattle.rule.proofs.formulas.Run.minor.Goals as goal
use Rattle.rule.proofs.formulas.Run.minor.Goals.{After-in_order-s, After-among-columns, After-minor}

ordered : (c : After-in_order-s) → let a = c.args in let r = a.self.now in
    InOrder a.turned (size_of r.chosen) (chosen_minor r.chosen r.sources.now) a.i a.j c.in_order-s.result.0 c.in_order-s.result.1
ordered c =
    let a = c.args in
    let r = a.self.now in
    in-order a.turned (size_of r.chosen) (chosen_minor r.chosen r.sources.now) a.i a.j (search rules) (search rules) (search rules) c.in_order-s.result
    c.in_order-s.ensures

-- these are masks
pub with_first-requires : goal.with_first-requires
with_first-requires c =
    let r = c.args.self.now in
    let h : 2 ^ size_of r.chosen ≤ 2 ^ 8 = pow_mono (size_few r.chosen r.workable) in
    (omega (arith, (ordered (goal.at.with_first-requires c).After-in_order-s).row-set), clamped-few r.chosen r.workable)

pub with_first-requires-2 : goal.with_first-requires-2
with_first-requires-2 c =
    let r = c.args.self.now in
    let h : 2 ^ size_of r.chosen ≤ 2 ^ 8 = pow_mono (size_few r.chosen r.workable) in
    (omega (arith, (ordered (goal.at.with_first-requires-2 c).After-in_order-s).column-set), clamped-few r.chosen r.workable)

row-set : (c : After-among-columns) → let r = c.args.self.now in
    c.among-rows.result ≡ mask_among r.chosen.rows (mask_with_first r.chosen.clamped c.in_order-s.result.0)
row-set c = c.among-rows.ensures.value ∙ ap (mask_among c.args.self.now.chosen.rows) c.with_first.ensures

column-set : (c : After-among-columns) → let r = c.args.self.now in
    c.among-columns.result ≡ mask_among r.chosen.columns (mask_with_first r.chosen.clamped c.in_order-s.result.1)
column-set c = c.among-columns.ensures.value ∙ ap (mask_among c.args.self.now.chosen.columns) c.with_first-2.ensures

pub minor-requires-clause-i_bound : goal.minor-requires-clause-i_bound
minor-requires-clause-i_bound c =
    let r = c.args.self.now in
    let o = ordered (goal.at.minor-requires-clause-i_bound c).After-in_order-s in
    asked-ready r.chosen r.workable c.in_order-s.result.0 c.in_order-s.result.1 _ _ o.row-set o.column-set o.equal
    (row-set (goal.at.minor-requires-clause-i_bound c).After-among-columns) (column-set (goal.at.minor-requires-clause-i_bound c).After-among-columns)

pub returns : goal.returns
unfolding chosen_steps
returns c =
    let r = c.args.self.now in
    let o = ordered (goal.at.returns c).After-in_order-s in
    let rows = row-set (goal.at.returns c).After-among-columns in
    let answer = asked-answer r.chosen r.workable c.in_order-s.result.0 c.in_order-s.result.1 _ _ o.row-set o.column-set o.equal rows
    (column-set (goal.at.returns c).After-among-columns) _ c.minor.ensures.number_value in
    record {
      number_value = answer.0 ∙ o.same;
      ranged = answer.1;
      steps_value = (
        c.minor.ensures.steps_value.0 ∙ ap (λ (p : ℕ). walk_steps r.chosen.word.n p (joined_word r.chosen.word.n (steps_of r.chosen.word r.sources.now)))
            (asked-rows r.chosen r.workable c.in_order-s.result.0 _ o.row-set rows ∙ ap (λ (m : ℕ). r.chosen.clamped + m) o.rows),
        c.minor.ensures.steps_value.1,
      );
    }
