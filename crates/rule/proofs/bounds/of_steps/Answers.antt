-- `of_steps` meets its contract: one step by the table, more by the sum.
use mathlib.Core.Path.{sym, ap, ◌∙◌, subst}
use Prim.Native.Nat.{ℕ, ◌+◌, ◌-◌, ◌*◌, ◌≤◌}
use native.Mathlib.Omega.{arith}
use Rattle.rule.proofs.StepBounds.{steps-bound, steps-small}
use Rattle.rule.proofs.bounds.of_steps.Goals as goal
use Rattle.rule.proofs.bounds.of_steps.Goals.{After-one_source}

-- six steps of eight rows
few : (c : After-one_source) → let a = c.args in a.m * (c.one_source.result - 3) ≤ 2880
few c = subst (λ (e : ℕ). c.args.m * (e - 3) ≤ 2880) (sym c.one_source.ensures) (steps-small c.args.m c.args.n c.requires.0 c.requires.2)

pub overflow_mul-result : goal.overflow_mul-result
overflow_mul-result c = omega (arith, few c)

pub overflow_add-result : goal.overflow_add-result
overflow_add-result c = omega (arith, few c)

pub returns : goal.returns
returns c =
    let a = c.args in
    ap (λ (e : ℕ). a.m * (e - 3) + 3) c.one_source.ensures ∙ steps-bound a.m a.n
