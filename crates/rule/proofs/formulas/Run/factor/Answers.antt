-- `Run::factor` meets its contract: on the diagonal, below it, above it.
use mathlib.Core.Path.{◌≡◌, sym, ap, ap₂, ◌∙◌}
use mathlib.Core.Bool.{Bool, cond}
use Prim.Native.Nat.{ℕ, ◌+◌, ◌-◌, min}
use native.Mathlib.Nat.{min-eq_left, min-eq_right}
use native.Mathlib.Omega.{arith}
use borrow.Author.Tests.{eq-eqb, ne_eqb, lt-ltb, le-ltb}
use lib.Dec.{ltb}
use Rattle.number.specs.declared.Number.{Number}
use Rattle.number.specs.Number.{rounded}
use Rattle.words.specs.Formula.{banded_below, factor_by, factors_by}
use Rattle.words.specs.Effort.{four_steps, quotient_steps}
use Rattle.rule.specs.Chosen.{chosen_minor}
use Rattle.rule.specs.Run.{run_size, run_steps}
use Rattle.rule.proofs.formulas.Run.factor.Goals as goal
use Rattle.rule.proofs.formulas.Run.factor.Goals.{Start}

-- the factor by where it stands
abbrev placed : (c : Start) → Bool → Bool → Number
placed c on below =
    let a = c.args in
    let r = a.self.now in
    factor_by rounded (run_size r) on below (banded_below rounded (run_size r)) (chosen_minor r.chosen r.sources.now) a.i a.j

-- and its steps
abbrev counted : (c : Start) → Bool → ℕ
counted c on =
    let a = c.args in
    let w = run_steps a.self.now in
    cond on (w a.i + w (a.i - 1)) (four_steps w (min a.i a.j))

pub returns-then-i-j : goal.returns-then-i-j
unfolding factors_by quotient_steps
returns-then-i-j c =
    let a = c.args in
    let on = sym (eq-eqb a.i a.j c.if-i-j.true) in
    record {
      number_value = c.on_diagonal.ensures.number_value ∙ ap (λ (x : Bool). placed (goal.at.returns-then-i-j c).Start x (ltb a.j a.i)) on;
      steps_value = (c.on_diagonal.ensures.steps_value.0 ∙ ap (counted (goal.at.returns-then-i-j c).Start) on, c.on_diagonal.ensures.steps_value.1);
    }

pub returns-then-j-i : goal.returns-then-j-i
unfolding factors_by quotient_steps
returns-then-j-i c =
    let a = c.args in
    let off = sym (ne_eqb a.i a.j c.if-i-j.false) in
    let m : a.j ≡ min a.i a.j = sym (min-eq_right (omega (arith, c.if-j-i.true))) in
    let made = c.off_diagonal.ensures.steps_value in
    record {
      number_value = c.off_diagonal.ensures.number_value ∙ ap₂ (placed (goal.at.returns-then-j-i c).Start) off (sym (lt-ltb a.j a.i c.if-j-i.true));
      steps_value = (made.0 ∙ ap (four_steps (run_steps a.self.now)) m ∙ ap (counted (goal.at.returns-then-j-i c).Start) off, made.1);
    }

pub returns-else-j-i : goal.returns-else-j-i
unfolding factors_by quotient_steps
returns-else-j-i c =
    let a = c.args in
    let off = sym (ne_eqb a.i a.j c.if-i-j.false) in
    let m : a.i ≡ min a.i a.j = sym (min-eq_left c.if-j-i.false) in
    let made = c.off_diagonal-else-j-i.ensures.steps_value in
    record {
      number_value = c.off_diagonal-else-j-i.ensures.number_value
          ∙ ap₂ (placed (goal.at.returns-else-j-i c).Start) off (sym (le-ltb a.j a.i c.if-j-i.false));
      steps_value = (made.0 ∙ ap (four_steps (run_steps a.self.now)) m ∙ ap (counted (goal.at.returns-else-j-i c).Start) off, made.1);
    }
