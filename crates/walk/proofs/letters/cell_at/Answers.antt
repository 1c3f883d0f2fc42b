-- `cell_at` meets its contract: the letters of stage i are numbered from i (i - 1) / 2 on.
use mathlib.Core.Path.{◌≡◌, sym, ap, ◌∙◌, subst}
use Prim.Native.Nat.{ℕ, ◌-◌, ◌≤◌}
use native.Mathlib.Nat.{mul-le-mul}
use native.Mathlib.Omega.{arith}
use Rattle.walk.proofs.Spelling.{staged, stage_of, column_of, row_of, lower_move, upper_move, middle-few}
use Rattle.walk.proofs.Stages.{Stage, stage_at, lower-at, upper-at}
use borrow.Author.Rules.{rules}
use Rattle.walk.proofs.letters.cell_at.Goals as goal
use Rattle.walk.proofs.letters.cell_at.Goals.{After-from-i}

-- the stage of letter t
is-stage : (c : After-from-i) → c.from-i.result ≡ stage_of c.args.t
unfolding staged
is-stage c = c.from-i.ensures

stage : (c : After-from-i) → Stage c.args.n c.args.t c.from-i.result
stage c = subst (Stage c.args.n c.args.t) (sym (is-stage c))
    (stage_at c.args.n c.args.t (search rules) (search rules) (search rules) (omega (arith, middle-few c.args.n (search rules))))

pub overflow_sub-c : goal.overflow_sub-c
overflow_sub-c c = let s = stage c in omega arith

pub overflow_mul-c : goal.overflow_mul-c
overflow_mul-c c =
    let s = stage c in
    let h : c.from-i.result - 1 ≤ 6 = omega arith in
    omega (arith, mul-le-mul s.high h)

pub overflow_sub-c-2 : goal.overflow_sub-c-2
overflow_sub-c-2 c = let s = stage c in omega arith

pub overflow_add-result-2 : goal.overflow_add-result-2
overflow_add-result-2 c = let s = stage c in omega arith

pub overflow_sub-result : goal.overflow_sub-result
overflow_sub-result c = let s = stage c in omega arith

pub overflow_add-result-3 : goal.overflow_add-result-3
overflow_add-result-3 c = let s = stage c in omega arith

pub returns : goal.returns
returns c =
    let s = stage c in
    record {
      below = lower-at c.args.n c.args.t (search rules) (search rules) (search rules) ∙ ap
          (λ (i : ℕ). lower_move (row_of c.args.n c.args.t i) (column_of c.args.t i)) (sym (is-stage c));
      above = upper-at c.args.n c.args.t (search rules) (search rules) (search rules) ∙ ap
          (λ (i : ℕ). upper_move (row_of c.args.n c.args.t i) (column_of c.args.t i)) (sym (is-stage c));
      row_low = omega arith;
      row-high = omega arith;
      column-low = omega arith;
      column-high = omega arith;
    }
