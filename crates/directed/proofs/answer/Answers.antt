-- `answer` meets its contract: what cannot be worked is answered with nothing, and each test is passed before the next.
use mathlib.Core.Path.{sym, ap₂, ◌∙◌}
use Rattle.number.specs.declared.Direction.{Direction}
use Prim.Native.Nat.{ℕ}
use Rattle.directed.specs.Directed.{worked_of}
use Rattle.directed.proofs.Workable.{no-operation, no-direction, first-refused, second-refused, both-worked}
use Rattle.directed.proofs.answer.Goals as goal
use Rattle.directed.proofs.answer.Goals.{then-not-is_workable-via-then-not-is_workable, then-not-is_workable-via-else-not-is_workable+then-not-is_workable-2}

pub returns-in_err-operation : goal.returns-in_err-operation
returns-in_err-operation c = rw c.from_residual.ensures (sym (no-operation _ _ _ _ c.in_err-operation.ensures))

pub returns-in_err-direction : goal.returns-in_err-direction
returns-in_err-direction c = rw c.from_residual-in_err-direction.ensures (sym (no-direction _ _ _ _ c.in_err-direction.ensures))

pub returns-then-not-is_workable : goal.returns-then-not-is_workable
returns-then-not-is_workable c = let h = c.in_ok-direction.ensures.0 in
    elim c.then-not-is_workable.branch [
      | then-not-is_workable-via-then-not-is_workable w ↦ sym (first-refused _ _ _ _ h (sym w.if-not-is_workable.ensures))
      | then-not-is_workable-via-else-not-is_workable+then-not-is_workable-2 w ↦
          sym (second-refused _ _ _ _ h (sym w.if-not-is_workable.ensures) (sym w.if-not-is_workable-2.ensures))
    ]

pub returns : goal.returns
returns c = let h = c.in_ok-direction.ensures in
    c.worked.ensures ∙ ap₂ (λ (o : ℕ) (w : Direction). worked_of o w c.args.a c.args.b) c.in_ok-operation.ensures h.1
    ∙ sym (both-worked _ _ _ _ h.0 (sym c.if-not-is_workable.ensures) (sym c.if-not-is_workable-2.ensures))
