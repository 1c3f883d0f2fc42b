-- `Number::below` meets its contract: zeros first, then exponents, then mantissas.
use mathlib.Core.Path.{sym, ◌∙◌}
use native.Mathlib.Omega.{arith}
use borrow.Author.Tests.{ne_eqb}
use Rattle.number.proofs.Order.{below-zero-left, below-zero-right, below-lower, below-higher, below-level}
use Rattle.number.proofs.Number.below.Goals as goal
use Rattle.number.proofs.Number.below.Goals.{then-self-eq0-via-then-self-eq0, then-self-eq0-via-else-self-eq0+then-self-other}

pub returns-then-other-eq0 : goal.returns-then-other-eq0
returns-then-other-eq0 c = sym (below-zero-right c.args.self c.args.other c.if-other-eq0.true)

pub returns-then-self-eq0 : goal.returns-then-self-eq0
returns-then-self-eq0 c = let a = c.args.self in let b = c.args.other in
    elim c.then-self-eq0.branch [
      | then-self-eq0-via-then-self-eq0 w ↦ sym (below-zero-left a b w.if-self-eq0.true (omega arith))
      | then-self-eq0-via-else-self-eq0+then-self-other w ↦ sym (below-lower a b c.requires.0.high (c.requires.1.low (omega arith)) w.if-self-other.true)
    ]

pub returns-then-self-other-2 : goal.returns-then-self-other-2
returns-then-self-other-2 c = sym (below-level c.args.self c.args.other c.if-self-other-2.true)

pub returns-else-self-other-2 : goal.returns-else-self-other-2
returns-else-self-other-2 c = ne_eqb c.args.self.x c.args.other.x c.if-self-other-2.false
    ∙ sym (below-higher c.args.self c.args.other (c.requires.0.low (omega arith)) c.requires.1.high (omega arith))
