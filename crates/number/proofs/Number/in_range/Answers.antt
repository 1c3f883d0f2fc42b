-- `Number::in_range` meets its contract: its two tests are the definition's, the lower one with 1000 on the other side.
use Prim.Native.Nat.{◌+◌}
use native.Mathlib.Omega.{arith}
use borrow.Author.Tests.{le-leb, lt-leb}
use Rattle.number.specs.Number.{in_range}
use Rattle.number.proofs.Number.in_range.Goals as goal

pub returns-then-self : goal.returns-then-self
unfolding in_range
returns-then-self c = let h = le-leb 4194304 (c.args.self.x + 1000) (omega arith) in simp h

pub returns-else-self : goal.returns-else-self
unfolding in_range
returns-else-self c = let h = lt-leb 4194304 (c.args.self.x + 1000) (omega arith) in let g = lt-leb 4193304 c.args.self.x (omega arith) in simp (h, g)
