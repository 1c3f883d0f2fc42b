-- `back` meets its contract.
use Prim.Native.Nat.{◌/◌, ◌%◌}
use native.Mathlib.Omega.{arith}
use borrow.Author.Tests.{le-ltb, lt-ltb}
use Rattle.places.specs.Check.{back}
use Rattle.places.proofs.check.back.Goals as goal

pub returns-then-k : goal.returns-then-k
unfolding back
returns-then-k c = record { value = simp (lt-ltb (c.args.k % 8) (c.args.k / 8) c.if-k.true); upper_bound = omega (arith, c.if-k.true) }

pub returns-then-k-2 : goal.returns-then-k-2
unfolding back
returns-then-k-2 c =
    record {
      value = simp (le-ltb (c.args.k % 8) (c.args.k / 8) c.if-k.false, lt-ltb (c.args.k / 8) (c.args.k % 8) c.if-k-2.true);
      upper_bound = omega (arith, c.if-k-2.true);
    }

pub returns : goal.returns
unfolding back
returns c =
    record { value = simp (le-ltb (c.args.k % 8) (c.args.k / 8) c.if-k.false, le-ltb (c.args.k / 8) (c.args.k % 8) c.if-k-2.false); upper_bound = omega arith }
