-- `requests::items::behind` meets its contract.
use Prim.Native.Nat.{◌+◌}
use native.Mathlib.Omega.{arith}
use mathlib.Core.Path.{sym}
use lib.ListN.{drop_of_length-le}
use Rattle.arrays.proofs.Runs.{part-is}
use Rattle.requests.proofs.items.behind.Goals as goal

pub returns-then-s-n : goal.returns-then-s-n
returns-then-s-n c = sym (drop_of_length-le c.args.s.now {i = c.args.n + 1} (omega arith))

pub returns : goal.returns
returns c = part-is c.args.s.now _
