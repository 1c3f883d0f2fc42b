-- `lines::put_bytes` meets its contract.
use native.Mathlib.Omega.{arith}
use Rattle.std.proofs.lemmas.Bool.Decides.{nat_tests}
use Rattle.lines.proofs.Text.{bytes-none, bytes-some}
use Rattle.lines.proofs.writing.put_bytes.Goals as goal

pub returns-then-is_empty : goal.returns-then-is_empty
returns-then-is_empty c = let e =
    bytes-none c.args.s.now (grind (arith, nat_tests)) in
    rw e c.put.ensures

pub returns : goal.returns
returns c = let e = bytes-some c.args.s.now (λ e. grind (arith, nat_tests)) in
    rw e c.put_pairs.ensures
