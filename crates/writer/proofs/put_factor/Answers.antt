-- `writer::put_factor` meets its contract: of two group numbers the second is written through the part behind the first.
use native.Mathlib.Omega.{arith}
use mathlib.Core.Path.{ap, ◌∙◌}
use lib.ListN.{length, length-append}
use Rattle.group.specs.Group.{bytes_of}
use Rattle.writer.specs.Encoding.{exponent_code, part_of}
use Rattle.writer.proofs.Writing.{factor-bytes-some, sets-two}
use Rattle.writer.proofs.put_factor.Goals as goal

pub returns-clause-out_after : goal.returns-clause-out_after
returns-clause-out_after c =
    let a = c.args.a in
    let u = bytes_of (exponent_code a) in
    let v = bytes_of (part_of a) in
    let split = factor-bytes-some a c.if-a-eq0.false in
    let first = rw c.saturating_sub.ensures at c.put-at.ensures in
    let second = rw c.saturating_sub-2.ensures at c.put-2.ensures in
    rw split
    (sets-two c.args.out.now u v c.put-at.new.out c.put-2.new.out c.put-at.result first.value
    (omega (arith, first.value, c.requires, ap length split ∙ length-append u v)) first.out_after second.out_after)
