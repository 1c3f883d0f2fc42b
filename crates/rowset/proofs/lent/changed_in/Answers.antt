-- `changed_in` meets its contract: by what the table holds.
use mathlib.Core.Path.{◌≡◌, ap, ◌∙◌}
use Prim.Native.Nat.{ℕ, ◌+◌, ◌*◌, ◌≤◌, ◌<◌}
use native.Mathlib.Omega.{arith}
use lib.ListN.{get_or}
use Rattle.rowset.specs.Mask.{position_of}
use Rattle.rowset.specs.Sets.{changed_of, block_of}
use Rattle.rowset.proofs.Positions.{position-below}
use Rattle.rowset.proofs.Changed.{changed-below}
use Rattle.rowset.proofs.Blocks.{block-fits, others-few}
use Rattle.rowset.proofs.lent.changed_in.Goals as goal
use Rattle.rowset.proofs.lent.changed_in.Goals.{After-block}

-- the block, and the place in it
within : (c : After-block) → c.block.result * 64 + c.args.m < 896
within c = omega (arith, c.block.ensures, block-fits c.requires.1 c.requires.0, others-few c.args.n c.requires.0)

pub overflow_mul-block : goal.overflow_mul-block
overflow_mul-block c = omega (arith, within c)

pub overflow_add-block : goal.overflow_add-block
overflow_add-block c = omega (arith, within c)

pub overflow_add-block-2 : goal.overflow_add-block-2
overflow_add-block-2 c = omega (arith, within c)

pub bounds-t-block : goal.bounds-t-block
bounds-t-block c = omega (arith, within (goal.at.bounds-t-block c).After-block)

pub returns : goal.returns
returns c =
    let a = c.args in
    let p = c.requires in
    let N = p.1 in
    let e : 512 + c.block.result * 64 + a.m ≡ 512 + (block_of a.a a.o * 64 + a.m) = omega (arith, c.block.ensures) in
    let r : c.wide.result ≡ position_of (changed_of a.a a.o a.m) =
    c.wide.ensures.value ∙ ap (λ (i : ℕ). get_or a.t.now i 0) e ∙ p.3.entry a.a a.o a.m N p.2 in
    let few = others-few a.n p.0 in
    let high : a.a ≤ 8 = omega (arith, N.to_high) in
    let low : a.o ≤ 8 = omega (arith, N.from-high) in
    let s = changed-below a.m a.a a.o (omega arith) N.to_low high N.from_low low N.beside 8 (omega arith) high low (omega arith) in
    record { value = r; upper_bound = omega (arith, position-below _ s) }
