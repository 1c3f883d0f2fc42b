-- `among` meets its contract. The invariant: the first i rows of p are gathered.
use borrow.Author.Rules.{rules}
use mathlib.Core.Path.{◌≡◌, refl}
use native.Mathlib.Omega.{arith}
use Rattle.rowset.specs.Mask.{count_to, among_to, mask_among}
use Rattle.rowset.proofs.Counts.{count_to-le, among_to-below}
use Rattle.rowset.proofs.Shifts.{among_in, among-out}
use Rattle.rowset.proofs.among.Goals as goal
use Rattle.rowset.proofs.among.Goals.{then-p-i-eq1, else-p-i-eq1}

pub loop-i-init : goal.loop-i-init
unfolding among_to count_to
loop-i-init c = (search rules, record { set = refl; rows = refl })

pub overflow_shr-r : goal.overflow_shr-r
overflow_shr-r c = omega (arith, count_to-le c.loop-i.i c.args.p, c.loop-i.invariant.1.rows)

pub overflow_add-k : goal.overflow_add-k
overflow_add-k c = omega (arith, count_to-le c.loop-i.i c.args.p, c.loop-i.invariant.1.rows)

pub loop-i-preserved : goal.loop-i-preserved
loop-i-preserved c = (
  omega arith,
  elim c.if-p-i-eq1.branch [
    | then-p-i-eq1 w ↦ rw (w.r-is, w.k-is) (among_in c.loop-i.invariant.1 (search rules) w.if-p-i-eq1.true)
    | else-p-i-eq1 w ↦ rw (w.r-is, w.k-is) (among-out c.loop-i.invariant.1 w.if-p-i-eq1.false)
  ],
)

pub returns : goal.returns
unfolding mask_among
returns c =
    let e : c.loop-i.i ≡ 8 = omega arith in
    let r = rw e at c.loop-i.invariant.1.set in
    record { value = r; upper_bound = rw r (among_to-below 8 c.args.p c.args.s) }
