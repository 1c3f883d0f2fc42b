-- `effort::of_sizes` meets its contract. The invariant: the first p terms of the sum.
use borrow.Author.Rules.{rules}
use mathlib.Core.Path.{◌≡◌, refl, sym, ap, ◌∙◌}
use Prim.Native.Nat.{ℕ, ◌+◌, ◌-◌, ◌*◌, ◌≤◌}
use native.Mathlib.Omega.{arith}
use Rattle.words.specs.Effort.{sum_over}
use Rattle.words.proofs.Totals.{total-by-rows}
use Rattle.operations.proofs.Efforts.{term, term-more, term_few, product-few}
use Rattle.operations.proofs.effort.of_sizes.Goals as goal
use Rattle.operations.proofs.effort.of_sizes.Goals.{After-loop-p, After-sets_of}

pub loop-p-init : goal.loop-p-init
unfolding sum_over
loop-p-init c = (refl, omega arith, omega arith)

-- how large a term is, and all of them
few : (c : After-sets_of)
    → (let a = c.args in (4 * (a.k - (c.loop-p.p + 1)) + 1) * c.sets_of.result ≤ 2310)
few c = let a = c.args in term_few a.n a.clamped a.k c.loop-p.p _ (search rules) c.sets_of.ensures.upper_bound

pub overflow_mul-sum-in-loop-p : goal.overflow_mul-sum-in-loop-p
overflow_mul-sum-in-loop-p c = omega (arith, few c)

pub overflow_add-sum-in-loop-p-2 : goal.overflow_add-sum-in-loop-p-2
overflow_add-sum-in-loop-p-2 c = omega (arith, few c, c.loop-p.invariant.1, c.loop-p.invariant.2)

pub loop-p-preserved : goal.loop-p-preserved
loop-p-preserved c = let a = c.args in
    let l = c.loop-p in (
      term-more a.n a.clamped a.k l.p _ _ (search rules) (omega arith) l.invariant.0 c.sets_of.ensures.value,
      omega (arith, few c, l.invariant.1),
      omega arith,
    )

all : (c : After-loop-p) → (let a = c.args in let n = a.n in
    (n * n ≤ 64) × (n ≤ n * n) × (a.m * (n * n - n) ≤ 384) × (a.m * (n * n - n) * c.loop-p.sum ≤ 7096320))
all c = let a = c.args in
    let l = c.loop-p in
    product-few a.m a.n l.sum (search rules) (search rules) (search rules) (omega (arith, l.invariant.1, l.invariant.2))

pub overflow_mul-result : goal.overflow_mul-result
overflow_mul-result c = omega (arith, (all c).0)

pub overflow_sub-result : goal.overflow_sub-result
overflow_sub-result c = (all c).1

pub overflow_mul-result-2 : goal.overflow_mul-result-2
overflow_mul-result-2 c = omega (arith, (all c).2)

pub overflow_mul-result-3 : goal.overflow_mul-result-3
overflow_mul-result-3 c = omega (arith, (all c).3)

pub returns : goal.returns
returns c = let a = c.args in
    let l = c.loop-p in
    let e : l.p ≡ a.k = omega (arith, l.invariant.2, c.loop-p-test.false) in
    let f : l.sum ≡ sum_over a.k (term a.n a.clamped a.k) = rw e at l.invariant.0 in
    ap (λ (x : ℕ). a.m * (a.n * a.n - a.n) * x) f ∙ sym (total-by-rows a.m a.n a.clamped a.k)
