-- `fill` meets its contract. The loop's invariant: the blocks of smaller rows stand, and of the two blocks of l and l + 1 the first m entries.
-- The set read for the one is m put apart with row l put in (is_up), for the other the same with row l + 1 in place of row l (is_down).
use borrow.Author.Rules.{rules}
use mathlib.Core.Path.{◌≡◌, ap, ◌∙◌}
use Prim.Native.Nat.{ℕ, ◌+◌, ◌-◌, ◌*◌, ◌%◌, ◌^◌, ◌≤◌, ◌<◌}
use native.Mathlib.Omega.{arith}
use lib.ListN.{length-set}
use lib.Pow.{shl_exact}
use Rattle.rowset.specs.Mask.{mask_replaced}
use Rattle.rowset.specs.Sets.{changed_of}
use Rattle.rowset.proofs.Changed.{neighbours-up, changed-replaced}
use Rattle.rowset.proofs.Blocks.{block_up, block-down, others-few, up-below, up_is, filled_next, filled_row}
use Rattle.rowset.proofs.lent.fill.Goals as goal
use Rattle.rowset.proofs.lent.fill.Goals.{After-block, After-block-2, After-parted, After-replaced, In-loop-m}

-- the blocks with l below l + 1, and with l + 1 above l
up-block : (c : After-block) → c.block.result ≡ c.args.l - 1
up-block c = c.block.ensures ∙ block_up c.args.l (c.args.l + 1) (omega arith)

up-block_at_After_parted : (c : After-parted) → c.block.result ≡ c.args.l - 1
up-block_at_After_parted c = c.block.ensures ∙ block_up c.args.l (c.args.l + 1) (omega arith)

down-block : (c : After-block-2) → c.block-2.result ≡ c.args.l + 6
down-block c = let e : c.args.l + 1 + 5 ≡ c.args.l + 6 = omega arith in c.block-2.ensures ∙ block-down (c.args.l + 1) c.args.l (omega arith) ∙ e

down-block_at_After_parted : (c : After-parted) → c.block-2.result ≡ c.args.l + 6
down-block_at_After_parted c = let e : c.args.l + 1 + 5 ≡ c.args.l + 6 = omega arith in c.block-2.ensures ∙ block-down (c.args.l + 1) c.args.l (omega arith) ∙ e

pub overflow_mul-up : goal.overflow_mul-up
overflow_mul-up c = omega (arith, up-block c)

pub overflow_add-up : goal.overflow_add-up
overflow_add-up c = omega (arith, up-block c)

pub overflow_mul-down : goal.overflow_mul-down
overflow_mul-down c = omega (arith, down-block c)

pub overflow_add-down : goal.overflow_add-down
overflow_add-down c = omega (arith, down-block c)

-- how many sets of the other rows there are
end : (n : ℕ) → n ≤ 8 → 1 * 2 ^ (n - 2) % 2 ^ 64 ≡ 2 ^ (n - 2)
end n h = let e : 1 * 2 ^ (n - 2) ≡ 2 ^ (n - 2) = omega arith in shl_exact 1 (n - 2) 64 (omega arith) (omega arith) ∙ e

pub loop-m-init : goal.loop-m-init
loop-m-init c = let a = c.args in let e : a.l * 64 + 0 ≡ a.l * 64 = omega arith in (search rules, rw e c.requires.3)

few : (c : In-loop-m) → c.loop-m.m < 64
few c = omega (arith, c.loop-m-test.true, end c.args.n (omega arith), others-few c.args.n (omega arith))

few_at_After_replaced : (c : After-replaced) → c.loop-m.m < 64
few_at_After_replaced c = omega (arith, c.loop-m-test.true, end c.args.n (omega arith), others-few c.args.n (omega arith))

few_at_After_parted : (c : After-parted) → c.loop-m.m < 64
few_at_After_parted c = omega (arith, c.loop-m-test.true, end c.args.n (omega arith), others-few c.args.n (omega arith))

pub parted-requires : goal.parted-requires
parted-requires c = omega (arith, few c)

-- which two sets they are, and where their positions are put
l : (c : After-parted) → ℕ
l c = c.args.l

l_at_After_replaced : (c : After-replaced) → ℕ
l_at_After_replaced c = c.args.l

m : (c : After-parted) → ℕ
m c = c.loop-m.m

m_at_After_replaced : (c : After-replaced) → ℕ
m_at_After_replaced c = c.loop-m.m

s : (c : After-parted) → ℕ
unfolding l
s c = c.parted.result + 1 * 2 ^ ((l c) - 1) % 2 ^ 64

s_at_After_replaced : (c : After-replaced) → ℕ
unfolding l l_at_After_replaced
s_at_After_replaced c = c.parted.result + 1 * 2 ^ ((l_at_After_replaced c) - 1) % 2 ^ 64

is_up : (c : After-parted) → (s c) ≡ changed_of (l c) ((l c) + 1) (m c)
unfolding l m s
is_up c = ap (λ (x : ℕ). x + 1 * 2 ^ ((l c) - 1) % 2 ^ 64) c.parted.ensures ∙ up_is (l c) (m c) (omega arith) (omega arith) (few_at_After_parted c)

is_up_at_After_replaced : (c : After-replaced) → (s_at_After_replaced c) ≡ changed_of (l_at_After_replaced c) ((l_at_After_replaced c) + 1)
    (m_at_After_replaced c)
unfolding l l_at_After_replaced m m_at_After_replaced s s_at_After_replaced
is_up_at_After_replaced c = ap (λ (x : ℕ). x + 1 * 2 ^ ((l_at_After_replaced c) - 1) % 2 ^ 64) c.parted.ensures
    ∙ up_is (l_at_After_replaced c) (m_at_After_replaced c) (omega arith) (omega arith) (few_at_After_replaced c)

inside-up : (c : After-parted) → (s c) < 256
unfolding l m
inside-up c = omega (arith, (is_up c), up-below (l c) (m c) (omega arith) (omega arith) (few_at_After_parted c))

to-up : (c : After-parted) → 512 + c.block.result * 64 + (m c) ≡ 448 + ((l c) * 64 + (m c))
unfolding l m
to-up c = omega (arith, up-block_at_After_parted c)

to-down : (c : After-parted) → 512 + c.block-2.result * 64 + (m c) ≡ 896 + ((l c) * 64 + (m c))
unfolding l m
to-down c = omega (arith, down-block_at_After_parted c)

inside : (c : After-parted) → (l c) * 64 + (m c) < 512
unfolding l m
inside c = omega (arith, few_at_After_parted c)

-- row l + 1 in place of row l
is_down : (c : After-replaced) → c.replaced.result ≡ changed_of (l_at_After_replaced c + 1) (l_at_After_replaced c) (m_at_After_replaced c)
unfolding l l_at_After_replaced m m_at_After_replaced s s_at_After_replaced
is_down c = let x = l_at_After_replaced c in
    let N = neighbours-up 8 x (omega arith) (omega arith) in
    c.replaced.ensures.value ∙ ap (mask_replaced x (x + 1)) (is_up_at_After_replaced c) ∙
    changed-replaced (m_at_After_replaced c) x (x + 1) (few_at_After_replaced c) N.to_low N.to_high N.from_low N.from-high N.beside

pub overflow_add-s : goal.overflow_add-s
unfolding l s
overflow_add-s c = omega (arith, inside-up c)

pub overflow_add-t : goal.overflow_add-t
unfolding l s
overflow_add-t c = omega (arith, inside-up c)

pub bounds-t-s : goal.bounds-t-s
unfolding l s
bounds-t-s c = omega (arith, inside-up (goal.at.bounds-t-s c).After-parted)

pub overflow_add-t-in-loop-m : goal.overflow_add-t-in-loop-m
unfolding l m
overflow_add-t-in-loop-m c = omega (arith, to-up (goal.at.overflow_add-t-in-loop-m c).After-parted, inside (goal.at.overflow_add-t-in-loop-m c).After-parted)

pub bounds-t-up : goal.bounds-t-up
unfolding l m
bounds-t-up c = omega (arith, to-up (goal.at.bounds-t-up c).After-parted, inside (goal.at.bounds-t-up c).After-parted)

pub replaced-requires : goal.replaced-requires
unfolding l s
replaced-requires c = omega (arith, inside-up (goal.at.replaced-requires c).After-parted)

pub overflow_add-t-in-loop-m-2 : goal.overflow_add-t-in-loop-m-2
overflow_add-t-in-loop-m-2 c = omega (arith, c.replaced.ensures.upper_bound)

pub bounds-t-replaced : goal.bounds-t-replaced
bounds-t-replaced c = omega (arith, c.replaced.ensures.upper_bound)

pub overflow_add-t-in-loop-m-3 : goal.overflow_add-t-in-loop-m-3
unfolding l m
overflow_add-t-in-loop-m-3 c = omega (
  arith,
  to-down (goal.at.overflow_add-t-in-loop-m-3 c).After-parted,
  inside (goal.at.overflow_add-t-in-loop-m-3 c).After-parted,
)

pub bounds-t-down : goal.bounds-t-down
unfolding l m
bounds-t-down c = omega (arith, to-down (goal.at.bounds-t-down c).After-parted, inside (goal.at.bounds-t-down c).After-parted)

pub loop-m-preserved : goal.loop-m-preserved
unfolding l l_at_After_replaced m m_at_After_replaced s s_at_After_replaced
loop-m-preserved c = (
  simp length-set c.loop-m.invariant.0,
  filled_next c.loop-m.invariant.1 c.requires.0 c.requires.1 c.requires.2 (few (goal.at.loop-m-preserved c).In-loop-m) c.loop-m.invariant.0 _ _ _ _
      (to-up (goal.at.loop-m-preserved c).After-parted) (to-down (goal.at.loop-m-preserved c).After-parted)
      (is_up (goal.at.loop-m-preserved c).After-parted) (is_down (goal.at.loop-m-preserved c).After-replaced),
)

pub returns : goal.returns
returns c = let a = c.args in
    let p = c.requires in
    filled_row a.l c.loop-m.invariant.1 p.0 (omega (arith, c.loop-m-test.false, end a.n p.0))
