-- `latest` meets its contract. The invariant: no mask from s on passes.
use borrow.Author.Rules.{rules}
use mathlib.Core.Path.{◌≡◌, sym, ap, ◌∙◌}
use Prim.Native.Nat.{ℕ, ◌+◌, ◌-◌, ◌^◌, ◌≤◌, ◌<◌}
use native.Mathlib.Omega.{arith}
use lib.Pow.{pow_mono}
use Rattle.rowset.specs.Mask.{mask_count, mask_among}
use Rattle.presence.specs.Held.{held_at}
use Rattle.rowset.proofs.Shifts.{shift-exact}
use Rattle.presence.proofs.Search.{count-few, passes-held, fails-count, search-next, search-found, search-none}
use Rattle.presence.proofs.latest.Goals as goal
use Rattle.presence.proofs.latest.Goals.{else-count-c-via-then-count-c+else-v-among, else-count-c-via-else-count-c}

pub overflow_step-s : goal.overflow_step-s
overflow_step-s c = omega (arith, count-few c.args.p)

pub loop-s-init : goal.loop-s-init
loop-s-init c = rw (shift-exact (c.args.i - 1) (omega (arith, count-few c.args.p))) (λ x l h. absurd (omega arith))

pub count-requires : goal.count-requires
count-requires c =
    let a = c.args in
    let few : a.i - 1 ≤ 8 = omega (arith, count-few a.p) in
    let masks : 2 ^ (a.i - 1) ≤ 2 ^ 8 = pow_mono few in
    omega (arith, shift-exact (a.i - 1) (omega arith), c.loop-s.auto.s)

pub with_first-requires : goal.with_first-requires
with_first-requires c =
    let a = c.args in
    let few : a.i - 1 ≤ 8 = omega (arith, count-few a.p) in
    let masks : 2 ^ (a.i - 1) ≤ 2 ^ 8 = pow_mono few in
    (omega (arith, shift-exact (a.i - 1) (omega arith), c.loop-s.auto.s), omega (arith, count-few a.p))

pub returns-then-v-among : goal.returns-then-v-among
unfolding held_at
returns-then-v-among c =
    let a = c.args in
    let l = c.loop-s in
    let s : ℕ = l.s - 1 in
    let e : s + 1 ≡ l.s = omega arith in
    let r : s < 2 ^ (a.i - 1) = omega (arith, shift-exact (a.i - 1) (omega (arith, count-few a.p)), l.auto.s) in
    let k : mask_count s ≡ a.c = sym c.count.ensures.value ∙ c.if-count-c.true in
    let at = c.among.ensures.value ∙ ap (mask_among a.p) c.with_first.ensures in
    record {
      result_value = search-found a.v.now a.p a.k a.i a.c (count-few a.p) (search rules) (search rules) s r
          (passes-held a.v.now a.p a.k a.c s k (ap (held_at a.v.now) (sym at) ∙ c.if-v-among.true)) (rw e l.invariant);
      upper_bound = r;
    }

pub loop-s-preserved : goal.loop-s-preserved
unfolding held_at
loop-s-preserved c =
    let a = c.args in
    let l = c.loop-s in
    let s : ℕ = l.s - 1 in
    search-next a.v.now a.p a.k a.c l.s (2 ^ (a.i - 1)) (omega arith) l.invariant (elim c.else-count-c.branch [
      | else-count-c-via-then-count-c+else-v-among w ↦
          passes-held a.v.now a.p a.k a.c s (sym c.count.ensures.value ∙ w.if-count-c.true)
          (ap (held_at a.v.now) (sym (w.among.ensures.value ∙ ap (mask_among a.p) w.with_first.ensures)) ∙ w.if-v-among.false)
      | else-count-c-via-else-count-c w ↦ fails-count a.v.now a.p a.k a.c s (λ e. w.if-count-c.false (c.count.ensures.value ∙ e))
    ])

pub returns-clause-result_value : goal.returns-clause-result_value
returns-clause-result_value c =
    let a = c.args in
    let none : c.loop-s.s ≡ 0 = omega arith in
    search-none a.v.now a.p a.k a.i a.c (count-few a.p) (search rules) (search rules) (rw none at c.loop-s.invariant)
