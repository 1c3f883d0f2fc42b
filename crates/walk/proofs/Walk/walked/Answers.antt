-- `walked` meets its contract. The invariant: the letters from t on are applied, and their steps are counted.
use mathlib.Core.Path.{◌≡◌, sym, subst}
use Prim.Native.Nat.{ℕ, ◌+◌, ◌-◌, ◌*◌}
use native.Mathlib.Omega.{arith}
use lib.ListN.{length, take, drop, take-append-drop}
use Rattle.number.specs.Number.{rounded}
use Rattle.number.specs.declared.Number.{Number}
use Rattle.words.specs.Word.{Word}
use Rattle.words.specs.Walk.{State, walk}
use Rattle.words.specs.Operation.{Step, step_word}
use Rattle.words.specs.Effort.{letter_steps, walk_steps}
use Rattle.words.proofs.Steps.{step-rows}
use Rattle.walk.specs.Steps.{step_of, letter_at}
use Rattle.walk.specs.Lent.{table_in}
use Rattle.walk.specs.Letters.{middle}
use Rattle.walk.specs.Held.{state_of, Agree}
use Rattle.walk.specs.Packed.{numbers_of}
use Rattle.walk.proofs.Held.{working-agree}
use Rattle.walk.proofs.Acts.{step-length}
use Rattle.walk.proofs.Walking.{step-working, walk_start, walk-next}
use Rattle.walk.proofs.Counting.{none-counted, letters-counted}
use Rattle.walk.proofs.Walk.walked.Goals as goal
use Rattle.walk.proofs.Walk.walked.Goals.{Start}

-- the step, its word, and how many letters that has
abbrev step : (c : Start) → Step Number
step c = let a = c.args in let s = a.self.now in step_of a.way (table_in s.factors.now a.c)

abbrev word : (c : Start) → Word Number
word c = step_word c.args.self.now.n (step c)

long : (c : Start) → length (word c) ≡ 2 * middle c.args.self.now.n + 1
long c = let a = c.args in let s = a.self.now in step-length s.n a.way (table_in s.factors.now a.c) c.requires.source.1 (omega arith) s.rows.2

abbrev state : (c : Start) → State rounded
state c = state_of (numbers_of c.args.u.now)

pub loop-t-init : goal.loop-t-init
loop-t-init c =
    let e : 2 * c.middle.result + 1 ≡ length (word (goal.at.loop-t-init c).Start) = omega (arith, long (goal.at.loop-t-init c).Start, c.middle.ensures.value) in
    let start = walk_start (word (goal.at.loop-t-init c).Start) (2 * c.middle.result + 1) (state (goal.at.loop-t-init c).Start) e in
    (omega arith, start, none-counted _ (word (goal.at.loop-t-init c).Start) _ e, omega (arith, c.middle.ensures.upper_bound))

pub act-steps-requires : goal.act-steps-requires
act-steps-requires c =
    let a = c.args in
    let s = a.self.now in
    let t = c.loop-t.t in
    let X = word (goal.at.act-steps-requires c).Start in
    let W = step-working s.n s.k (step (goal.at.act-steps-requires c).Start) c.requires.source.1 (omega arith) s.rows.2 (take t X) (drop t X)
    (take-append-drop t X) (state (goal.at.act-steps-requires c).Start) c.requires.working in
    record {
      letter = (c.requires.source.0, omega arith);
      working = working-agree c.loop-t.invariant.1 W;
      source = (c.requires.source.1, c.requires.source.2);
    }

pub loop-t-preserved : goal.loop-t-preserved
unfolding letter_at
loop-t-preserved c =
    let a = c.args in
    let s = a.self.now in
    let t = c.loop-t.t in
    let u = state_of (numbers_of c.loop-t.u) in
    let e : t - 1 + 1 ≡ t = omega arith in (
      omega arith,
      walk-next s.rows.2 (word (goal.at.loop-t-preserved c).Start) (step-rows s.n (step (goal.at.loop-t-preserved c).Start))
          (state (goal.at.loop-t-preserved c).Start) (t - 1) (omega (arith, long (goal.at.loop-t-preserved c).Start)) _ u _
          (subst (λ (i : ℕ). Agree s.n s.k u (walk rounded (drop i (word (goal.at.loop-t-preserved c).Start)) (state (goal.at.loop-t-preserved c).Start)))
          (sym e) c.loop-t.invariant.1) c.act-steps.ensures.agree,
      letters-counted (letter_steps s.n s.k) (word (goal.at.loop-t-preserved c).Start) (t - 1) (omega (arith, long (goal.at.loop-t-preserved c).Start)) _ _ _
          (subst (λ (i : ℕ). c.loop-t.steps ≡ walk_steps s.n s.k (drop i (word (goal.at.loop-t-preserved c).Start))) (sym e) c.loop-t.invariant.2)
          c.act-steps.ensures.value.0,
      omega (arith, c.act-steps.ensures.value.1, c.loop-t.invariant.3),
    )

pub returns : goal.returns
returns c =
    let e : c.loop-t.t ≡ 0 = omega arith in
    record { agree = rw e at c.loop-t.invariant.1; value = (rw e at c.loop-t.invariant.2, omega arith) }
