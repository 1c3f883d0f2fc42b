-- `told` meets its contract: where no factor is zero every set is held, else the walk tells. The invariant: k steps are walked.
use borrow.Author.Rules.{rules}
use mathlib.Core.Path.{◌≡◌}
use mathlib.Core.List.{List, ◌∷◌}
use Prim.Native.Nat.{ℕ, ◌+◌}
use native.Mathlib.Omega.{arith}
use lib.ListN.{drop}
use Rattle.number.specs.declared.Number.{Number}
use Rattle.words.specs.Operation.{Step}
use Rattle.words.specs.Sources.{Walkable}
use Rattle.words.proofs.Steps.{sources-at}
use Rattle.walk.specs.Lent.{way_at, step_at, steps_of}
use Rattle.walk.proofs.Minors.{joined-none, joined_step}
use Rattle.presence.specs.Held.{state_of}
use Rattle.presence.proofs.Walking.{steps-done-none, steps-done-more, steps-done-all}
use Rattle.presence.proofs.Telling.{tells-if, tells-all-if}
use Rattle.presence.proofs.told.Goals as goal
use Rattle.presence.proofs.told.Goals.{Start, After-in_turn-c}

abbrev steps : (c : Start) → List (Step Number)
steps c = steps_of c.args.word c.args.factors.now

pub returns-then-full : goal.returns-then-full
returns-then-full c =
    let a = c.args in
    tells-all-if a.turned a.word.n a.p (steps (goal.at.returns-then-full c).Start) (search rules) (search rules) c.requires.sources.0
    (c.full.ensures.0 c.if-full.true)

pub loop-k-init : goal.loop-k-init
loop-k-init c =
    let a = c.args in
    record {
      started = c.starts-v.ensures;
      done = steps-done-none a.word.n (steps (goal.at.loop-k-init c).Start) a.word.count (joined-none a.word a.factors.now (search rules))
          (state_of c.starts-v.result) a.turned;
    }

-- the step that is next
next-step : (c : After-in_turn-c) → let a = c.args in let i = c.in_turn-c.result in
    drop i (steps_of a.word a.factors.now) ≡ step_at a.word a.factors.now i ∷ drop (i + 1) (steps_of a.word a.factors.now)
next-step c = let a = c.args in joined_step a.word a.factors.now (search rules) c.in_turn-c.result c.in_turn-c.ensures.upper_bound

pub invariant_of-step : goal.invariant_of-step
unfolding way_at
invariant_of-step c =
    let i : ℕ = c.in_turn-c.result in
    record {
      some = search rules;
      few = search rules;
      six = omega arith;
      walkable = sources-at (Walkable c.args.word.n) (steps (goal.at.invariant_of-step c).Start) _ i _ c.requires.sources.0
          (next-step (goal.at.invariant_of-step c).After-in_turn-c);
      spelled = c.requires.sources.1.step i c.in_turn-c.ensures.upper_bound;
    }

pub loop-k-preserved : goal.loop-k-preserved
unfolding way_at
loop-k-preserved c =
    let a = c.args in
    record {
      started = c.loop-k.invariant.started;
      done = steps-done-more a.word.n (steps (goal.at.loop-k-preserved c).Start) a.word.count (joined-none a.word a.factors.now (search rules))
          (state_of c.starts-v.result) a.turned c.loop-k.k (omega arith) c.in_turn-c.result c.in_turn-c.ensures.value _
          (next-step (goal.at.loop-k-preserved c).After-in_turn-c) (state_of c.loop-k.v) _ c.loop-k.invariant.done c.walked.ensures;
    }

pub returns : goal.returns
returns c =
    let a = c.args in
    tells-if a.word.n a.p (search rules) (search rules) _ c.loop-k.invariant.started (steps (goal.at.returns c).Start) c.requires.sources.0 c.loop-k.v a.turned
    (steps-done-all a.word.n (steps (goal.at.returns c).Start) a.word.count (joined-none a.word a.factors.now (search rules)) (state_of c.starts-v.result)
    a.turned c.loop-k.k (omega arith) (state_of c.loop-k.v) c.loop-k.invariant.done)
