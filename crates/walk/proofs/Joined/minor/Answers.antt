-- `Joined::minor` meets its contract. The invariant: the words of the steps from number c on are walked, and their steps counted.
-- The points on the way have names: `begin` is the function's entry, `rows` where the rows are counted.
use borrow.Author.Rules.{rules}
use mathlib.Core.Path.{◌≡◌, sym, ap, ◌∙◌, subst}
use mathlib.Core.List.{List, ◌∷◌}
use Prim.Native.Nat.{ℕ, ◌+◌, ◌-◌, ◌≤◌}
use native.Mathlib.Omega.{arith}
use lib.ListN.{length, drop}
use Rattle.number.specs.Number.{rounded}
use Rattle.number.specs.declared.Number.{Number}
use Rattle.words.specs.RowSet.{RowSet, of_mask}
use Rattle.words.specs.Walk.{walk, one_at}
use Rattle.words.specs.Operation.{Step, step_word, joined_word}
use Rattle.words.specs.Sources.{Walkable}
use Rattle.words.specs.Effort.{walk_steps}
use Rattle.words.proofs.Steps.{sources-at}
use Rattle.rowset.specs.Mask.{mask_count}
use Rattle.walk.specs.Lent.{way_at, step_in, step_at, steps_of}
use Rattle.walk.specs.Held.{state_of, Agree}
use Rattle.walk.specs.Packed.{numbers_of, held_by}
use Rattle.walk.specs.declared.Way.{Way}
use Rattle.walk.proofs.Held.{working-agree}
use Rattle.walk.proofs.Packed.{number_at, start-words}
use Rattle.walk.proofs.Sweep.{below-256}
use Rattle.walk.proofs.Minors.{joined-start, joined-next, joined_length, joined-none, joined_step, joined-working}
use Rattle.walk.proofs.Minors.{minor-held, minor-none, rows-some, rows_few}
use Rattle.walk.proofs.Counting.{no-joined-counted, joined-counted, empty-counted}
use Rattle.walk.proofs.Joined.minor.Goals as goal
use Rattle.walk.proofs.Joined.minor.Goals.{After-count-k, In-loop-c, Start}

-- the steps, and the column set
abbrev steps : (c : Start) → List (Step Number)
steps c = steps_of c.args.self c.args.factors.now

abbrev steps_at_In_loop_c : (c : In-loop-c) → List (Step Number)
steps_at_In_loop_c c = steps_of c.args.self c.args.factors.now

abbrev columns : (c : Start) → RowSet
columns c = of_mask c.args.self.n c.args.j

-- a set that is not empty has rows, and at most n
some : (c : After-count-k) → 1 ≤ c.count-k.result
some c = let a = c.args in omega (arith, c.count-k.ensures.value, rows-some a.self.n a.j (search rules) (search rules) c.if-j-eq0.false)

few : (c : After-count-k) → c.count-k.result ≤ c.args.self.n
few c = let a = c.args in omega (arith, c.count-k.ensures.value, rows_few a.self.n a.j (search rules) (search rules))

-- the step that is next, number i
next-step : (c : In-loop-c) → let i = c.loop-c.c - 1 in
    drop i (steps_at_In_loop_c c) ≡ step_at c.args.self c.args.factors.now i ∷ drop (i + 1) (steps_at_In_loop_c c)
next-step c = let a = c.args in joined_step a.self a.factors.now (search rules) (c.loop-c.c - 1) (omega arith)

-- a fact about the numbers of a walk is one about those that it was made of
along : (P : ℕ → ℕ → List ℕ → Type 0) {n m k l : ℕ} {b d : List ℕ} → n ≡ m → k ≡ l → b ≡ d → P n k b → P m l d
along P {n} {m} {k} {l} {b} {d} e f g h =
    subst (λ (x : List ℕ). P m l x) g (subst (λ (x : ℕ). P m x b) f (subst (λ (x : ℕ). P x k b) e h))

pub returns-then-j-eq0 : goal.returns-then-j-eq0
returns-then-j-eq0 c =
    let a = c.args in
    record {
      number_value = c.one.ensures ∙ sym (minor-none a.self.n a.i a.j _ (search rules) (search rules) (search rules) c.requires.i_bound.2 c.if-j-eq0.true);
      steps_value = (empty-counted a.self.n a.i a.j _ c.requires.i_bound.2 c.if-j-eq0.true, omega arith);
    }

pub count-k-requires : goal.count-k-requires
count-k-requires c = below-256 c.args.self.n c.args.j (search rules) (search rules)

pub new-walk-requires : goal.new-walk-requires
new-walk-requires c = (some c, few c, search rules, c.requires.tables.0)

pub position_in-requires : goal.position_in-requires
position_in-requires c = (below-256 c.args.self.n c.args.j (search rules) (search rules), c.requires.tables.0.placed)

pub loop-c-init : goal.loop-c-init
loop-c-init c =
    let a = c.args in
    let v = start-words a.j c.position_in.result c.pack-zero.result c.pack.result _ _
    c.zero.ensures c.one-2.ensures c.pack-zero.ensures c.pack.ensures c.position_in.ensures.value in (
      search rules,
      joined-start a.self.n c.count-k.result a.j a.self.count (steps (goal.at.loop-c-init c).Start) _ (search rules) (search rules) c.count-k.ensures.value v
          (joined-none a.self a.factors.now (search rules)),
      search rules,
      no-joined-counted a.self.n c.count-k.result a.self.count (steps (goal.at.loop-c-init c).Start) (joined-none a.self a.factors.now (search rules)),
      omega (arith, c.requires.le_n.2),
    )

pub walked-steps-requires : goal.walked-steps-requires
unfolding way_at
walked-steps-requires c =
    let a = c.args in
    let i : ℕ = c.loop-c.c - 1 in
    let six : length (steps (goal.at.walked-steps-requires c).Start) ≤ 6 = omega (arith, joined_length a.self a.factors.now (search rules)) in
    let W = joined-working a.self.n c.count-k.result (steps (goal.at.walked-steps-requires c).Start) (columns (goal.at.walked-steps-requires c).Start)
    c.requires.sources (search rules) (search rules) six c.loop-c.c in
    let w = c.new-walk.ensures in
    record {
      working = rw (w.rows.0, w.rows.1) (working-agree c.loop-c.invariant.1 W);
      source = (
        omega arith,
        rw (w.rows.0, w.lent.1) (sources-at (Walkable a.self.n) (steps (goal.at.walked-steps-requires c).Start) _ i _
            c.requires.sources (next-step (goal.at.walked-steps-requires c).In-loop-c)),
        rw (w.rows.0, w.lent.0) (c.requires.tables.1.step i (omega arith)),
      );
    }

pub loop-c-preserved : goal.loop-c-preserved
unfolding way_at
loop-c-preserved c =
    let e : c.loop-c.c - 1 + 1 ≡ c.loop-c.c = omega arith in
    let w = c.new-walk.ensures in
    let i : ℕ = c.loop-c.c - 1 in
    let way : Way = way_at c.args.self i in
    let agree = along (λ (n k : ℕ) (b : List ℕ). Agree n k (held_by c.walked-steps.new.u)
    (walk rounded (step_word n (step_in way b i)) (held_by c.loop-c.v))) w.rows.0 w.rows.1 w.lent.1 c.walked-steps.ensures.agree in
    let count = along (λ (n k : ℕ) (b : List ℕ). c.walked-steps.result ≡ walk_steps n k (step_word n (step_in way b i)))
    w.rows.0 w.rows.1 w.lent.1 c.walked-steps.ensures.value.0 in (
      omega arith,
      joined-next (steps (goal.at.loop-c-preserved c).Start) _ (c.loop-c.c - 1) (one_at rounded (columns (goal.at.loop-c-preserved c).Start))
          (state_of (numbers_of c.loop-c.v)) _ (search rules)
          (next-step (goal.at.loop-c-preserved c).In-loop-c) (rw e c.loop-c.invariant.1) agree,
      search rules,
      joined-counted c.args.self.n c.count-k.result (steps (goal.at.loop-c-preserved c).Start) _ (c.loop-c.c - 1)
          (next-step (goal.at.loop-c-preserved c).In-loop-c) _ _ (rw e c.loop-c.invariant.3) count,
      omega (arith, c.walked-steps.ensures.value.1, c.loop-c.invariant.4),
    )

pub position_in-requires-2 : goal.position_in-requires-2
position_in-requires-2 c = (below-256 c.args.self.n c.args.i (search rules) (search rules), c.requires.tables.0.placed)

pub returns : goal.returns
returns c =
    let a = c.args in
    let p = c.position_in-2 in
    let v = c.loop-c.v in
    let e : c.loop-c.c ≡ 0 = omega arith in
    let k : mask_count a.i ≡ c.count-k.result = c.requires.i_bound.2 ∙ sym c.count-k.ensures.value in
    record {
      number_value = c.unpack.ensures ∙ sym (number_at v p.result c.loop-c.invariant.2 p.ensures.upper_bound)
          ∙ minor-held a.self.n c.count-k.result a.i (steps (goal.at.returns c).Start) (columns (goal.at.returns c).Start) (numbers_of v) p.result
          (search rules) (search rules)
          k p.ensures.value (rw e at c.loop-c.invariant.1);
      steps_value = (
        rw e at c.loop-c.invariant.3 ∙ ap (λ (m : ℕ). walk_steps a.self.n m (joined_word a.self.n (steps (goal.at.returns c).Start))) (sym k),
        omega (arith, c.loop-c.invariant.4),
      );
    }
