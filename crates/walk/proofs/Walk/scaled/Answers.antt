-- `scaled` meets its contract. The invariant: the number is scaled by the entries of the first i rows.
use borrow.Author.Rules.{rules}
use mathlib.Core.Path.{◌≡◌, sym, ap, ◌∙◌, subst}
use mathlib.Core.Bool.{Bool, cond}
use mathlib.Core.List.{List}
use Prim.Native.Nat.{ℕ, ◌+◌, ◌-◌, ◌*◌, ◌≤◌, ◌<◌}
use native.Mathlib.Omega.{arith}
use Rattle.number.specs.Number.{Stored}
use Rattle.number.specs.declared.Number.{Number}
use Rattle.number.proofs.Reach.{ranged-more}
use Rattle.walk.specs.Steps.{scaling, divides, backwards, entries_of}
use Rattle.walk.specs.Lent.{number_in, table_in}
use Rattle.walk.proofs.Lent.{entry_in}
use Rattle.walk.proofs.Scaling.{scaled-none, scaled-in, scaled-out}
use Rattle.walk.proofs.Walk.scaled.Goals as goal
use Rattle.walk.proofs.Walk.scaled.Goals.{then-has, else-has}

pub loop-i-init : goal.loop-i-init
loop-i-init c = (search rules, scaled-none _ _ _ _ (search rules))

-- the entry that was read
entry : (factors : List ℕ) (c n i row : ℕ) (back : Bool) (e : Number) → i < n → n ≤ 8
    → row ≡ cond back (n - 1 - (i + 1 - 1)) (i + 1 - 1) → e ≡ number_in factors (c * 64 + row * 9)
    → e ≡ entries_of n back (table_in factors c) (i + 1)
entry factors c n i row back e l h r q =
    let k : i + 1 - 1 ≡ i = omega arith in
    q ∙ entry_in factors c n i row back l h (r ∙ ap (λ (j : ℕ). cond back (n - 1 - j) j) k)

pub scale-y-requires : goal.scale-y-requires
scale-y-requires c =
    let a = c.args in
    let s = a.self.now in
    let e = entry s.factors.now a.c s.n c.loop-i.i _ (backwards a.way) _ (search rules) (search rules) c.entry_row.ensures.value c.factor_in-e.ensures in
    (ranged-more (omega arith) c.loop-i.invariant.1.ranged, subst Stored (sym e) (c.requires.stored.stored _ (omega arith) (omega arith)))

pub loop-i-preserved : goal.loop-i-preserved
loop-i-preserved c =
    let a = c.args in
    let s = a.self.now in
    let l : c.loop-i.i < 8 = omega arith in
    elim c.if-has.branch [
      | then-has w ↦ (
        omega arith,
        scaled-in c.loop-i.invariant.1 l _ (sym c.has.ensures ∙ w.if-has.true) (c.requires.stored.stored (c.loop-i.i + 1) (omega arith) (omega arith))
            (w.y-is ∙ w.scale-y.ensures ∙ ap (scaling (divides a.way) c.loop-i.y)
            (entry s.factors.now a.c s.n c.loop-i.i _ (backwards a.way) _ (search rules) (search rules) w.entry_row.ensures.value w.factor_in-e.ensures)),
      )
      | else-has w ↦ (omega arith, scaled-out c.loop-i.invariant.1 l _ (sym c.has.ensures ∙ w.if-has.false) w.y-is)
    ]

pub returns : goal.returns
returns c =
    let e : c.loop-i.i ≡ c.args.self.now.n = omega arith in
    let S = rw e at c.loop-i.invariant.1 in
    record { value = S.is; ranged = ranged-more (omega arith) S.ranged }
