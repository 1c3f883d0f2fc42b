-- `diagonal` meets its contract. The invariant: what the words stand for is swept, up to the set at position p.
-- The points on the way have names: `begin` is the function's entry; what is known in the loop is one record (`at`).
use borrow.Author.Rules.{rules}
use mathlib.Core.Path.{◌≡◌, refl, sym, ap, ◌∙◌, subst}
use Prim.Native.Nat.{ℕ, ◌+◌, ◌^◌, ◌≤◌, ◌<◌}
use native.Mathlib.Omega.{arith}
use lib.ListN.{get_or}
use lib.Pow.{pow_mono}
use Rattle.number.specs.Number.{rounded, Ranged}
use Rattle.number.specs.Packed.{unpack_of}
use Rattle.number.specs.declared.Number.{Number}
use Rattle.rowset.specs.Mask.{count_below}
use Rattle.rowset.specs.Sets.{SetAt, begin_of}
use Rattle.rowset.proofs.Positions.{below-mono}
use Rattle.words.specs.RowSet.{of_mask}
use Rattle.words.specs.Walk.{scaled}
use Rattle.walk.specs.Held.{letter_reach}
use Rattle.walk.specs.Steps.{scaling, divides, backwards, entries_of}
use Rattle.walk.specs.Lent.{table_in}
use Rattle.walk.specs.Packed.{numbers_of}
use Rattle.walk.proofs.Packed.{numbers-size}
use Rattle.walk.proofs.Scaling.{diagonal-all}
use Rattle.walk.proofs.Sweep.{swept_none}
use Rattle.walk.proofs.InPlace.{AtEntry, entry_lt, entry_ready, entry_next, entry-passed}
use Rattle.walk.proofs.Walk.diagonal.Goals as goal
use Rattle.walk.proofs.Walk.diagonal.Goals.{In-loop-p}

abbrev entries : (c : In-loop-p) → ℕ → Number
entries c = let a = c.args in let s = a.self.now in entries_of s.n (backwards a.way) (table_in s.factors.now a.c)

-- p is below the number of the sets of k rows
counted : (c : In-loop-p) → let a = c.args in let s = a.self.now in c.loop-p.p < count_below s.k (2 ^ s.n)
counted c = omega (arith, c.sets_of-p-end.ensures.value)

below : (c : In-loop-p) → c.loop-p.p < count_below c.args.self.now.k 256
below c =
    let a = c.args in
    let s = a.self.now in
    let l : s.n ≤ 8 = omega arith in
    let h : 2 ^ s.n ≤ 2 ^ 8 = pow_mono l in
    omega (arith, counted c, below-mono s.k (2 ^ s.n) 256 h)

next : (c : In-loop-p) → c.loop-p.p + 1 ≤ c.sets_of-p-end.result
next c = omega (arith, counted c, c.sets_of-p-end.ensures.value)

-- what is known of the set s at position p
known : (c : In-loop-p) (m : ℕ) → let a = c.args in let s = a.self.now in
    SetAt s.k c.loop-p.p m → AtEntry s.n s.k (divides c.args.way) (entries c) a.u.now c.loop-p.u c.loop-p.p m
known c m C = record { few = c.args.self.now.rows.2; here = C; count = counted c; swept = c.loop-p.invariant.1; working = c.requires.working }

-- the table has a set there
at : (c : In-loop-p) → let a = c.args in let s = a.self.now in
    AtEntry s.n s.k (divides c.args.way) (entries c) a.u.now c.loop-p.u c.loop-p.p (get_or s.tables.now (begin_of s.k + c.loop-p.p) 0)
at c = known c _ (c.args.self.now.listed.listed.entry c.args.self.now.k c.loop-p.p (omega arith) (below c))

pub loop-p-init : goal.loop-p-init
loop-p-init c = (omega arith, swept_none (numbers_of c.args.u.now) (numbers-size c.args.u.now (search rules)) (λ s. refl))

pub offset_bounds-u-p : goal.offset_bounds-u-p
offset_bounds-u-p c = omega (arith, entry_lt (at (goal.at.offset_bounds-u-p c).In-loop-p))

pub bounds-u-p : goal.bounds-u-p
bounds-u-p c = entry_lt (at (goal.at.bounds-u-p c).In-loop-p)

-- the number is zero
pub loop-p-preserved-then-x-eq0 : goal.loop-p-preserved-then-x-eq0
loop-p-preserved-then-x-eq0 c =
    let z : (unpack_of (get_or c.loop-p.u c.loop-p.p 0)).m ≡ 0 = ap (λ (q : Number). q.m) (sym c.unpack-x.ensures) ∙ c.if-x-eq0.true in
    (next (goal.at.loop-p-preserved-then-x-eq0 c).In-loop-p, entry-passed (at (goal.at.loop-p-preserved-then-x-eq0 c).In-loop-p) z)

pub set_in-s-requires : goal.set_in-s-requires
set_in-s-requires c = (omega arith, below (goal.at.set_in-s-requires c).In-loop-p, c.begin-begin.ensures, c.args.self.now.listed.listed)

pub scaled-requires : goal.scaled-requires
scaled-requires c = record {
  reached = (omega arith, subst (Ranged letter_reach) (sym c.unpack-x.ensures) (entry_ready (at (goal.at.scaled-requires c).In-loop-p)));
  stored = c.requires.stored.1;
}

pub pack-requires : goal.pack-requires
pack-requires c = (c.scaled.ensures.ranged.high, omega (arith, c.scaled.ensures.ranged.stop))

pub offset_bounds-u-p-in-loop-p : goal.offset_bounds-u-p-in-loop-p
offset_bounds-u-p-in-loop-p c = omega (arith, entry_lt (at (goal.at.offset_bounds-u-p-in-loop-p c).In-loop-p))

pub bounds-u-p-in-loop-p : goal.bounds-u-p-in-loop-p
bounds-u-p-in-loop-p c = entry_lt (at (goal.at.bounds-u-p-in-loop-p c).In-loop-p)

pub loop-p-preserved : goal.loop-p-preserved
loop-p-preserved c = (
  next (goal.at.loop-p-preserved c).In-loop-p,
  entry_next (known (goal.at.loop-p-preserved c).In-loop-p c.set_in-s.result c.set_in-s.ensures) c.scaled.result c.pack.result
      (c.scaled.ensures.value ∙ ap (scaled rounded (scaling (divides c.args.way))
      (entries (goal.at.loop-p-preserved c).In-loop-p) (of_mask c.args.self.now.n c.set_in-s.result)) c.unpack-x.ensures)
      c.scaled.ensures.ranged.high c.pack.ensures,
)

pub returns : goal.returns
returns c =
    let a = c.args in
    let s = a.self.now in
    let e = entries_of s.n (backwards a.way) (table_in s.factors.now a.c) in
    diagonal-all s.n s.k (divides a.way) e (numbers_of a.u.now) s.rows.2 c.loop-p.invariant.1
    (omega (arith, c.sets_of-p-end.ensures.value))
