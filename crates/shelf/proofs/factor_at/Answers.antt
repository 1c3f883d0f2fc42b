-- A factor of a place: zero where the place has none, else what its table holds there (laws in FactorReads).
use Prim.Native.Nat.{◌+◌, ◌-◌, ◌*◌, ◌<◌}
use native.Mathlib.Omega.{arith}
use mathlib.Core.Path.{◌∙◌}
use mir.Syntax.{w64}
use mir.Val.{SFits}
use mir.Facts.{to_z-of_z}
use Rattle.std.proofs.lemmas.Grind.{common_steps}
use Rattle.words.specs.RowSet.{In}
use Rattle.places.specs.Shelf.{rows_at}
use Rattle.shelf.proofs.FactorReads.{Beyond, place-small, factor-below, factor-is, factor-exponent, factor-done, factor-none}
use Rattle.shelf.proofs.factor_at.Goals as goal
use Rattle.shelf.proofs.factor_at.Goals.{Else-absent}

row : (c : Else-absent) → In (rows_at c.args.shelf c.args.place) c.args.i
row c = grind (arith, common_steps)

column : (c : Else-absent) → In (rows_at c.args.shelf c.args.place) c.args.j
column c = grind (arith, common_steps)

below : (c : Else-absent) → (c.args.i - 1) * 8 + (c.args.j - 1) < 64
below c = factor-below _ c.requires _ _ _ (row c) (column c)

pub returns-then-absent : goal.returns-then-absent
returns-then-absent c =
    let h : Beyond (rows_at c.args.shelf c.args.place) c.args.i c.args.j = grind (arith, common_steps) in
    factor-none c.args.shelf c.requires c.args.place c.args.i c.args.j h

pub table_at-t-requires : goal.table_at-t-requires
table_at-t-requires c = let r = row (goal.at.table_at-t-requires c).Else-absent in place-small _ c.requires _ (omega arith)

pub overflow_mul-a : goal.overflow_mul-a
overflow_mul-a c = record { fits = omega (arith, below (goal.at.overflow_mul-a c).Else-absent) }

pub overflow_add-a : goal.overflow_add-a
overflow_add-a c = record { fits = omega (arith, below (goal.at.overflow_add-a c).Else-absent) }

pub offset_bounds-t-i : goal.offset_bounds-t-i
offset_bounds-t-i c = record { fits = omega (arith, below (goal.at.offset_bounds-t-i c).Else-absent) }

pub bounds-t-i : goal.bounds-t-i
bounds-t-i c = below (goal.at.bounds-t-i c).Else-absent

pub exponent-requires : goal.exponent-requires
exponent-requires c =
    let b = (goal.at.exponent-requires c).Else-absent in
    factor-exponent _ c.requires _ _ _ (row b) (column b) _ c.table_at-t.ensures

pub returns : goal.returns
returns c =
    let b = (goal.at.returns c).Else-absent in
    let e : SFits w64 c.exponent.result = record { sfits = c.exponent.type_inv } in
    factor-done _ c.requires _ _ _ (row b) (column b) _ _ (factor-is _ c.requires _ _ _ (row b) (column b) _ c.table_at-t.ensures)
    (to_z-of_z e ∙ c.exponent.ensures)
