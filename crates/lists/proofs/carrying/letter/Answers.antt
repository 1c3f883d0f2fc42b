-- `letter` meets its contract: D in the middle of the word, else a move.
use borrow.Author.Rules.{rules}
use mathlib.Core.Path.{◌≡◌, sym, ◌∙◌, subst}
use mathlib.Core.List.{[], ◌∷◌}
use native.Mathlib.Omega.{arith}
use lib.ListN.{length, get_or}
use Rattle.number.specs.Number.{zero_number}
use Rattle.number.specs.Signed.{SignedRanged}
use Rattle.walk.specs.Letters.{middle}
use Rattle.table.specs.Table.{factors_of, absent}
use Rattle.table.proofs.Table.{read-default}
use Rattle.items.specs.Items.{vector_of}
use Rattle.lists.specs.Carrying.{Carries, letter_of, working_reach}
use Rattle.lists.proofs.Spelled.{factor-ranged, carries-moved, carries-scaled}
use Rattle.lists.proofs.carrying.letter.Goals as goal
use Rattle.lists.proofs.carrying.letter.Goals.{After-move_at-l, Else-t-middle}

pub returns-then-t-middle : goal.returns-then-t-middle
returns-then-t-middle c =
    let a = c.args in
    let p = c.requires.le_n in
    carries-scaled a.b a.n p.0 p.1 a.t p.2 (c.if-t-middle.true ∙ c.middle.ensures.value) a.v.now c.scale.new.v c.scale.ensures

-- not the letter in the middle
apart : (c : Else-t-middle) → c.args.t ≡ middle c.args.n → ⊥
apart c e = c.if-t-middle.false (e ∙ sym c.middle.ensures.value)

-- the letter's factor
factor : (c : After-move_at-l) → get_or c.args.b c.move_at-l.result.at absent ≡ get_or c.args.b c.move_at-l.result.at zero_number
factor c =
    let e : length c.args.b ≡ 64 = search rules in
    read-default c.args.b c.move_at-l.result.at (omega (arith, c.move_at-l.ensures.move_within.place))

pub add-requires-clause-signed_ranged : goal.add-requires-clause-signed_ranged
add-requires-clause-signed_ranged c =
    let a = c.args in
    let m = c.move_at-l in
    let p = c.requires.le_n in
    let rows = m.ensures.move_within.rows in
    let v = c.requires.items_ranged.0.ranged in
    let to : SignedRanged working_reach (vector_of a.v.now m.result.to) = v m.result.to (rows.to_low, rows.to_high) in
    let from : SignedRanged working_reach (vector_of a.v.now m.result.from) = v m.result.from (rows.from_low, rows.from-high) in (
      (search),
      (search),
      factor-ranged a.b a.n p.0 p.1 a.t p.2 c.requires.items_ranged.1 (apart (goal.at.add-requires-clause-signed_ranged c).Else-t-middle)
          m.result m.ensures.value _ (factor (goal.at.add-requires-clause-signed_ranged c).After-move_at-l),
    )

pub returns-else-t-middle : goal.returns-else-t-middle
returns-else-t-middle c =
    let a = c.args in
    let m = c.move_at-l in
    let p = c.requires.le_n in
    subst (Carries a.n (letter_of a.n (factors_of a.b) a.t ∷ []) a.v.now) (sym c.add.ensures)
    (carries-moved a.b a.n p.0 p.1 a.t p.2 a.v.now c.requires.items_ranged.0.eight (apart (goal.at.returns-else-t-middle c).Else-t-middle) m.result
    m.ensures.value m.ensures.move_within _ (factor (goal.at.returns-else-t-middle c).After-move_at-l))
