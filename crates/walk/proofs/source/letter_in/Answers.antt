-- `letter_in` meets its contract: the code that was spelled there gives its move back (decoded), since that lies within the rows (move-within).
use mathlib.Core.Path.{sym, ◌∙◌, subst}
use native.Mathlib.Omega.{arith}
use Rattle.walk.specs.Letters.{MoveWithin}
use Rattle.walk.proofs.Lent.{decoded, within-few}
use Rattle.walk.proofs.Spelling.{middle-few, move-within}
use Rattle.walk.proofs.source.letter_in.Goals as goal

pub overflow_add-c : goal.overflow_add-c
overflow_add-c c = omega (arith, middle-few c.args.n c.requires.le_n.1)

pub bounds-l-c : goal.bounds-l-c
bounds-l-c c = omega (arith, middle-few c.args.n c.requires.le_n.1)

pub returns : goal.returns
returns c =
    let a = c.args in
    let p = c.requires.le_n in
    let w = move-within a.n a.way p.0 p.1 a.t p.3 p.4 in
    let f = within-few p.1 w in
    let e = decoded _ c.from-v.result (c.from-v.ensures ∙ c.requires.spelled.letter a.t p.3 p.4) f.0 f.2 in
    record { value = e; move_within = subst (MoveWithin a.n) (sym e) w }
