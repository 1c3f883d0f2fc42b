-- `rows_at` meets its contract: a place above 7 is past the end of the sizes.
use native.Mathlib.Omega.{arith}
use mathlib.Core.Path.{◌≡◌, sym}
use lib.ListN.{length, get_or-eq_default}
use Rattle.places.specs.Shelf.{rows_at}
use borrow.Author.Rules.{rules}
use Rattle.places.proofs.rows_at.Goals as goal

pub returns-then-place-gt7 : goal.returns-then-place-gt7
unfolding rows_at
returns-then-place-gt7 c = let a = c.args in
    let l : length a.shelf.sizes ≡ 8 = search rules in
    sym (get_or-eq_default a.shelf.sizes 0 (omega (arith, c.if-place-gt7.true)))

pub returns : goal.returns
unfolding rows_at
returns c = search rules
