-- `with_table` meets its contract: the table is put (`put`), and the shelf stays good (`good-put`).
use mathlib.Core.Path.{◌≡◌, sym, ap, subst}
use mathlib.Core.List.{List}
use lib.ListN.{set}
use Rattle.number.specs.declared.Number.{Number}
use Rattle.places.specs.declared.Shelf.{Shelf}
use Rattle.places.specs.Shelf.{with_table, Good}
use Rattle.places.proofs.Holding.{good-put}
use Rattle.places.proofs.with_table.Goals as goal

pub returns : goal.returns
unfolding with_table
returns c =
    let a = c.args in
    let p = c.requires in
    let same : _ ≡ with_table a.shelf a.place a.n a.t =
    ap (λ (x : List Number). let r : Shelf = record { numbers = x; sizes = set a.shelf.sizes a.place a.n } in r) c.put.ensures in
    record { value = same; good = subst Good (sym same) (good-put a.shelf p.0 a.place a.n a.t p.1 p.2) }
