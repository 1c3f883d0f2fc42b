-- The empty shelf is what its definition says, and good.
use mathlib.Core.Path.{sym, ap, subst}
use lib.ListN.{replicate}
use Rattle.number.specs.declared.Number.{Number}
use Rattle.places.specs.declared.Shelf.{Shelf}
use Rattle.places.specs.Shelf.{Good}
use Rattle.places.specs.Shelf.{empty_shelf}
use Rattle.places.proofs.Holding.{good-empty}
use Rattle.places.proofs.new.Goals as goal

-- eight empty places, and one number everywhere
abbrev filled : Number → Shelf
filled z = record { numbers = replicate 512 z; sizes = replicate 8 0 }

pub returns : goal.returns
unfolding empty_shelf
returns c = let e = ap filled c.zero.ensures in record { value = e; good = subst Good (sym e) good-empty }
