-- `begin` meets its contract: one computed comparison of the whole table.
use mathlib.Core.Path.{◌≡◌, ◌∙◌}
use native.Mathlib.Omega.{arith}
use lib.ListN.{get_or}
use Rattle.rowset.specs.Mask.{mask_has, count_to, mask_count, count_below}
use Rattle.rowset.specs.Sets.{begin_of}
use Rattle.rowset.proofs.Tabulated.{tabulated, tabulated-first}
use Rattle.rowset.proofs.lent.begin.Goals as goal

pub returns : goal.returns
unfolding tabulated begin_of count_below mask_count count_to mask_has
returns c = let e : c.wide.result ≡ get_or (tabulated begin_of 0 9) c.args.k 0 = c.wide.ensures.value in
    e ∙ tabulated-first begin_of 9 c.args.k (omega arith)
