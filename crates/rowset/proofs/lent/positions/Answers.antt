-- `positions` meets its contract: one computed comparison of the whole table.
use Rattle.rowset.specs.Mask.{mask_has, count_to, mask_count, count_below, position_of}
use Rattle.rowset.proofs.Tabulated.{tabulated, tabulated-first}
use Rattle.rowset.proofs.lent.positions.Goals as goal

pub returns : goal.returns
unfolding tabulated position_of count_below mask_count count_to mask_has
returns c = tabulated-first position_of 256
