-- `all_sets` meets its contract: one computed comparison of the whole table.
use mathlib.Core.Path.{subst}
use Prim.Native.Nat.{ℕ, ◌+◌}
use lib.ListN.{get_or}
use Rattle.rowset.specs.Mask.{mask_has, count_to, mask_count}
use Rattle.rowset.specs.Sets.{SetAt}
use Rattle.rowset.proofs.Order.{those, table, set_at}
use Rattle.rowset.proofs.Begins.{begins}
use Rattle.rowset.proofs.lent.all_sets.Goals as goal

pub returns : goal.returns
unfolding table those mask_count count_to mask_has
returns c = record { entry = λ k p h g. subst (λ (i : ℕ). SetAt k p (get_or (table 0 9) (i + p) 0)) (begins k h) (set_at k p h g) }
