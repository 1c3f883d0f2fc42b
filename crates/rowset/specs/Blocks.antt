-- A table on the way (Filled): its sets and positions stand, and of its blocks, taken by the lower of their two rows, the first entries.
-- Only the step that fills two blocks promises it, and a contract cites specs alone: it stands here for that, and no caller reads it.
use Rattle.std.specs.Prelude.{◌≡◌, List, ℕ, ◌+◌, ◌-◌, ◌*◌, ◌^◌, ◌<◌, min, get_or}
use Rattle.rowset.specs.Mask.{position_of}
use Rattle.rowset.specs.Sets.{Neighbours, changed_of, block_of, Listed, Placed}

-- of n rows; what stands at m in the blocks of the rows l and l + 1 counts as l * 64 + m, and each below w is there
pub record Filled (n w : ℕ) (t : List ℕ) : Type 0 where
  pub listed : Listed t
  pub placed : Placed t
  pub entry :
      (a o m : ℕ) → Neighbours n a o → m < 2 ^ (n - 2) → min a o * 64 + m < w → get_or t (512 + (block_of a o * 64 + m)) 0 ≡ position_of (changed_of a o m)
