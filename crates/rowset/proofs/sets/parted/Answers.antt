-- `parted` meets its contract: the rows from l on go two places up, three times their number is added.
use borrow.Author.Rules.{rules}
use mathlib.Core.Path.{◌≡◌, ap}
use Prim.Native.Nat.{ℕ, ◌+◌, ◌-◌, ◌*◌, ◌/◌, ◌%◌, ◌^◌, ◌<◌}
use native.Mathlib.Nat.{mod-eq_of_lt, div-mul-le_self}
use native.Mathlib.Omega.{arith}
use Rattle.rowset.specs.Sets.{parted_of}
use Rattle.rowset.proofs.sets.parted.Goals as goal

-- the shift back loses nothing
whole : (m d : ℕ) → m < 64 → m / 2 ^ d * 2 ^ d % 2 ^ 64 ≡ m / 2 ^ d * 2 ^ d
whole m d h = mod-eq_of_lt (omega (arith, div-mul-le_self m (2 ^ d)))

pub overflow_mul-result : goal.overflow_mul-result
overflow_mul-result c = let a = c.args in omega (arith, whole a.m (a.l - 1) (search rules), div-mul-le_self a.m (2 ^ (a.l - 1)))

pub overflow_add-result : goal.overflow_add-result
overflow_add-result c = let a = c.args in omega (arith, whole a.m (a.l - 1) (search rules), div-mul-le_self a.m (2 ^ (a.l - 1)))

pub returns : goal.returns
unfolding parted_of
returns c = let a = c.args in ap (λ (x : ℕ). a.m + 3 * x) (whole a.m (a.l - 1) (search rules))
