-- Where the sets of k rows begin in the table of all sets: counted up (begins), and that they fit (begin-fits).
use mathlib.Core.Path.{◌≡◌, refl, sym, ap, ◌∙◌, subst}
use mathlib.Core.List.{List}
use Prim.Native.Nat.{ℕ, ◌+◌, ◌≤◌, ◌<◌}
use native.Mathlib.Omega.{arith}
use lib.ListN.{get_or}
use Rattle.rowset.specs.Mask.{mask_has, count_to, mask_count, count_below}
use Rattle.rowset.specs.Sets.{begin_of, SetAt, Listed}
use Rattle.rowset.proofs.Order.{those, before, set-fits}
use Rattle.rowset.proofs.Tabulated.{tabulated, tabulated-first}

lists : tabulated (before 0) 0 9 ≡ tabulated begin_of 0 9
unfolding tabulated before those mask_count count_to mask_has begin_of count_below
lists = refl

pub begins : (k : ℕ) → k ≤ 8 → before 0 k ≡ begin_of k
begins k h =
    sym (tabulated-first (before 0) 9 k (omega arith)) ∙ ap (λ (t : List ℕ). get_or t k 0) lists ∙ tabulated-first begin_of 9 k (omega arith)

pub begin-fits : (k : ℕ) → k ≤ 8 → begin_of k + count_below k 256 ≤ 256
begin-fits k h = omega (arith, begins k h, set-fits k h)

-- the set read from a table that holds them
pub listed_at : (t : List ℕ) (b k p r : ℕ) → Listed t → k ≤ 8 → p < count_below k 256 → b ≡ begin_of k → r ≡ get_or t (b + p) 0 → SetAt k p r
listed_at t b k p r l h g e f = subst (SetAt k p) (sym (f ∙ ap (λ (i : ℕ). get_or t (i + p) 0) e)) (l.entry k p h g)
