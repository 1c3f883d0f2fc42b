-- `sets_of` meets its contract: the table is the list of all counts, one computed comparison.
use borrow.Author.Rules.{rules}
use mathlib.Core.Path.{◌≡◌, ◌∙◌}
use Prim.Native.Nat.{◌+◌, ◌*◌, ◌^◌, ◌≤◌}
use native.Mathlib.Omega.{arith}
use lib.ListN.{get_or}
use lib.Pow.{pow_mono}
use Rattle.rowset.specs.Mask.{mask_has, count_to, mask_count, count_below}
use Rattle.rowset.proofs.Order.{counted, counted-at, sets-few}
use Rattle.rowset.proofs.Tabulated.{tabulated}
use Rattle.rowset.proofs.sets.sets_of.Goals as goal

pub returns : goal.returns
unfolding tabulated counted count_below mask_count count_to mask_has
returns c =
    let e : c.wide.result ≡ get_or (tabulated counted 0 81) (c.args.n * 9 + c.args.k) 0 = c.wide.ensures.value in
    let r : c.wide.result ≡ count_below c.args.k (2 ^ c.args.n) = e ∙ counted-at c.args.n c.args.k (search rules) (search rules) in
    let h : c.args.n ≤ 8 = search rules in
    let p : 2 ^ c.args.n ≤ 2 ^ 8 = pow_mono h in
    record { value = r; upper_bound = omega (arith, sets-few c.args.k (2 ^ c.args.n) (search rules) p) }
