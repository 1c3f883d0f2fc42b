-- `put_factors` meets its contract. The invariant: the first t factors are put.
use borrow.Author.Rules.{rules}
use mathlib.Core.Path.{◌≡◌, refl}
use native.Mathlib.Omega.{arith}
use lib.ListN.{length}
use Rattle.arrays.proofs.Structs.{length-mapped}
use Rattle.walk.proofs.Lent.{put-none, put_next, put_all}
use Rattle.walk.proofs.source.put_factors.Goals as goal

pub loop-t-init : goal.loop-t-init
loop-t-init c = (omega arith, put-none c.requires.1)

pub loop-t-preserved : goal.loop-t-preserved
loop-t-preserved c = (omega arith, put_next c.loop-t.invariant.1 c.requires.0 (omega arith) _ _ _ _ refl refl refl refl)

pub returns : goal.returns
returns c =
    let e : c.loop-t.t ≡ 64 = omega arith in
    let P = rw e at c.loop-t.invariant.1 in
    let l : length c.args.table ≡ 64 = search (rules, length-mapped) in
    record { c_after = put_all P l; kept = record { same = P.before }; b_len = P.size }
