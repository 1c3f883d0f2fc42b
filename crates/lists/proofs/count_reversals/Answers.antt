-- `count_reversals` meets its contract: a list that is not read is no proper one, and a proper list's items are the first ones read.
use mathlib.Core.Path.{sym, ap, ◌∙◌}
use Prim.Native.Nat.{ℕ}
use native.Mathlib.Omega.{arith}
use Rattle.std.specs.Prelude.{Ok, Err}
use Rattle.verdict.specs.declared.Refusal.{Refusal}
use Rattle.items.specs.Items.{list_of}
use Rattle.items.proofs.ListRead.{Read, read_is, not-read}
use Rattle.lists.specs.Lists.{reversals_report}
use Rattle.lists.proofs.Outcomes.{reversals-counted, reversals-refused}
use Rattle.lists.proofs.count_reversals.Goals as goal
use Rattle.lists.proofs.count_reversals.Goals.{In-Some}

pub returns-in_default : goal.returns-in_default
returns-in_default c =
    ap (λ (w : Refusal). reversals_report (Err w)) c.into.ensures ∙ reversals-refused _ (not-read 1 8 _ (sym c.in_default.is ∙ c.read.ensures))

-- the list as it was read
list : (c : In-Some) → Read 1 8 (list_of c.args.items.now) c.in-Some.list
list c = read_is 1 8 _ _ (omega arith) (sym c.in-Some.is ∙ c.read.ensures)

pub count-requires : goal.count-requires
count-requires c = (list (goal.at.count-requires c).In-Some).few

pub returns : goal.returns
returns c = ap (λ (k : ℕ). reversals_report (Ok k)) c.count.ensures ∙ reversals-counted _ _ (list (goal.at.returns c).In-Some)
