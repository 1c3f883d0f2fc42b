-- `read` meets its contract: a wrong count of numbers shows before any item is read. The invariant: the whole list is what the rest of the numbers gives, put
-- behind the k items read.
use mathlib.Core.Path.{◌≡◌, sym, ap, ◌∙◌}
use Prim.Native.Nat.{ℕ, ◌+◌, ◌*◌, ◌/◌, ◌<◌}
use Rattle.std.specs.Prelude.{Some}
use native.Mathlib.Omega.{arith}
use lib.ListN.{length}
use Rattle.number.proofs.Integers.{read_is}
use Rattle.items.specs.Items.{item_in, list_of, listed_within, listed_from, blank_items}
use Rattle.items.proofs.Reading.{listed-value, listed-malformed, listed-end, listed-improper, listed-proper}
use Rattle.items.proofs.read.Goals as goal
use Rattle.items.proofs.read.Goals.{After-item_of, At-loop-k}

pub returns-then-items-ne0 : goal.returns-then-items-ne0
returns-then-items-ne0 c = sym (listed-improper _ _ _ (λ n e l m. grind arith))

-- the list is judged by its items alone
judged : (c : At-loop-k) → listed_within c.args.least c.args.most (list_of c.args.items.now) ≡ listed_from blank_items 0 (list_of c.args.items.now)
judged c = listed-proper _ _ _ (omega arith) (omega arith)

-- the item that is read
item : (c : After-item_of) → c.item_of.result ≡ item_in c.args.items.now c.loop-k.k
item c =
    let z = c.args.items.now in
    let k = c.loop-k.k in
    rw (read_is z (3 * k) (omega arith), read_is z (3 * k + 1) (omega arith), read_is z (3 * k + 2) (omega arith)) at c.item_of.ensures

-- there is one more item to read
more : (c : After-item_of) → 3 * c.loop-k.k + 2 < length c.args.items.now
more c = omega arith

pub returns-in_err-list : goal.returns-in_err-list
returns-in_err-list c =
    let p = (goal.at.returns-in_err-list c).After-item_of in
    c.from_residual.ensures ∙ sym (judged (goal.at.returns-in_err-list c).At-loop-k ∙ c.loop-k.invariant
    ∙ listed-malformed c.args.items.now c.loop-k.list c.loop-k.k (more p) (sym (item p) ∙ c.in_err-list.was))

pub loop-k-preserved : goal.loop-k-preserved
loop-k-preserved c =
    let p = (goal.at.loop-k-preserved c).After-item_of in
    c.loop-k.invariant
    ∙ listed-value c.args.items.now c.loop-k.list c.loop-k.k c.in_ok-list.field-0 (more p) (sym (item p) ∙ c.in_ok-list.was)

pub returns : goal.returns
returns c =
    let e : c.loop-k.k ≡ length c.args.items.now / 3 = omega arith in
    sym (judged (goal.at.returns c).At-loop-k ∙ c.loop-k.invariant ∙ listed-end c.args.items.now c.loop-k.list c.loop-k.k (omega arith)
    ∙ ap (λ (n : ℕ). Some (record { count = n; items = c.loop-k.list })) e)
