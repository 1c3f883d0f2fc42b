-- `exchanged` meets its contract: each cell is that of the exchange.
use mathlib.Core.Path.{◌∙◌}
use Prim.Native.Nat.{ℕ, ◌+◌, ◌*◌, ◌/◌, ◌%◌}
use lib.ListN.{get_or}
use Rattle.words.specs.Word.{exchanged}
use Rattle.table.specs.Table.{absent, factors_of}
use Rattle.table.proofs.Made.{made}
use Rattle.table.proofs.Table.{table-cells, exchanged-cell}
use borrow.Author.Rules.{rules}
use Rattle.table.proofs.exchanged.Goals as goal

pub returns : goal.returns
returns c = let t = c.args.t in let w = c.from_fn.ensures.items in
    table-cells 8 (exchanged (factors_of t)) absent c.from_fn.result w.long
    (λ k l. made (λ (i : ℕ). get_or t (i % 8 * 8 + i / 8) absent) (λ x r q e. (search rules, search rules)) _ absent w k l
    ∙ exchanged-cell t k (search rules) l)
