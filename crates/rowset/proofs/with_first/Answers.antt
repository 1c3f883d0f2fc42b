-- `with_first` meets its contract: the rows 1 .. k, and s shifted by k.
use mathlib.Core.Path.{ap, ◌∙◌}
use Prim.Native.Nat.{ℕ, ◌*◌, ◌%◌, ◌^◌}
use lib.Bits.{bit_or}
use Rattle.rowset.proofs.First.{shift-first}
use borrow.Author.Rules.{rules}
use Rattle.rowset.proofs.with_first.Goals as goal

pub returns : goal.returns
returns c = let a = c.args in
    ap (λ (x : ℕ). bit_or x (a.s * 2 ^ a.k % 2 ^ 64)) c.run.ensures.value ∙ shift-first a.s a.k (search rules) (search rules)
