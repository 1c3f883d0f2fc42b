-- `difference` meets its contract: the distance, negative where the second is larger.
use mathlib.Core.Path.{ap, ◌∙◌}
use Prim.Native.Nat.{ℕ}
use lib.Dec.{ltb}
use Rattle.rests.specs.Rest.{odd_part}
use Rattle.rests.proofs.Parts.{rest-apart}
use Rattle.rests.proofs.difference.Goals as goal

pub returns : goal.returns
returns c = let a = c.args in c.odd_part.ensures ∙ ap (λ (n : ℕ). odd_part (ltb a.p a.q) n a.x) c.abs_diff.ensures ∙ rest-apart a.p a.q a.x
