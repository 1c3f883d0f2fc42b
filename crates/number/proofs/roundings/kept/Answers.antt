-- `kept` meets its contract: the digits that are kept of what was lifted are those of the direction.
use mathlib.Core.Path.{ap, ◌∙◌}
use Prim.Native.Nat.{ℕ}
use Rattle.number.proofs.Digits.{last_of, kept-is}
use Rattle.number.proofs.roundings.kept.Goals as goal

pub returns : goal.returns
returns c = ap (λ (r : ℕ). last_of r c.args.x) c.lifted-r.ensures ∙ kept-is c.args.direction c.args.p c.args.x c.requires.0 c.requires.1
