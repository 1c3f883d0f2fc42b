-- `pack` meets its contract: it fits a word.
use mathlib.Core.Path.{refl}
use Rattle.number.specs.Packed.{pack_of}
use Rattle.number.proofs.packed.pack.Goals as goal

pub returns : goal.returns
unfolding pack_of
returns c = refl
