-- `unpack` meets its contract: by its text.
use mathlib.Core.Path.{refl}
use Rattle.number.specs.Packed.{unpack_of}
use Rattle.number.proofs.packed.unpack.Goals as goal

pub returns : goal.returns
unfolding unpack_of
returns c = refl
