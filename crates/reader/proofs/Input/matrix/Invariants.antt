-- The invariant of the loop of `reader::Input::matrix`: the factors read so far, and those behind the offset, make what the definition reads.
use Prim.Native.Nat.{◌*◌}
use mathlib.Core.Path.{◌≡◌}
use Rattle.reader.proofs.Reading.{ReadSoFar}
use Rattle.reader.proofs.Input.matrix.Given as goal

abbrev pub invariant-loop-k : goal.invariant-loop-k
invariant-loop-k l =
    (l.self.bytes ≡ l.initial.self.bytes) × ReadSoFar l.initial.self.bytes.now l.n (l.n * l.n) l.initial.self.at l.numbers l.self.at l.k
