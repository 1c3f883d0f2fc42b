-- The numbers of a walk in words: what 70 words stand for (numbers_of), and the state that they hold (held_by).
use Rattle.std.specs.Prelude.{List, map, ℕ}
use Rattle.number.specs.Number.{rounded}
use Rattle.number.specs.Packed.{unpack_of}
use Rattle.number.specs.declared.Number.{Number}
use Rattle.words.specs.Walk.{State}
use Rattle.walk.specs.Held.{state_of}

abbrev pub numbers_of : List ℕ → List Number
numbers_of u = map unpack_of u

abbrev pub held_by : List ℕ → State rounded
held_by u = state_of (numbers_of u)
