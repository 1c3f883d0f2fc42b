-- That the rule can be run is known in one way at most (workable-single): so it may stand in a run's type.
use mathlib.Core.List.{List, [], ◌∷◌}
use mathlib.Core.HLevel.{×_prop, Unit-prop}
use Prim.Native.Nat.{ℕ}
use Rattle.std.proofs.Props.{props}
use Rattle.number.specs.declared.Number.{Number}
use Rattle.words.specs.Operation.{Step, step}
use Rattle.words.specs.Sources.{Walkable, Sources}
use Rattle.walk.specs.Lent.{steps_of}
use Rattle.rule.specs.declared.Chosen.{Chosen}
use Rattle.rule.specs.Chosen.{Workable}

-- of the factors of steps that they can be walked: likewise
sources-single : (n : ℕ) (L : List (Step Number)) → IsProp (Sources (Walkable n) L)
sources-single n [] = Unit-prop
sources-single n (step w b ∷ L) = ×_prop (hlevel props) (sources-single n L)

pub workable-single : (c : Chosen) (f : List ℕ) → IsProp (Workable c f)
workable-single c f = hlevel (props, sources-single c.word.n (steps_of c.word f))
