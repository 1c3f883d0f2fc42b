-- A step by the index of its comma (`step_is`): the place stands before it, the way behind it.
use Prim.Native.Nat.{ℕ, ◌+◌, ◌-◌, ◌^◌}
use mathlib.Core.Path.{◌≡◌}
use mathlib.Core.List.{List}
use lib.ListN.{length, take, drop}
use Rattle.walk.specs.declared.Way.{Way}
use Rattle.std.specs.Prelude.{Option}
use Rattle.lines.specs.Decimal.{spelled_whole}
use Rattle.lines.specs.Words.{before}
use Rattle.requests.specs.Steps.{spelled_way, code_by, spelled_step}
use Rattle.requests.proofs.Triples.{part-before}

module _ (w last : List ℕ) (a : ℕ) (x : Option ℕ) (y : Option Way) where
  pub step_is : a ≡ length (before 44 w) → last ≡ drop (a + 1) w → x ≡ spelled_whole (take a w) (2 ^ 32 - 1) → y ≡ spelled_way last →
      code_by x y ≡ spelled_step w
  unfolding spelled_step
  step_is ea el ex ey =
      let el2 : last ≡ drop (length (before 44 w) + 1) w = rw ea at el in
      rw (ex, ey, part-before w a ea, el2)
