-- `plain_at` meets its contract: a letter of the second half is the counterpart of one in the first.
use mathlib.Core.Path.{◌≡◌, sym, ap, ◌∙◌}
use Prim.Native.Nat.{◌-◌, ◌*◌}
use native.Mathlib.Omega.{arith}
use Rattle.walk.specs.declared.Way.TheVariants.{Plain}
use Rattle.walk.specs.Letters.{middle, move_at}
use Rattle.walk.proofs.letters.plain_at.Goals as goal

pub returns-then-t-h : goal.returns-then-t-h
returns-then-t-h c = sym c.cell_at-x.ensures.below

pub returns : goal.returns
returns c =
    let a = c.args in
    let h = c.middle-h in
    let e : 2 * middle a.n - (2 * h.result - a.t) ≡ a.t = omega (arith, h.ensures.value) in
    sym (ap (move_at a.n Plain) (sym e) ∙ c.cell_at-x-2.ensures.above)
