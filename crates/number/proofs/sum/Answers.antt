-- `sum` meets its contract: brought to one exponent, and 32 digits kept.
use mathlib.Core.Path.{◌≡◌, sym, ap, ◌∙◌}
use Prim.Native.Nat.{ℕ, ◌+◌, ◌-◌, min}
use native.Mathlib.Omega.{arith}
use Rattle.number.proofs.Sums.{aligned-low, aligned-high, aligned-is}
use Rattle.number.specs.Number.{round_by}
use Rattle.number.specs.Digits.{aligned_of}
use Rattle.number.proofs.sum.Goals as goal

pub kept-requires : goal.kept-requires
kept-requires c = let a = c.args.a in
    let b = c.args.b in
    let k = c.min-k.result in
    omega (arith, c.aligned.ensures, aligned-low a.m b.m k c.requires.0.low, aligned-high a.m b.m k c.requires.0.high c.requires.1)

pub returns : goal.returns
returns c = let a = c.args.a in
    let b = c.args.b in
    let k = a.x - b.x in
    let w = c.args.direction in
    let e : b.x + k ≡ a.x = omega arith in
    c.kept.ensures
    ∙ ap (λ (p : ℕ). round_by w p 1 (a.x - 31)) (c.aligned.ensures ∙ ap (aligned_of a.m b.m) c.min-k.ensures)
    ∙ ap (λ (i : ℕ). round_by w (aligned_of a.m b.m (min k 63)) 1 (i - 31)) (sym e)
    ∙ aligned-is w a.m b.m b.x k c.requires.0.low c.requires.0.high c.requires.1 (omega arith)
