-- `round_integer` meets its contract: by its leading zeros a word has more than 32 digits, or at most 32.
use mathlib.Core.Path.{◌≡◌, sym, ap, ◌∙◌}
use Prim.Native.Nat.{ℕ, ◌+◌, ◌-◌, ◌*◌, ◌^◌, ◌≤◌, ◌<◌}
use native.Mathlib.Nat.{le_of_lt}
use native.Mathlib.Omega.{arith}
use Rattle.number.proofs.Exact.{zeros-lt, zeros-long, zeros-short, integer-long, integer-short}
use Rattle.number.specs.Number.{round}
use Rattle.number.specs.declared.Direction.TheVariants.{Nearest}
use Rattle.number.proofs.roundings.round_integer.Goals as goal
use Rattle.number.proofs.roundings.round_integer.Goals.{After-from-z, Else-z-lt32}

lt : (c : After-from-z) → c.from-z.result < 64
lt c = zeros-lt c.args.n _ c.from-z.ensures c.requires.0 c.ranges.n.fits

-- where zeros are joined: the digits as they are then
short : (c : Else-z-lt32) → let d = c.args.n * 2 ^ (c.from-z.result - 32) in (2 ^ 31 ≤ d) × (d < 2 ^ 32)
short c = zeros-short c.args.n _ c.from-z.ensures c.requires.0 c.ranges.n.fits c.if-z-lt32.false

pub round_long-requires : goal.round_long-requires
round_long-requires c = let g = zeros-long c.args.n _ c.from-z.ensures c.requires.0 c.ranges.n.fits (le_of_lt c.if-z-lt32.true) in
    (omega arith, g.0, g.1, c.requires.2)

pub returns-then-z-lt32 : goal.returns-then-z-lt32
returns-then-z-lt32 c = let g = zeros-long c.args.n _ c.from-z.ensures c.requires.0 c.ranges.n.fits (le_of_lt c.if-z-lt32.true) in
    c.round_long.ensures ∙ sym (integer-long Nearest c.args.n c.args.x (32 - c.from-z.result) c.requires.0 g.0 g.1)

pub overflow_mul-n : goal.overflow_mul-n
overflow_mul-n c = rw c.power.ensures (omega (arith, short (goal.at.overflow_mul-n c).Else-z-lt32))

pub round-requires : goal.round-requires
round-requires c = rw c.power.ensures (omega (arith, short (goal.at.round-requires c).Else-z-lt32))

-- a whole number leaves no remainder
joined : (k : ℕ) → k * 1 + 0 ≡ k
joined k = omega arith

pub returns : goal.returns
returns c = let w = c.from-z.result - 32 in
    let g = short (goal.at.returns c).Else-z-lt32 in
    c.round.ensures ∙ ap (λ (k : ℕ). round k 1 (c.args.x - w)) (joined (c.args.n * c.power.result))
    ∙ ap (λ (d : ℕ). round (c.args.n * d) 1 (c.args.x - w)) c.power.ensures
    ∙ sym (integer-short c.args.n c.args.x w c.requires.0 (omega (arith, lt (goal.at.returns c).After-from-z)) g.0 g.1)
