-- `sum` meets its contract. The rest is worked from the result: what that has more than the first operand is exact, and taken off the second (`sum-rest`); far
-- apart the second is the rest (`far-rest`). All of it fits words, since the result is no further from the sum than the first operand is.
use mathlib.Core.Path.{◌≡◌, sym, ap, ap₂, ◌∙◌}
use Prim.Native.Nat.{ℕ, ◌-◌, ◌*◌, ◌^◌}
use native.Mathlib.Omega.{arith}
use Rattle.number.specs.Number.{sum_of}
use Rattle.number.specs.declared.Number.{Number}
use Rattle.rests.specs.Rest.{rest_of}
use Rattle.rests.specs.declared.Rest.{Rest}
use Rattle.rests.proofs.Sums.{sum-start, sum-stop, more-fits, more-word, more-small, sum-rest, far-rest}
use Rattle.rests.proofs.sum.Goals as goal
use Rattle.rests.proofs.sum.Goals.{After-power}

-- the result in units of the first operand's last place
units : (c : After-power) → let r = sum_of c.args.a c.args.b in
    c.add-number.result.m * c.power.result ≡ r.m * 2 ^ (r.x - c.args.a.x)
units c = ap (λ (u : ℕ). c.add-number.result.m * u) c.power.ensures ∙ ap (λ (n : Number). n.m * 2 ^ (n.x - c.args.a.x)) c.add-number.ensures.value

pub returns-then-k-gt32 : goal.returns-then-k-gt32
returns-then-k-gt32 c = ap₂ (λ (n : Number) (t' : Rest). record { number = n; rest = t' }) c.add-number.ensures.value
    (c.odd_part-rest.ensures ∙ sym (far-rest _ _ c.requires.0 c.requires.1 c.if-k-gt32.true))

pub overflow_sub-number : goal.overflow_sub-number
overflow_sub-number c = rw c.add-number.ensures.value (sum-start _ _ c.requires.0 c.requires.1)

pub power-requires : goal.power-requires
power-requires c = rw c.add-number.ensures.value (omega (arith, sum-stop _ _ c.requires.0 c.requires.1))

pub overflow_mul-more : goal.overflow_mul-more
overflow_mul-more c = omega (arith, units (goal.at.overflow_mul-more c).After-power, more-word _ _ c.requires.0 c.requires.1)

pub overflow_sub-more : goal.overflow_sub-more
overflow_sub-more c = omega (arith, units (goal.at.overflow_sub-more c).After-power, more-fits _ _ c.requires.0 c.requires.1)

pub overflow_mul-more-else-k-gt32 : goal.overflow_mul-more-else-k-gt32
overflow_mul-more-else-k-gt32 c = let e =
    ap₂ (λ (u v : ℕ). (u - c.args.a.m) * v) (units (goal.at.overflow_mul-more-else-k-gt32 c).After-power) c.power-else-k-gt32.ensures in
    omega (arith, e, more-small _ _ c.requires.0 c.requires.1, c.requires.0.second.high)

pub returns-else-k-gt32 : goal.returns-else-k-gt32
returns-else-k-gt32 c = ap₂ (λ (n : Number) (t' : Rest). record { number = n; rest = t' }) c.add-number.ensures.value
    (c.difference-rest.ensures
    ∙ ap₂ (λ (u v : ℕ). rest_of c.args.b.m ((u - c.args.a.m) * v) c.args.b.x) (units (goal.at.returns-else-k-gt32 c).After-power) c.power-else-k-gt32.ensures
    ∙ sym (sum-rest c.args.a c.args.b c.requires.0 c.requires.1))
