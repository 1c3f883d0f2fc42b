-- `Number::add` meets its contract: zero operands, and else the one with the lower exponent second. The laws of the direction are `lawful`.
use mathlib.Core.Path.{◌≡◌, refl, sym, ◌∙◌, subst}
use Prim.Native.Nat.{◌+◌, ◌-◌, ◌*◌, ◌^◌, ◌≤◌, ◌<◌}
use native.Mathlib.Omega.{arith}
use Rattle.fraction.specs.Fraction.{fraction_sum}
use Rattle.number.specs.Number.{value, reach, round_by, sum_by, FullDigits}
use Rattle.number.specs.Toward.{Directed}
use Rattle.number.specs.declared.Number.{Number}
use Rattle.number.proofs.Toward.{lawful}
use Rattle.number.proofs.Zero.{sum-zero-left, sum-zero-right, sum-ordered}
use Rattle.number.proofs.Number.add.Goals as goal
use Rattle.number.proofs.Number.add.Goals.{After-either_number-2, Start}

-- the sum keeps the laws of its direction
promised : (s : Start) (r : Number) → let a = s.args in r ≡ sum_by a.direction a.self a.other
    → (r ≡ sum_by a.direction a.self a.other) × Directed a.direction (reach + 2) (fraction_sum (value a.self) (value a.other)) r
promised s r e = let a = s.args in (
  e,
  subst (Directed a.direction (reach + 2) (fraction_sum (value a.self) (value a.other))) (sym e)
      ((lawful a.direction).sum s.requires.0 s.requires.1 (omega arith)),
)

pub returns-then-self-eq0 : goal.returns-then-self-eq0
returns-then-self-eq0 c =
    let met = promised (goal.at.returns-then-self-eq0 c).Start _
    (sym (sum-zero-left c.args.direction c.args.self c.args.other c.requires.1 c.if-self-eq0.true)) in
    record { value = met.0; directed = met.1 }

pub returns-then-other-eq0 : goal.returns-then-other-eq0
returns-then-other-eq0 c =
    let met = promised (goal.at.returns-then-other-eq0 c).Start _
    (sym (sum-zero-right c.args.direction c.args.self c.args.other c.requires.0 c.if-other-eq0.true)) in
    record { value = met.0; directed = met.1 }

-- the operands as they were chosen
chosen : (c : After-either_number-2) → let h = c.either_number.result in let l = c.either_number-2.result in
    (FullDigits h.m × (l.m < 2 ^ 32) × (l.x ≤ h.x) × (32 ≤ l.x) × (h.x < 2 ^ 61))
    × (round_by c.args.direction (h.m * 2 ^ (h.x - l.x) + l.m) 1 l.x ≡ sum_by c.args.direction c.args.self c.args.other)
chosen c = sum-ordered c.args.direction c.args.self c.args.other c.requires.0 c.requires.1 (omega arith) (omega arith) _ refl
    c.either_number.ensures c.either_number-2.ensures

pub returns : goal.returns
returns c =
    let met = promised (goal.at.returns c).Start _ (c.sum.ensures ∙ (chosen (goal.at.returns c).After-either_number-2).1) in
    record { value = met.0; directed = met.1 }
