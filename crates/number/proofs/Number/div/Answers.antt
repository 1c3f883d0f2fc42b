-- `Number::div` meets its contract: zero divided, or the quotient of the mantissas. The laws of the direction are `lawful`, those of its digits
-- `quotient-divided`.
use mathlib.Core.Path.{◌≡◌, sym, ◌∙◌, subst}
use Prim.Native.Nat.{◌+◌, ◌<◌}
use native.Mathlib.Omega.{arith}
use Rattle.fraction.specs.Fraction.{fraction_quotient}
use Rattle.number.proofs.Division.{quotient-at, quotient-divided}
use Rattle.number.proofs.Zero.{zero_is, quotient-zero-left}
use Rattle.number.proofs.Toward.{lawful}
use Rattle.number.specs.Division.{Divided}
use Rattle.number.specs.Number.{value, reach, quotient_by}
use Rattle.number.specs.Toward.{Directed}
use Rattle.number.specs.declared.Number.{Number}
use Rattle.number.proofs.Number.div.Goals as goal
use Rattle.number.proofs.Number.div.Goals.{Start}

-- the quotient keeps the laws of its direction, and the whole quotient its digits
promised : (s : Start) (r : Number) → let a = s.args in r ≡ quotient_by a.direction a.self a.other
    → (r ≡ quotient_by a.direction a.self a.other)
    × (Directed a.direction (reach + reach + 32) (fraction_quotient (value a.self) (value a.other)) r
    × (0 < a.self.m → Divided a.direction a.self a.other r))
promised s r e = let a = s.args in
    let q = fraction_quotient (value a.self) (value a.other) in
    let d = (lawful a.direction).quotient s.requires.0 s.requires.1 (omega arith) s.requires.2 in (
      e,
      (
        subst (Directed a.direction (reach + reach + 32) q) (sym e) d,
        λ h. subst (Divided a.direction a.self a.other) (sym e) (quotient-divided a.direction s.requires.0 s.requires.1 h s.requires.2),
      ),
    )

pub returns-then-self-eq0 : goal.returns-then-self-eq0
returns-then-self-eq0 c =
    let met = promised (goal.at.returns-then-self-eq0 c).Start _
    (zero_is c.args.self c.requires.0 c.if-self-eq0.true ∙ sym (quotient-zero-left c.args.direction c.args.self c.args.other c.if-self-eq0.true)) in
    record { value = met.0; directed = met.1.0; divided = met.1.1 }

pub returns : goal.returns
returns c =
    let met = promised (goal.at.returns c).Start _ (c.quotient.ensures
    ∙ sym (quotient-at c.args.direction c.requires.0 c.requires.1 (omega arith) c.requires.2)) in
    record { value = met.0; directed = met.1.0; divided = met.1.1 }
