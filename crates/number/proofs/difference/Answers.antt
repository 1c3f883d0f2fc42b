-- `difference` meets its contract: near operands are worked in full, and far ones round as the larger less an eighth.
use mathlib.Core.Path.{◌≡◌, sym, ap, ◌∙◌}
use mathlib.Core.Logic.{⊎_elim}
use Prim.Native.Nat.{ℕ, ◌+◌, ◌-◌, ◌*◌, ◌^◌, ◌≤◌, ◌<◌}
use native.Mathlib.Omega.{arith}
use lib.Pow.{pow_mono}
use Rattle.number.proofs.Exact.{difference-far}
use Rattle.number.specs.Number.{round, FullDigits}
use Rattle.number.specs.declared.Number.{Number}
use Rattle.number.proofs.difference.Goals as goal

-- both round to the first number
alike : (a b : Number) → FullDigits a.m → 0 < b.m → b.m < 2 ^ 32 → 33 ≤ a.x - b.x → (a.m ≡ 2 ^ 31 → a.x - b.x ≡ 33 → ⊥)
    → round (a.m * 8 - 1) 1 (a.x - 3) ≡ round (a.m * 2 ^ (a.x - b.x) - b.m) 1 b.x
alike a b f p q l least =
    let k = a.x - b.x in
    let far : 2 ^ 33 ≤ 2 ^ k = pow_mono {i = 33} {j = k} l in
    let e : a.x - 3 + 3 ≡ b.x + k = omega arith in
    let quarter : a.m ≡ 2 ^ 31 → b.m * 4 < 2 ^ k = λ (g : a.m ≡ 2 ^ 31). let h : 34 ≤ k = omega (arith, least g) in
    omega (arith, pow_mono {i = 34} {j = k} h) in
    difference-far a.m 1 (a.x - 3) 3 (omega arith) (λ g. omega arith) f.low f.high (omega arith)
    ∙ ap (λ (x : ℕ). record { m = a.m; x = x }) e
    ∙ sym (difference-far a.m b.m b.x k (omega arith) quarter f.low f.high p)

pub returns : goal.returns
returns c = c.round_integer-2.ensures
    ∙ alike c.args.a c.args.b c.requires.0 c.requires.1 c.requires.2 c.if-k-lt33.false (λ f g. ⊎_elim (λ w. w.1 f) (λ w. w g) c.else-k-eq33.either)
