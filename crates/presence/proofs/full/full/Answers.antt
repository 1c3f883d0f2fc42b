-- `full` meets its contract: a step, and none with a factor zero.
use borrow.Author.Rules.{rules}
use borrow.Author.Tests.{tests}
use mathlib.Core.Path.{refl}
use Prim.Native.Nat.{ℕ}
use native.Mathlib.Omega.{arith}
use Rattle.table.specs.Table.{factors_of}
use Rattle.walk.specs.Lent.{table_in}
use Rattle.walk.proofs.Minors.{joined_length}
use Rattle.std.proofs.lemmas.Iterator.{cases_from_all, YieldsList-from_range}
use Rattle.presence.specs.Full.{NoZero}
use Rattle.presence.proofs.NoZeros.{all-decides, no-zeros, no-zero-at}
use Rattle.presence.proofs.full.full.Goals as goal

pub returns-then-word-gt0 : goal.returns-then-word-gt0
returns-then-word-gt0 c =
    let w = c.args.word in
    let b = c.args.factors.now in
    let Yes : ℕ → Type 0 = λ i. NoZero w.n (factors_of (table_in b i)) in
    let No : ℕ → Type 0 = λ i. Yes i → ⊥ in
    all-decides c.all.result Yes No w.count
    (cases_from_all _ _ _ Yes No c.all.ensures.ran (YieldsList-from_range 0 w.count w.count refl (search rules)) (λ x q k. search (rules, tests))
    (λ x q k. search (rules, tests)))
    (λ h. record { some = omega (arith, joined_length w b (search rules)); factors = no-zeros w b (search rules) h })
    (λ i l z f. z (no-zero-at w b (search rules) f.factors i l))
