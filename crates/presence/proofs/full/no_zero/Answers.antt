-- `no_zero` meets its contract: a number is past the columns or not zero, or else a factor zero is found.
use borrow.Author.Rules.{rules}
use borrow.Author.Tests.{tests}
use mathlib.Core.Path.{◌≡◌, refl}
use Prim.Native.Nat.{ℕ, ◌+◌, ◌*◌, ◌%◌, ◌<◌}
use lib.ListN.{get_or}
use Rattle.std.proofs.lemmas.Iterator.{cases_from_all, YieldsList-from_range}
use Rattle.presence.proofs.NoZeros.{all-decides, none-zero, zero-found}
use Rattle.presence.proofs.full.no_zero.Goals as goal

pub returns : goal.returns
returns c =
    let a = c.args in
    let b = a.factors.now in
    let Zero : ℕ → Type 0 = λ t. get_or b (2 * (a.c * 64 + t)) 0 ≡ 0 in
    let Yes : ℕ → Type 0 = λ t. t % 8 < a.n → Zero t → ⊥ in
    let No : ℕ → Type 0 = λ t. (t % 8 < a.n) × Zero t in
    all-decides c.all.result Yes No (a.n * 8)
    (cases_from_all _ _ _ Yes No c.all.ensures.ran (YieldsList-from_range 0 (a.n * 8) (a.n * 8) refl (search rules)) (λ x q k. search (rules, tests))
    (λ x q k. search (rules, tests)))
    (none-zero b a.n a.c (search rules)) (λ t l z. zero-found b a.n a.c t l (search rules) z.0 z.1)
