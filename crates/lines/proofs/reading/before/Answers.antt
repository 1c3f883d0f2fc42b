-- `lines::before` meets its contract: what `position` answers is how many bytes stand before the first stop.
use mathlib.Core.Path.{◌≡◌, sym, ◌∙◌}
use borrow.Author.Tests.{tests}
use Rattle.std.proofs.Common.{rules}
use Rattle.std.proofs.lemmas.Iterator.{IsFirst-from_position, YieldsList-from_slice}
use Rattle.lines.proofs.Words.{before-first}
use Rattle.lines.proofs.reading.before.Goals as goal

pub returns-clause-value : goal.returns-clause-value
returns-clause-value c =
    let s = c.args.s.now in
    let stop = c.args.stop in
    c.unwrap_or.ensures ∙ sym (before-first stop s c.position.result
    (IsFirst-from_position _ _ _ (λ b. b ≡ stop) (λ b. b ≡ stop → ⊥) c.position.ensures.ran (YieldsList-from_slice s cc)
    (λ x q k. search (rules, tests)) (λ x q k. search (rules, tests))))
