-- `sentences::write` meets its contract: the room is tested before a byte is written, so that nothing is left out.
use Prim.Native.Nat.{ℕ}
use mathlib.Core.Path.{sym, ap, ◌∙◌}
use mathlib.Core.List.{[], ◌∷◌}
use lib.IntN.{pos}
use Rattle.verdict.specs.Report.{accepted}
use Rattle.writer.proofs.Writing.{writing-room, writing-done}
use Rattle.lines.proofs.Text.{puts_whole}
use Rattle.sentences.proofs.write.Goals as goal

pub returns-clause-result_value : goal.returns-clause-result_value
returns-clause-result_value c =
    let fits = sym c.in_ok-refuse_if.ensures in
    let p = puts_whole c.put.ensures (writing-room _ _ fits) in
    ap (λ (k : ℕ). accepted (pos k ∷ [])) p.0 ∙ (writing-done _ _ fits).0

pub returns-clause-out_after : goal.returns-clause-out_after
returns-clause-out_after c =
    let fits = sym c.in_ok-refuse_if.ensures in
    (puts_whole c.put.ensures (writing-room _ _ fits)).1 ∙ (writing-done _ _ fits).1
