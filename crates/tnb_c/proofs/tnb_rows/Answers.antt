-- `tnb_rows` meets its contract.
use mathlib.Core.Path.{ap, ◌∙◌}
use Prim.Native.Nat.{ℕ}
use mathlib.Core.List.{[], ◌∷◌}
use lib.IntN.{pos}
use Rattle.verdict.specs.Report.{accepted}
use Rattle.places.specs.Outcome.{Outcome}
use Rattle.shelf.specs.Run.{rows, run}
use Rattle.tnb_c.specs.declared.Length.{Length}
use Rattle.tnb_c.specs.Answers.{length_of}
use Rattle.tnb_c.proofs.Checked.{answered, turned-away}
use Rattle.tnb_c.proofs.tnb_rows.Goals as goal

abbrev answer : Outcome → Length
answer x = length_of x.report

pub returns-then-is_good : goal.returns-then-is_good
unfolding run
returns-then-is_good c = let read = ap (λ (k : ℕ). length_of (accepted (pos k ∷ []))) c.rows_at.ensures in
    answered _ (rows _) answer c.is_good.ensures.value c.if-is_good.true (c.of.ensures ∙ read)

pub returns : goal.returns
returns c = turned-away _ (rows _) answer c.is_good.ensures.value c.if-is_good.false c.foreign.ensures
