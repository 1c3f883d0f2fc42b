-- `tnb_write` meets its contract.
use mathlib.Core.Path.{refl, ap, ◌∙◌}
use Rattle.places.specs.Outcome.{Outcome}
use Rattle.shelf.specs.Run.{write, run}
use Rattle.tnb_c.specs.declared.Length.{Length}
use Rattle.tnb_c.specs.Answers.{length_of}
use Rattle.tnb_c.proofs.Checked.{answered, turned-away}
use Rattle.tnb_c.proofs.tnb_write.Goals as goal

abbrev answer : Outcome → Length
answer x = length_of x.report

pub write-requires : goal.write-requires
write-requires c = c.is_good.ensures.good c.if-is_good.true

pub returns-then-is_good : goal.returns-then-is_good
unfolding run
returns-then-is_good c =
    record {
      value = answered _ (write _ _) answer c.is_good.ensures.value c.if-is_good.true (c.into.ensures ∙ ap length_of c.write.ensures.result_value);
      out_after = answered _ (write _ _) (λ (x : Outcome). x.bytes) c.is_good.ensures.value c.if-is_good.true c.write.ensures.out_after;
    }

pub returns : goal.returns
returns c =
    record {
      value = turned-away _ (write _ _) answer c.is_good.ensures.value c.if-is_good.false c.foreign.ensures;
      out_after = turned-away _ (write _ _) (λ (x : Outcome). x.bytes) c.is_good.ensures.value c.if-is_good.false refl;
    }
