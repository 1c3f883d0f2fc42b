-- `put_step` meets its contract: the letters and the factors of the step stand behind those of the others.
use mathlib.Core.Path.{refl}
use Rattle.walk.proofs.Steps.{put-steps, put-prepared}
use Rattle.walk.proofs.source.put_step.Goals as goal

pub returns : goal.returns
returns c = record {
  prepared = (
    put-prepared c.args.word c.args.way c.requires.0 c.requires.3 c.requires.2 c.spell.ensures.kept c.spell.ensures.spelled c.spell.ensures.l_len
        c.put_factors.ensures.b_len,
    refl,
    refl,
  );
  b_after = put-steps c.args.word c.args.way c.requires.0 c.requires.3 c.put_factors.ensures.kept c.put_factors.ensures.c_after;
}
