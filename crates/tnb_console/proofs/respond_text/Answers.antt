-- `tnb_console::respond_text` meets its contract: the lines are answered, and what goes on is judged by its length (`text-answered`).
use mathlib.Core.Path.{refl}
use Rattle.tnb_console.proofs.Going.{orderly-as, text-answered}
use Rattle.tnb_console.proofs.respond_text.Goals as goal

pub returns : goal.returns
returns c =
    record {
      orderly_2 = orderly-as c.respond_all-now.ensures.orderly_2 refl refl;
      text_answered = text-answered c.respond_all-now.ensures.responded c.requires.start_value _ refl refl refl refl;
    }
