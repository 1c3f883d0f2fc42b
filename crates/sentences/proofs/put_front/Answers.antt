-- `sentences::put_front` meets its contract: one piece behind the other.
use Rattle.lines.specs.Ascii.{ascii}
use Rattle.lines.proofs.Text.{puts-behind}
use Rattle.notices.specs.Sentence.{refusal_text}
use Rattle.sentences.proofs.put_front.Goals as goal

pub returns : goal.returns
unfolding refusal_text
returns c = puts-behind {a = ascii "refused "} c.put-first.ensures
    (puts-behind c.put_whole-middle.ensures (puts-behind {a = ascii " at "} c.put-second.ensures c.put_whole.ensures))
