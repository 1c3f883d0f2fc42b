-- `sentences::put_sentence` meets its contract: one part behind the other.
use Rattle.lines.specs.Ascii.{ascii}
use Rattle.lines.proofs.Text.{puts-behind}
use Rattle.notices.specs.Sentence.{sentence_of}
use Rattle.sentences.proofs.put_sentence.Goals as goal

pub returns : goal.returns
unfolding sentence_of
returns c = puts-behind c.put_front-space.ensures
    (puts-behind {a = ascii " "} c.put-reason.ensures (puts-behind (rw c.reason_of.ensures at c.put-end.ensures) c.put_places.ensures))
