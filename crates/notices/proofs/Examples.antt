-- The worked examples of sentences hold, by computing.
use mathlib.Core.Path.{refl}
use mathlib.Core.List.{flat_map}
use Rattle.verdict.specs.Verdict.{first_behind}
use Rattle.number.specs.Examples.{AllHold}
use Rattle.lines.specs.Text.{decimal_in}
use Rattle.notices.specs.Reasons.{reasons, reason_of}
use Rattle.notices.specs.Sentence.{refusal_text, sentence_of, sentence_report, bytes_after_sentence}
use Rattle.notices.specs.Examples.{sentence_rows}

pub examples : AllHold sentence_rows
unfolding sentence_rows sentence_of refusal_text reason_of reasons decimal_in flat_map sentence_report bytes_after_sentence first_behind
examples = (refl, (refl, (refl, (refl, (refl, (refl, (refl, (refl, (refl, (refl, (refl, (refl, (refl, (refl, (refl, (refl, tt))))))))))))))))
