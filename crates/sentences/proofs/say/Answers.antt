-- `sentences::say` meets its contract: 220 bytes hold the sentence whole (`sentence-short`), so what was put is what is written.
use Prim.Native.Nat.{◌≤◌}
use native.Mathlib.Omega.{arith}
use mathlib.Core.Path.{◌≡◌, refl, sym, ap, ap₂, ◌∙◌}
use lib.ListN.{length, take, replicate}
use lib.Seq.{length-sets, length-take-le}
use Rattle.arrays.proofs.Runs.{take-sets-front}
use Rattle.lines.proofs.Text.{puts_whole}
use Rattle.notices.specs.Sentence.{Notice, notice, sentence_of}
use Rattle.notices.specs.Promise.{Bits64}
use Rattle.notices.proofs.Room.{sentence-short}
use Rattle.sentences.proofs.say.Goals as goal
use Rattle.sentences.proofs.say.Goals.{After-put_sentence-n}

abbrev handed : (c : After-put_sentence-n) → Notice
handed c = notice c.args.number c.args.offset c.args.places.now

bits : (c : After-put_sentence-n) → Bits64 (handed c)
bits c = record { number = c.ranges.number.fits; offset = c.ranges.offset.fits; places = λ i. (c.type_inv.places i).fits }

short : (c : After-put_sentence-n) → length (sentence_of (handed c)) ≤ 220
short c = sentence-short (handed c) (bits c) c.requires.0 c.requires.1

counted : (c : After-put_sentence-n) → c.put_sentence-n.result ≡ length (sentence_of (handed c))
counted c = (puts_whole c.put_sentence-n.ensures (short c)).0

-- the buffer then, and its front
within : (c : After-put_sentence-n) → c.put_sentence-n.result ≤ length c.put_sentence-n.new.out
within c = let kept = ap length c.put_sentence-n.ensures.bytes ∙ length-sets (replicate 220 0) 0 (sentence_of (handed c)) in
    omega (arith, kept, counted c, short c)

front : (c : After-put_sentence-n) → take c.put_sentence-n.result c.put_sentence-n.new.out ≡ sentence_of (handed c)
front c = ap₂ (λ n L. take n L) (counted c) c.put_sentence-n.ensures.bytes
    ∙ take-sets-front (length (sentence_of (handed c))) (replicate 220 0) (sentence_of (handed c)) refl (short c)

pub slice_bounds-text-end : goal.slice_bounds-text-end
slice_bounds-text-end c = within (goal.at.slice_bounds-text-end c).After-put_sentence-n

pub slice_bounds-write-end : goal.slice_bounds-write-end
slice_bounds-write-end c = sym (length-take-le _ _ (within (goal.at.slice_bounds-write-end c).After-put_sentence-n))

pub returns-clause-result_value : goal.returns-clause-result_value
returns-clause-result_value c = rw (front (goal.at.returns-clause-result_value c).After-put_sentence-n) at c.write.ensures.result_value

pub returns-clause-out_after : goal.returns-clause-out_after
returns-clause-out_after c = rw (front (goal.at.returns-clause-out_after c).After-put_sentence-n) at c.write.ensures.out_after
