-- The invariant of the loop of `lines::put_pairs`: the pairs put so far, and those that are left, make the text.
use Rattle.lines.specs.Text.{pair_text}
use Rattle.lines.proofs.Text.{Spelt}
use Rattle.lines.proofs.writing.put_pairs.Given as goal

abbrev pub invariant-loop-b : goal.invariant-loop-b
invariant-loop-b l = Spelt pair_text l.initial.out l.at l.s l.out l.to l.b-index
