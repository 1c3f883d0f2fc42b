-- HOW LONG A SENTENCE IS: at most 220 bytes (`sentence-short`), by the lengths of its parts; a refusal alone at most 52 (`refusal-short`).
use Prim.Native.Nat.{ℕ, ◌≤◌}
use native.Mathlib.Omega.{arith}
use lib.ListN.{length, length-append}
use Rattle.lines.specs.Text.{decimal}
use Rattle.lines.proofs.Decimals.{decimal-short, decimal-within}
use Rattle.lines.proofs.Text.{spaced-short}
use Rattle.notices.specs.Reasons.{HasReason}
use Rattle.notices.specs.Sentence.{Notice, refusal_text, sentence_of}
use Rattle.notices.specs.Promise.{Bits64, sentence_room}
use Rattle.notices.proofs.Asked.{reasons-asked}

-- 8 + 20 + 4 + 20
pub refusal-short : (number offset : ℕ) → length (refusal_text number offset) ≤ 52
unfolding refusal_text
refusal-short number offset = simp length-append (omega (arith, decimal-within 20 number, decimal-within 20 offset))

-- 8 + 2 + 4 + 20 + 1 + 38 + 7 * 21
pub sentence-short : (a : Notice) → Bits64 a → HasReason a.number → length a.places ≤ 7 → length (sentence_of a) ≤ sentence_room
unfolding sentence_of refusal_text
sentence-short a f h l =
    simp length-append
    (omega (
      arith,
      decimal-short 1 20 a.number (omega (arith, h)),
      decimal-short 19 20 a.offset (omega (arith, f.offset)),
      reasons-asked.short a.number h,
      spaced-short decimal 20 (decimal-within 20) a.places,
    ))
