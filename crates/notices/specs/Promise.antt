-- THE PROMISES of the sentence call (document 02, request (n)): what was written tells these numbers, and they can be recovered from it in only one way
-- (`TellsOnly`); and 220 lent bytes are always enough (`sentence_room`).
use Rattle.std.specs.Prelude.{ℕ, ◌^◌, ◌≤◌, ◌<◌, ◌≡◌, List, [], ◌∷◌, pos, length, get_or, take, Result, Ok, Err}
use Rattle.verdict.specs.declared.Reason.TheVariants.{WrongList}
use Rattle.verdict.specs.declared.Refusal.{Refusal}
use Rattle.verdict.specs.Verdict.{when}
use Rattle.verdict.specs.Report.{Report, report_of}
use Rattle.writer.specs.Encoding.{written_report}
use Rattle.notices.specs.Sentence.{Notice, sentence_of, is_unsayable}

-- numbers of 64 bits, as the call takes them
abbrev pub AllBits64 : List ℕ → Type 0
AllBits64 L = (i : ℕ) → get_or L i 0 < 2 ^ 64

pub record Bits64 (a : Notice) : Type 0 where
  pub number : a.number < 2 ^ 64
  pub offset : a.offset < 2 ^ 64
  pub places : AllBits64 a.places

-- IN ONLY ONE WAY: the text is the sentence of a, and whatever notice has this text as its sentence is a
pub record TellsOnly (a : Notice) (text : List ℕ) : Type 0 where
  pub tells : sentence_of a ≡ text
  pub only : (b : Notice) → Bits64 b → sentence_of b ≡ text → b ≡ a

-- so of the bytes that an accepted call wrote, of a length n; of a refused call nothing
abbrev pub Recovered : Notice → (left : List ℕ) → Result ℕ Refusal → Type 0
Recovered a left (Ok n) = TellsOnly a (take n left)
Recovered a left (Err w) = Unit {0}

-- what a panel lends
abbrev pub sentence_room : ℕ
sentence_room = 220

-- with that room nothing but 9 turns the call down
abbrev pub Roomy : Notice → (out : List ℕ) → Report → Type 0
Roomy a out r = sentence_room ≤ length out → r ≡ report_of (when (is_unsayable a) WrongList) (pos (length (sentence_of a)) ∷ [])

-- both, of an answer to the lent bytes `out`, which it leaves as `left`
pub record Worded (a : Notice) (out left : List ℕ) (r : Result ℕ Refusal) : Type 0 where
  pub recovered : Recovered a left r
  pub roomy : Roomy a out (written_report r)
