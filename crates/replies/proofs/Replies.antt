-- A reply is given where its text was put and its shelf is handed back (`replied`), and one for an outcome is one for an equal outcome (`told-as`,
-- `report-as`, `performed-as`, `bytes-as`). The answer to a line by its length (`answer-overlong`, `answer-asked`).
use Prim.Native.Nat.{ℕ}
use mathlib.Core.Path.{◌≡◌, refl, sym, ◌∙◌}
use mathlib.Core.Bool.{Bool, true, false}
use mathlib.Core.List.{List}
use lib.IntN.{ℤ}
use Rattle.lines.specs.Text.{Puts}
use Rattle.verdict.specs.Report.{Report}
use Rattle.places.specs.declared.Shelf.{Shelf}
use Rattle.places.specs.Outcome.{Outcome, outcome}
use Rattle.answers.specs.Answers.{report_text, with_bytes, bad_text}
use Rattle.shelf.specs.Calls.{write_call, carry_call}
use Rattle.shelf.specs.Run.{run, write, carry}
use Rattle.requests.specs.Requests.{request_of}
use Rattle.replies.specs.declared.calls.Answered.{Answered}
use Rattle.replies.specs.Replies.{Reply, Replied, told, told_performed, told_bytes, reply, reply_to, overlong, answer_to}

module _ {out after : List ℕ} {at : ℕ} {r : Answered} where
  pub replied : {reply : Reply} {s : Shelf} {to : ℕ} →
      reply.shelf ≡ s → (r.shelf ≡ s) × (r.at ≡ to) → Puts out at reply.text after to → Replied reply out at after r
  replied kept e p = record { shelf = e.0 ∙ sym kept; text = rw e.1 p }

  pub told-as : (word : List ℕ) (o : Outcome) {o' : Outcome} → o ≡ o' → Replied (told word o) out at after r → Replied (told word o') out at after r
  told-as word o e p = rw e at p

  -- where the shelf stays, for an equal report
  pub report-as : (word : List ℕ) {s : Shelf} {a b : Report} → a ≡ b → Replied (told word (outcome s a)) out at after r
      → Replied (told word (outcome s b)) out at after r
  report-as word e p = rw e at p

  pub performed-as : (o : Outcome) {o' : Outcome} → o ≡ o' → Replied (told_performed o) out at after r → Replied (told_performed o') out at after r
  performed-as o e p = rw e at p

  -- with the bytes that were lent
  pub bytes-as : (word : List ℕ) (o : Outcome) {s : Shelf} {report : Report} {bytes : List ℕ} → o.shelf ≡ s → report ≡ o.report → bytes ≡ o.bytes
      → Replied (reply s (with_bytes (report_text word report) bytes)) out at after r → Replied (told_bytes word o) out at after r
  bytes-as word o k e f p = record { shelf = p.shelf ∙ sym k; text = rw (e, f) at p.text }

-- calls that are lent something leave the shelf as it is
pub write_keeps : (s : Shelf) (p : ℕ) (bytes : List ℕ) → (run s (write p bytes)).shelf ≡ s
unfolding run write_call
write_keeps s p bytes = refl

pub carry-keeps : (s : Shelf) (p : ℕ) (list items : List ℤ) → (run s (carry p list items)).shelf ≡ s
unfolding run carry_call
carry-keeps s p list items = refl

-- by its length a line's answer is that of a bad request, or that of what it asks
module _ (s : Shelf) (long : Bool) (line : List ℕ) where
  pub answer-overlong : overlong long line ≡ true → answer_to s long line ≡ reply s bad_text
  unfolding answer_to
  answer-overlong e = rw e

  pub answer-asked : overlong long line ≡ false → answer_to s long line ≡ reply_to s (request_of line)
  unfolding answer_to
  answer-asked e = rw e
