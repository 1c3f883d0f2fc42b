-- The lines that programs answer with. The text of what a call reports (`report_text`) is the word of its answer and the values that it returned, each behind a
-- space; of a call that was turned down it is the refusal (`refusal_text`). A result with its rest has two words (`worked_text`), and so has an operation
-- (`performed_text`).
use Rattle.std.specs.Prelude.{ℕ, List, ◌++◌, ℤ, nat_abs, take, drop}
use Rattle.lines.specs.Ascii.{ascii}
use Rattle.lines.specs.Text.{signed_text, bytes_text, spaced}
use Rattle.number.specs.Integer.{is_negative}
use Rattle.verdict.specs.Report.{Report, accepted, refused}
use Rattle.notices.specs.Sentence.{refusal_text}

unfoldable pub integer_text : ℤ → List ℕ
integer_text x = signed_text (is_negative x) (nat_abs x)

-- numbers, each behind a space
abbrev pub values_text : List ℤ → List ℕ
values_text values = spaced integer_text values

-- THE TEXT OF A REPORT: `word` stands before the values of a call that was accepted
abbrev pub report_text : (word : List ℕ) → Report → List ℕ
report_text word (accepted values) = word ++ values_text values
report_text word (refused number offset) = refusal_text number offset

-- with two words: one before the first k values, and one before the others
abbrev pub two_texts : (word : List ℕ) → ℕ → (other : List ℕ) → Report → List ℕ
two_texts word k other (accepted values) = report_text word (accepted (take k values)) ++ report_text other (accepted (drop k values))
two_texts word k other (refused number offset) = refusal_text number offset

-- of a result with its rest
abbrev pub worked_text : Report → List ℕ
worked_text = two_texts (ascii "number") 2 (ascii " rest")

-- of an operation: its bound and its steps
abbrev pub performed_text : Report → List ℕ
performed_text = two_texts (ascii "bound") 1 (ascii " steps")

-- a text, and bytes behind it
abbrev pub with_bytes : (text bytes : List ℕ) → List ℕ
with_bytes text bytes = text ++ (ascii " " ++ bytes_text bytes)

-- the line asks for no call
abbrev pub bad_text : List ℕ
bad_text = ascii "bad request"
