-- A REFUSAL IN WORDS (document 02, request (n)): the sentence of a refusal's number, its offset and places (`sentence_of`), and the call that writes it to lent
-- bytes: its tests (`sentence_tests`), what it returns (`sentence_report`) and leaves (`bytes_after_sentence`).
use Rattle.std.specs.Prelude.{ℕ, Bool, not, ◌&&◌, ◌||◌, List, [], ◌∷◌, ◌++◌, leb, ltb, pos, length}
use Rattle.std.proofs.lemmas.List.Edits.{sets}
use Rattle.verdict.specs.declared.Reason.TheVariants.{WrongList}
use Rattle.verdict.specs.Verdict.{Verdict, when, first_of, after}
use Rattle.verdict.specs.Report.{Report, report_of}
use Rattle.lines.specs.Ascii.{ascii}
use Rattle.lines.specs.Text.{decimal, spaced}
use Rattle.writer.specs.Encoding.{room_test}
use Rattle.notices.specs.Reasons.{reason_of}

-- what a sentence tells: a refusal's number and offset, and places
pub record Notice : Type 0 where
  pub number : ℕ
  pub offset : ℕ
  pub places : List ℕ

abbrev pub notice : (number offset : ℕ) → (places : List ℕ) → Notice
notice number offset places = record { number = number; offset = offset; places = places }

-- refused N at P
unfoldable pub refusal_text : (number offset : ℕ) → List ℕ
refusal_text number offset = ascii "refused " ++ (decimal number ++ (ascii " at " ++ decimal offset))

-- THE SENTENCE: then the reason, then the places in the order given, one space before each part
unfoldable pub sentence_of : Notice → List ℕ
sentence_of a = refusal_text a.number a.offset ++ (ascii " " ++ (reason_of a.number ++ spaced decimal a.places))

-- a number outside 1 to 22, or more than seven places
abbrev pub unsayable : (number count : ℕ) → Bool
unsayable number count = not (leb 1 number && leb number 22) || ltb 7 count

-- the same of a notice
abbrev pub is_unsayable : Notice → Bool
is_unsayable a = unsayable a.number (length a.places)

-- 9, tested first; 10: the lent bytes are too few
abbrev pub sentence_tests : Notice → (out : List ℕ) → List Verdict
sentence_tests a out = when (is_unsayable a) WrongList ∷ room_test out (sentence_of a) ∷ []

-- what the call returns: the length
unfoldable pub sentence_report : Notice → (out : List ℕ) → Report
sentence_report a out = report_of (first_of (sentence_tests a out)) (pos (length (sentence_of a)) ∷ [])

-- the lent bytes then: none is changed where the call is refused, and else none past the length
unfoldable pub bytes_after_sentence : Notice → (out : List ℕ) → List ℕ
bytes_after_sentence a out = after (first_of (sentence_tests a out)) out (sets out 0 (sentence_of a))
