-- What the program prints (`program_text`), by the bytes of the two files: three calls of the shelf one after the other, and the text of the first refusal
-- (`refusal_line`), else the factors of place 2 (`result_text`).
use Rattle.std.specs.Prelude.{ℕ, List, [], ◌++◌}
use Rattle.lines.specs.Ascii.{ascii}
use Rattle.lines.specs.Text.{decimal}
use Rattle.words.specs.Word.{for_up}
use Rattle.verdict.specs.Report.{Report, accepted, refused}
use Rattle.places.specs.declared.Shelf.{Shelf}
use Rattle.places.specs.Shelf.{rows_at, empty_shelf}
use Rattle.places.specs.Outcome.{Outcome}
use Rattle.shelf.specs.Calls.{factor_call}
use Rattle.shelf.specs.Run.{run, load, product}
use Rattle.notices.specs.Sentence.{refusal_text}
use Rattle.answers.specs.Answers.{report_text}

-- row, column, and the mantissa and exponent that a factor reports
unfoldable pub factor_line : ℕ → ℕ → Report → List ℕ
factor_line i j factor = decimal i ++ (ascii " " ++ (decimal j ++ (report_text [] factor ++ ascii "\n")))

-- the factors of row i, and of n rows, one row behind the other
unfoldable pub row_lines : Shelf → ℕ → ℕ → List ℕ
row_lines s n i = for_up 1 n (λ j. factor_line i j (factor_call s 2 i j))

unfoldable pub factor_lines : Shelf → ℕ → List ℕ
factor_lines s n = for_up 1 n (λ i. row_lines s n i)

unfoldable pub result_text : Shelf → List ℕ
result_text s = decimal (rows_at s 2) ++ (ascii "\n" ++ factor_lines s (rows_at s 2))

unfoldable pub refusal_line : (number offset : ℕ) → List ℕ
refusal_line number offset = refusal_text number offset ++ ascii "\n"

-- a refused call's refusal, else a text
abbrev pub unless_refused : Report → List ℕ → List ℕ
unless_refused (accepted values) text = text
unless_refused (refused number offset) text = refusal_line number offset

-- a product's refusal, else what it left at place 2
unfoldable pub printed : Outcome → List ℕ
printed o = unless_refused o.report (result_text o.shelf)

-- the left file's bytes loaded to place 0 of an empty shelf, the right file's to place 1 of the shelf after that, and their product put at place 2
abbrev pub left_loaded : List ℕ → Outcome
left_loaded left = run empty_shelf (load 0 left)

abbrev pub right_loaded : List ℕ → List ℕ → Outcome
right_loaded left right = run (left_loaded left).shelf (load 1 right)

abbrev pub multiplied : List ℕ → List ℕ → Outcome
multiplied left right = run (right_loaded left right).shelf (product 0 1 2)

-- no text has more bytes (`program-short`)
abbrev pub longest_text : ℕ
longest_text = 9000

unfoldable pub program_text : List ℕ → List ℕ → List ℕ
program_text left right = unless_refused (left_loaded left).report (unless_refused (right_loaded left right).report (printed (multiplied left right)))
