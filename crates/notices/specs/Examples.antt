-- Worked examples of sentences, as rows of one table (`sentence_rows`): the text, and what the call returns and leaves.
use Rattle.std.specs.Prelude.{ℕ, ◌-◌, ◌^◌, List, [], ◌∷◌, ◌++◌, pos, length, replicate}
use Rattle.number.specs.Examples.{Row, row}
use Rattle.verdict.specs.Report.{accepted, refused}
use Rattle.lines.specs.Ascii.{ascii}
use Rattle.notices.specs.Sentence.{Notice, notice, sentence_of, sentence_report, bytes_after_sentence}

-- so many lent bytes
abbrev lent : ℕ → List ℕ
lent n = replicate n 0xa5

-- its sentence has 36 bytes
abbrev empty_source : Notice
empty_source = notice 11 0 (6 ∷ [])

abbrev eight_places : List ℕ
eight_places = 0 ∷ 1 ∷ 2 ∷ 3 ∷ 4 ∷ 5 ∷ 6 ∷ 7 ∷ []

unfoldable pub sentence_rows : List Row
sentence_rows =
    row (sentence_of empty_source) (ascii "refused 11 at 0 source place empty 6")
    ∷ row (sentence_of (notice 2 1 [])) (ascii "refused 2 at 1 bytes end early")
    ∷ row (sentence_of (notice 22 105 (7 ∷ 3 ∷ 3 ∷ 10 ∷ []))) (ascii "refused 22 at 105 tolerance too large 7 3 3 10")
    ∷ row (sentence_of (notice 1 (2 ^ 64 - 1) (4294967296 ∷ [])))  -- any numbers of 64 bits
    (ascii "refused 1 at 18446744073709551615 no such place 4294967296")
    ∷ row (length (sentence_of (notice 19 (2 ^ 64 - 1) (replicate 7 (2 ^ 64 - 1))))) 220  -- the longest
    ∷ row (sentence_report empty_source (lent 38)) (accepted (pos 36 ∷ []))
    ∷ row (bytes_after_sentence empty_source (lent 38)) (sentence_of empty_source ++ lent 2)
    ∷ row (sentence_report empty_source (lent 36)) (accepted (pos 36 ∷ []))
    ∷ row (sentence_report empty_source (lent 35)) (refused 10 0)
    ∷ row (bytes_after_sentence empty_source (lent 35)) (lent 35)
    ∷ row (sentence_report (notice 0 0 []) (lent 220)) (refused 9 0)
    ∷ row (sentence_report (notice 23 0 []) (lent 220)) (refused 9 0)
    ∷ row (sentence_report (notice 257 0 []) (lent 220)) (refused 9 0)  -- modulo 256 it would be 1
    ∷ row (sentence_report (notice 1 0 eight_places) (lent 220)) (refused 9 0)
    ∷ row (bytes_after_sentence (notice 1 0 eight_places) (lent 50)) (lent 50)  -- room would be there
    ∷ row (sentence_report (notice 23 0 []) []) (refused 9 0)  -- 9 before 10
    ∷ []
