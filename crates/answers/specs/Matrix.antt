-- What a place holds, in an answer line (`place_text`): the reports of its rows and of its factors.
use Rattle.std.specs.Prelude.{ℕ, cond, List, [], ◌++◌}
use Rattle.lines.specs.Ascii.{ascii}
use Rattle.words.specs.Word.{for_up}
use Rattle.conditions.specs.Conditions.{empty}
use Rattle.places.specs.declared.Shelf.{Shelf}
use Rattle.places.specs.Shelf.{rows_at}
use Rattle.shelf.specs.Calls.{rows_call, factor_call}
use Rattle.answers.specs.Answers.{report_text}

-- a factor: no word, mantissa and exponent
abbrev pub factor_text : Shelf → ℕ → ℕ → ℕ → List ℕ
factor_text s p i j = report_text [] (factor_call s p i j)

-- the factors of row i, and of n rows, one row behind the other
unfoldable pub row_text : Shelf → ℕ → ℕ → ℕ → List ℕ
row_text s p n i = for_up 1 n (λ j. factor_text s p i j)

unfoldable pub factors_text : Shelf → ℕ → ℕ → List ℕ
factors_text s p n = for_up 1 n (λ i. row_text s p n i)

unfoldable pub place_text : Shelf → ℕ → List ℕ
place_text s p = cond (empty (rows_at s) p) (ascii "empty") (report_text (ascii "matrix") (rows_call s p) ++ factors_text s p (rows_at s p))
