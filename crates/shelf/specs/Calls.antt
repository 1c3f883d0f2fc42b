-- Load, drop, write and carry (document 01, "Shelf calls"): what each leaves and returns, refused calls included. The bytes that writing takes (`length_call`).
-- Reading a place: its rows (`rows_call`) and factors (`factor_call`).
use Rattle.std.specs.Prelude.{ℕ, ◌≤◌, ◌<◌, ◌≡◌, cond, ◌&&◌, List, [], ◌∷◌, ◌++◌, ltb, leb, ℤ, pos, length}
use Rattle.std.proofs.lemmas.List.Edits.{sets}
use Rattle.number.specs.declared.Number.{Number}
use Rattle.number.specs.Number.{zero_number, exponent_of}
use Rattle.words.specs.Operation.{row_by_row}
use Rattle.writer.specs.Encoding.{encoding}
use Rattle.reader.specs.Matrix.{Reading, matrix, fault, matrix_of}
use Rattle.items.specs.Items.{list_numbers, items_of}
use Rattle.lists.specs.Lists.{carry_tests, carried_list}
use Rattle.std.specs.Prelude.{Ok}
use Rattle.verdict.specs.declared.Reason.TheVariants.{BytesBehind, OutputTooShort}
use Rattle.verdict.specs.Verdict.{Verdict, first_of, after, when, refused_at}
use Rattle.verdict.specs.Report.{Report, accepted, refused, report_of, verdict_report}
use Rattle.places.specs.declared.Shelf.{Shelf}
use Rattle.table.specs.Table.{square_of}
use Rattle.places.specs.Shelf.{rows_at, factors_at, holding, without}
use Rattle.places.specs.Outcome.{Outcome, outcome}
use Rattle.places.specs.Tests.{source_tests, target_tests}

-- a call that only changes the shelf
abbrev pub changing : Verdict → Shelf → Shelf → Outcome
changing v old new = outcome (after v old new) (verdict_report v)

-- LOAD
-- 2 to 6, or 16: a fault in the matrix, at its offset; 7: bytes behind it
abbrev pub of_reading : List ℕ → Reading → Verdict
of_reading bytes (matrix n L q) = cond (ltb q (length bytes)) (refused_at BytesBehind q) (Ok tt)
of_reading bytes (fault k o) = refused_at k o

abbrev pub load_tests : Shelf → ℕ → List ℕ → List Verdict
load_tests s p bytes = target_tests s p ++ (of_reading bytes (matrix_of bytes) ∷ [])

abbrev pub read_to : Shelf → ℕ → Reading → Shelf
read_to s p (matrix n L q) = holding s p n (square_of n L)
read_to s p (fault k o) = s

unfoldable pub load_call : Shelf → ℕ → List ℕ → Outcome
load_call s p bytes = changing (first_of (load_tests s p bytes)) s (read_to s p (matrix_of bytes))

-- DROP
unfoldable pub drop_call : Shelf → ℕ → Outcome
drop_call s p = changing (first_of (source_tests s p)) s (without s p)

-- WRITE: 10, the lent bytes are too few. It returns the length
unfoldable pub bytes_at : Shelf → ℕ → List ℕ
bytes_at s p = encoding (rows_at s p) (row_by_row (rows_at s p) (factors_at s p))

abbrev pub write_tests : Shelf → ℕ → List ℕ → List Verdict
write_tests s p out = source_tests s p ++ (when (ltb (length out) (length (bytes_at s p))) OutputTooShort ∷ [])

abbrev pub writing : Shelf → ℕ → List ℕ → Verdict → Outcome
writing s p out v = record { shelf = s; report = report_of v (pos (length (bytes_at s p)) ∷ []); bytes = after v out (sets out 0 (bytes_at s p)); items = [] }

unfoldable pub write_call : Shelf → ℕ → List ℕ → Outcome
write_call s p out = writing s p out (first_of (write_tests s p out))

-- LENGTH: how many bytes writing a place takes (document 02, (k)); it is lent nothing
unfoldable pub length_call : Shelf → ℕ → Report
length_call s p = report_of (first_of (source_tests s p)) (pos (length (bytes_at s p)) ∷ [])

-- WHAT A LENGTH f TELLS of a write to so many lent bytes, which reports r: it is turned down alike; or it is done in just that length; or there is no room, 10
pub data Measures (room : ℕ) (f r : Report) : Type 0 where
  turned_down : (k o : ℕ) → f ≡ refused k o → r ≡ refused k o → Measures room f r
  done-in : (k : ℕ) → f ≡ accepted (pos k ∷ []) → k ≤ room → r ≡ accepted (pos k ∷ []) → Measures room f r
  no_room : (k : ℕ) → f ≡ accepted (pos k ∷ []) → room < k → r ≡ refused 10 0 → Measures room f r

-- whatever is lent
abbrev pub Measuring : Shelf → ℕ → Report → Type 0
Measuring s p f = (out : List ℕ) → Measures (length out) f (write_call s p out).report

-- CARRY a list through a place's word: the tests of the place, then 9, 14 and 10
abbrev pub carried_at : Shelf → ℕ → List ℤ → List ℤ
carried_at s p items = list_numbers (carried_list (rows_at s p) (factors_at s p) (items_of items))

abbrev pub place_carry_tests : Shelf → ℕ → (items out : List ℤ) → List Verdict
place_carry_tests s p items out = source_tests s p ++ carry_tests (rows_at s p) (factors_at s p) items out

abbrev pub carrying : Shelf → ℕ → (items out : List ℤ) → Verdict → Outcome
carrying s p items out v = record { shelf = s; report = verdict_report v; bytes = []; items = after v out (sets out 0 (carried_at s p items)) }

unfoldable pub carry_call : Shelf → ℕ → (items out : List ℤ) → Outcome
carry_call s p items out = carrying s p items out (first_of (place_carry_tests s p items out))

-- THE ROWS of a place, 0 where it is empty or above 7
abbrev pub rows_call : Shelf → ℕ → Report
rows_call s p = accepted (pos (rows_at s p) ∷ [])

-- A FACTOR of a place, mantissa and exponent; zero, with mantissa and exponent 0, where the place holds none
abbrev pub factor_or_zero : Shelf → ℕ → ℕ → ℕ → Number
factor_or_zero s p i j = cond ((leb 1 i && leb 1 j) && (leb i (rows_at s p) && leb j (rows_at s p))) (factors_at s p i j) zero_number

unfoldable pub factor_call : Shelf → ℕ → ℕ → ℕ → Report
factor_call s p i j = accepted (pos (factor_or_zero s p i j).m ∷ exponent_of (factor_or_zero s p i j) ∷ [])
